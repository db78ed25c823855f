-- What the first word of a file shows: whether it is that of a head in a form.
use Rattle.std.specs.Prelude.{◌≡◌, refl, List, [], ◌∷◌, ℕ, ◌≤◌, eqb, length, get_or}
use Rattle.std.proofs.Common.{sym, ap, ◌∙◌, arith}
use Rattle.catalogue_rules.specs.Word.{Word, kind, kind_of, decode, words_of}
use Rattle.catalogue_rules.specs.Catalogue.{Form, head_kind}
use Rattle.catalogue_rules.specs.Read.{opens_in}
use Rattle.catalogue_rules.proofs.Laws.Word.{decode_range, kind-encode, encode-decode}
use Rattle.catalogue_steps.specs.Words.{opens, opens_by-kind}

kind-decode : (n : ℕ) → kind_of (decode n) ≡ kind n
kind-decode n = sym (kind-encode (decode n) (decode_range n)) ∙ ap kind (encode-decode n)

module _ (f : Form) where
  opens-kind : (bytes : List ℕ) → 4 ≤ length bytes → eqb (kind (get_or (words_of bytes) 0 0)) (head_kind f) ≡ opens_in f (words_of bytes)
  opens-kind [] h = absurd (omega arith)
  opens-kind (a ∷ []) h = absurd (omega arith)
  opens-kind (a ∷ b ∷ []) h = absurd (omega arith)
  opens-kind (a ∷ b ∷ c ∷ []) h = absurd (omega arith)
  opens-kind (a ∷ b ∷ c ∷ d ∷ bytes) h = refl

  pub opens-first : (bytes : List ℕ) → 4 ≤ length bytes → {w : Word} → w ≡ decode (get_or (words_of bytes) 0 0) → opens f w ≡ opens_in f (words_of bytes)
  opens-first bytes h is =
      ap (opens f) is
      ∙ opens_by-kind f (decode (get_or (words_of bytes) 0 0))
      ∙ ap (λ k. eqb k (head_kind f)) (kind-decode (get_or (words_of bytes) 0 0))
      ∙ opens-kind bytes h
