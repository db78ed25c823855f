-- The code's words as the words of the definition, and a word out of four bytes.
use Rattle.std.specs.Prelude.{◌≡◌, refl, Bool, true, false, eqb, List, [], ◌∷◌, ℕ, zero, suc, ◌+◌, ◌*◌, ◌≤◌, length, get_or}
use Rattle.std.proofs.Common.{ap, arith}
use Rattle.catalogue_rules.specs.Word as words
use Rattle.catalogue_rules.specs.Word.{words_of}
use Rattle.catalogue_rules.specs.Catalogue.{Form, old, new, head_kind}
use Rattle.catalogue_steps.specs.declared.words.Word.{Word}
use Rattle.catalogue_steps.specs.declared.words.Word.TheVariants.{Head, Coordinate, See, End, Draft, HeadNumber, HeadSize, Other}

abbrev pub word_in : Word → words.Word
word_in (Head number d m) = words.head number d m
word_in (Coordinate l) = words.coordinate l
word_in (See number) = words.see number
word_in (End count) = words.end count
word_in (Draft l) = words.draft l
word_in (HeadNumber number) = words.head_number number
word_in (HeadSize high d m) = words.head_size high d m
word_in (Other k l) = words.other k l

-- the first word of a head in a form; of other words the kind tells it
abbrev pub opens : Form → words.Word → Bool
opens old (words.head number d m) = true
opens new (words.head_number number) = true
opens f (words.other k l) = eqb k (head_kind f)
opens _ _ = false

-- it is told by its kind
pub opens_by-kind : (f : Form) (w : words.Word) → opens f w ≡ eqb (words.kind_of w) (head_kind f)
opens_by-kind old (words.head number d m) = refl
opens_by-kind old (words.coordinate l) = refl
opens_by-kind old (words.see number) = refl
opens_by-kind old (words.end count) = refl
opens_by-kind old (words.draft l) = refl
opens_by-kind old (words.head_number number) = refl
opens_by-kind old (words.head_size high d m) = refl
opens_by-kind old (words.other k l) = refl
opens_by-kind new (words.head number d m) = refl
opens_by-kind new (words.coordinate l) = refl
opens_by-kind new (words.see number) = refl
opens_by-kind new (words.end count) = refl
opens_by-kind new (words.draft l) = refl
opens_by-kind new (words.head_number number) = refl
opens_by-kind new (words.head_size high d m) = refl
opens_by-kind new (words.other k l) = refl

-- the word that four bytes make
abbrev pub word_from : List ℕ → ℕ → ℕ
word_from bytes at = get_or bytes at 0 + get_or bytes (at + 1) 0 * 256 + get_or bytes (at + 2) 0 * 65536 + get_or bytes (at + 3) 0 * 16777216

module _ (a b c d : ℕ) (bytes : List ℕ) (i : ℕ) where
  past : (k : ℕ) {n : ℕ} → n ≡ i * 4 + k → get_or (a ∷ b ∷ c ∷ d ∷ bytes) (suc i * 4 + k) 0 ≡ get_or bytes n 0
  past k {n} e =
      let f : suc i * 4 + k ≡ suc (suc (suc (suc n))) = omega arith in
      ap (λ j. get_or (a ∷ b ∷ c ∷ d ∷ bytes) j 0) f

  first : get_or (a ∷ b ∷ c ∷ d ∷ bytes) (suc i * 4) 0 ≡ get_or bytes (i * 4) 0
  first =
      let f : suc i * 4 ≡ suc (suc (suc (suc (i * 4)))) = omega arith in
      ap (λ j. get_or (a ∷ b ∷ c ∷ d ∷ bytes) j 0) f

pub word-from : (bytes : List ℕ) (i : ℕ) → i * 4 + 4 ≤ length bytes → word_from bytes (i * 4) ≡ get_or (words_of bytes) i 0
word-from [] i h = absurd (omega arith)
word-from (a ∷ []) i h = absurd (omega arith)
word-from (a ∷ b ∷ []) i h = absurd (omega arith)
word-from (a ∷ b ∷ c ∷ []) i h = absurd (omega arith)
word-from (a ∷ b ∷ c ∷ d ∷ bytes) zero h = omega arith
word-from (a ∷ b ∷ c ∷ d ∷ bytes) (suc i) h =
    rw (first a b c d bytes i, past a b c d bytes i 1 refl, past a b c d bytes i 2 refl, past a b c d bytes i 3 refl) (word-from bytes i (omega arith))
