-- Text put into bytes from a place on. The room for it is asked for by each function; these laws need none.
use Rattle.std.specs.Prelude.{◌≡◌, refl, List, [], ◌∷◌, ◌++◌, ℕ, ◌+◌, ◌<◌, length, get_or, set, take}
use Rattle.std.proofs.Common.{sym, ap, ◌∙◌, add-one, arith, length-append, take-suc, length-take-le}
use Rattle.std.proofs.lemmas.List.Edits.{sets}
use Rattle.std.proofs.Math.Seq.{length-sets}
use Rattle.integers.specs.Runs.{sets-append}

-- the text stands over what was there, and all else is as before; then the place after it
pub record Puts (text before : List ℕ) (at : ℕ) (after : List ℕ) (end : ℕ) : Type 0 where
  pub bytes : after ≡ sets before at text
  pub place : end ≡ at + length text

pub puts-length : {text before after : List ℕ} {at end : ℕ} → Puts text before at after end → length after ≡ length before
puts-length {text} {before} {at = at} p = ap length p.bytes ∙ length-sets before at text

pub puts_none : (before : List ℕ) (at : ℕ) → Puts [] before at before at
puts_none before at = record { bytes = refl; place = omega arith }

-- ---- one text after another

pub puts_then : {text more before between after : List ℕ} {at mid end : ℕ} → Puts text before at between mid → Puts more between mid after end → Puts (text ++ more) before at after end
puts_then {text} {more} {before} {at = at} {mid} p q = record {
  bytes = q.bytes ∙ ap (λ l. sets l mid more) p.bytes ∙ sets-append before at mid text more p.place;
  place = omega (arith, p.place, q.place, length-append text more);
}

-- ---- byte by byte

pub sets_more : (l : List ℕ) (at : ℕ) (text : List ℕ) (j : ℕ) → j < length text → set (sets l at (take j text)) (at + j) (get_or text j 0) ≡ sets l at (take (j + 1) text)
sets_more l at text j h =
    sets-append l at (at + j) (take j text) (get_or text j 0 ∷ []) (omega (arith, length-take-le j text (omega arith)))
    ∙ ap (sets l at) (sym (take-suc text j 0 h) ∙ ap (λ k. take k text) (sym (add-one j)))
