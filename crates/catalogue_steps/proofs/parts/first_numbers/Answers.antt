use Rattle.std.proofs.Common.{◌≡◌, refl, sym, ap, ◌∙◌, arith, List, [], ◌∷◌, ◌++◌, ℕ, zero, suc, ◌≤◌, length, take, drop, pos, length-take-le}
use lib.ListN.{replicate}
use Rattle.integers.specs.Filled.{filled}
use Rattle.catalogue_rules.specs.Catalogue.{most_numbers}
use Rattle.catalogue_steps.proofs.parts.first_numbers.Goals as goal

module _ {A : Type 0} (z : A) where
  alone : (n : ℕ) → replicate n z ≡ filled z n []
  alone zero = refl
  alone (suc n) = ap (λ l. z ∷ l) (alone n)

  -- a list before as many as it lacks
  before : (n : ℕ) (l : List A) → length l ≤ n → l ++ drop (length l) (replicate n z) ≡ filled z n l
  before n [] h = alone n
  before zero (x ∷ l) h = absurd (omega arith)
  before (suc n) (x ∷ l) h = ap (λ l. x ∷ l) (before n l (omega arith))

pub returns : goal.returns
returns c =
    let first = take c.args.n c.args.numbers.now in
    let n : length first ≡ c.args.n = length-take-le c.args.n c.args.numbers.now (omega arith) in
    ap (λ l. l ++ drop c.args.n (replicate most_numbers (pos 0))) c.copy_from_slice.ensures.after
    ∙ ap (λ k. first ++ drop k (replicate most_numbers (pos 0))) (sym n)
    ∙ before (pos 0) most_numbers first (omega (arith, n))
