-- A step in numbers: g is the Gram matrix of the vectors, r holds their inner products with the residual, e the coefficients of the step.
use Rattle.std.specs.Prelude.{Bool, List, [], ◌∷◌, ℕ, ℤ, pos, ◌-ℤ◌, ◌*ℤ◌, get_or}
use Rattle.integers.specs.Lists.{◌⊖◌}
use Rattle.integers.specs.Below.{below}
use Rattle.integers.specs.Size.{Within}
use Rattle.lattices.specs.Vector.{nth, dot, comb}
use Rattle.successive_minima.specs.Laws.Digits.{zeros}

-- the inner products after the step e
abbrev pub moved : List (List ℤ) → List ℤ → List ℤ → List ℤ
moved g r e = r ⊖ comb e g

-- what the step e changes the squared length of the residual by: N y − 2<y, r>, for the vector y of the step
unfoldable pub gain_of : List (List ℤ) → List ℤ → List ℤ → ℤ
gain_of g r e = dot e (comb e g) -ℤ pos 2 *ℤ dot e r

-- is e below the list of zeros?
abbrev pub negative : List ℤ → Bool
negative e = below e (zeros e)

-- does the step e lead to a smaller value?
unfoldable pub improves_of : List (List ℤ) → List ℤ → List ℤ → Bool
improves_of g r e = negative (gain_of g r e ∷ e)

-- sizes: no vector is longer than 20,000, the target no longer than three times that
pub record Sized (g : List (List ℤ)) (r : List ℤ) : Type 0 where
  pub gram : (i j : ℕ) → Within 400000000 (nth (get_or g i []) j)
  pub products : (j : ℕ) → Within 2000000000 (nth r j)
