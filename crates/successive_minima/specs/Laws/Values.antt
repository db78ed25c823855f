-- The value of a coefficient list as it changes: least values, and the change from one list to another. Their laws are in ValueLaws.
use Rattle.std.specs.Prelude.{◌≡◌, false, List, ◌∷◌, ℤ, pos, ◌-ℤ◌, ◌*ℤ◌, length}
use Rattle.lattices.specs.Vector.{Vec, N, dot, comb}
use Rattle.lattices.specs.Nearest.{value, below}

-- y has the least value: no integer list has a smaller one
pub record Least (bs : List Vec) (t : Vec) (y : List ℤ) : Type 0 where
  pub count : length y ≡ length bs
  pub least : (x : List ℤ) → length x ≡ length bs → below (value bs t x) (value bs t y) ≡ false

-- what the squared length of r changes by when y is subtracted from it
unfoldable pub gain : Vec → Vec → ℤ
gain r y = N y -ℤ pos 2 *ℤ dot y r

-- the change of value from a list with residual r to that list plus x
abbrev pub change : Vec → List Vec → List ℤ → List ℤ
change r bs x = gain r (comb x bs) ∷ x
