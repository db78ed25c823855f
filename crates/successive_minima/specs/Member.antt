-- Membership (document 01): "A vector belongs to the lattice exactly when the distance is 0", and what that means.
use Rattle.std.specs.Prelude.{◌≡◌, Bool, List, ℤ, pos, length}
use Rattle.std.specs.Int.Signed.{le_z}
use Rattle.lattices.specs.Vector.{Vec, comb, distance}
use Rattle.lattices.specs.Laws.Vector.{◌≈◌}
use Rattle.lattices.specs.Nearest.{nearest}

-- R1.3, R4.4: the squared distance from v to the lattice of reduced vectors: that to the nearest vector
abbrev pub squared_to : List Vec → Vec → ℤ
squared_to bs v = distance v (comb (nearest bs v) bs)

-- R4.4: it is 0
unfoldable pub is_member : List Vec → Vec → Bool
is_member bs v = le_z (squared_to bs v) (pos 0)

-- R4.4: v, up to trailing zeros, is a combination
pub record Member (bs : List Vec) (v : Vec) : Type 0 where
  pub coefficients : List ℤ
  pub count : length coefficients ≡ length bs
  pub gives : comb coefficients bs ≈ v
