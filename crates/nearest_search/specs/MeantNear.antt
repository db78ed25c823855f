-- What the numbers of the walk through the layers mean, up to a common factor F: those of the search, with a target that is no longer than the
-- vectors may be.
use Rattle.std.specs.Prelude.{◌≡◌, List, ℕ, ℤ, pos, ◌*ℤ◌, ◌≤ℤ◌}
use Rattle.lattices.specs.Vector.{Vec, N}
use Rattle.nearest_steps.specs.Meant.{Meant}

pub record MeantNear (F : ℤ) (d : ℕ) (vs : List Vec) (t : Vec) (g : List (List ℤ)) (r : List ℤ) : Type 0 where
  pub meant : Meant F d vs t g r
  pub close : N t ≤ℤ (F *ℤ pos 400000000)

-- the numbers mean something, and n is the squared length of the target
pub record KnownNear (d : ℕ) (n : ℤ) (g : List (List ℤ)) (r : List ℤ) : Type 0 where
  pub factor : ℤ
  pub vectors : List Vec
  pub target : Vec
  pub near : MeantNear factor d vectors target g r
  pub square : factor *ℤ n ≡ N target
