-- What the numbers of the search mean: they are inner products of some vectors and some target, up to a common factor F. The search is
-- right for every F, vectors and target that its numbers belong to.
use Rattle.std.specs.Prelude.{◌≡◌, List, [], ℕ, ◌≤◌, ℤ, pos, ◌*ℤ◌, length, get_or, take, ◌≤ℤ◌, ◌<ℤ◌}
use Rattle.lattices.specs.Vector.{Vec, N, nth, dot}
use Rattle.successive_minima.specs.Reduced.{Reduced}

-- F times r are the inner products of the vectors with v
pub record Products (F : ℤ) (vs : List Vec) (v : Vec) (r : List ℤ) : Type 0 where
  pub at : (j : ℕ) → F *ℤ nth r j ≡ dot (get_or vs j []) v

-- F times g is their Gram matrix
pub record Gram (F : ℤ) (vs : List Vec) (g : List (List ℤ)) : Type 0 where
  pub row : (i : ℕ) → Products F vs (get_or vs i []) (get_or g i [])

-- the first k of the vectors vs are reduced, t is the target; r holds the inner products with all of them, and no row of g is longer than r
pub record Meant (F : ℤ) (k : ℕ) (vs : List Vec) (t : Vec) (g : List (List ℤ)) (r : List ℤ) : Type 0 where
  pub positive : pos 0 <ℤ F
  pub enough : k ≤ length vs
  pub reduced : Reduced (take k vs)
  pub short : (i : ℕ) → N (get_or vs i []) ≤ℤ (F *ℤ pos 400000000)
  pub target : N t ≤ℤ (F *ℤ pos 3600000000)
  pub gram : Gram F vs g
  pub products : Products F vs t r
  pub wide : (i : ℕ) → length (get_or g i []) ≤ length r

-- the numbers mean something
pub record Known (k : ℕ) (g : List (List ℤ)) (r : List ℤ) : Type 0 where
  pub factor : ℤ
  pub vectors : List Vec
  pub target : Vec
  pub meant : Meant factor k vectors target g r
