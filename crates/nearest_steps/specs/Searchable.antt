-- What the search asks of its vectors and its target, and the sizes that follow.
use Rattle.std.specs.Prelude.{◌≡◌, List, [], ℕ, ◌≤◌, ◌<◌, pos, length, get_or, take, ◌≤ℤ◌}
use Rattle.std.proofs.Common.{le_trans, arith, length-take}
use Rattle.std.proofs.Math.ListN.{get_or-eq_default}
use Rattle.std.specs.Int.Signed.{le_z_yes}
use Rattle.integers.specs.Order.{≤ℤ_trans}
use Rattle.integers.specs.Size.{within-le, root-within}
use Rattle.lattices.specs.Vector.{Vec, N}
use Rattle.lattices.specs.Laws.Vector.{square-≤}
use Rattle.successive_minima.specs.Reduced.{Reduced}
use Rattle.successive_minima.specs.Laws.Digits.{Bounded}

pub behind : (k j : ℕ) (b : List Vec) → k ≤ j → get_or (take k b) j [] ≡ []
behind k j b h = get_or-eq_default (take k b) [] (le_trans (omega (arith, length-take k b)) h)

-- the first k vectors of b are reduced and no longer than 20,000, the target no longer than three times that
pub record Searchable (k : ℕ) (b : List Vec) (t : Vec) : Type 0 where
  pub enough : k ≤ length b
  pub reduced : Reduced (take k b)
  pub short : (i : ℕ) → i < k → N (get_or b i []) ≤ℤ pos 400000000
  pub target : N t ≤ℤ pos 3600000000

-- ---- coordinates

pub coordinates : (v : Vec) → N v ≤ℤ pos 3600000000 → Bounded 100000 v
coordinates v h i = within-le (omega arith) (root-within {B = 60000} (≤ℤ_trans (square-≤ v i) h))

pub rows-bounded : {k : ℕ} {b : List Vec} {t : Vec} → Searchable k b t → (i : ℕ) → i < k → Bounded 100000 (get_or b i [])
rows-bounded {b} s i h = coordinates (get_or b i []) (≤ℤ_trans (s.short i h) (le_z_yes tt))
