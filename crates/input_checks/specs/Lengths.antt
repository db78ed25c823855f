-- Vectors within the length limit have small coordinates.
use Rattle.std.proofs.Common.{sym, subst, arith, length-take, get_or-take, get_or-drop}
use Rattle.std.specs.Prelude.{List, [], ℕ, ◌+◌, ◌<◌, pos, get_or, take, drop, ◌≤ℤ◌}
use Rattle.std.proofs.Math.Decide.{dec_lt}
use Rattle.std.proofs.Math.ListN.{get_or-eq_default}
use Rattle.integers.specs.Order.{≤ℤ_trans, pos-nonneg}
use Rattle.integers.specs.Size.{Within, root-within}
use Rattle.lattices.specs.Vector.{Vec, N, nth, dot}
use Rattle.lattices.specs.Laws.Vector.{square-≤}
use Rattle.exterior_algebra.specs.Sizes.{Short}

pub short-within : (v : Vec) → N v ≤ℤ pos 400000000 → (i : ℕ) → Within 20000 (nth v i)
short-within v h i = root-within (≤ℤ_trans (square-≤ v i) h)

short-nil : (M : ℕ) → N [] ≤ℤ pos M
unfolding dot
short-nil M = pos-nonneg M

pub short-from : (M d i : ℕ) (b : List Vec) → ((j : ℕ) → j < d → N (get_or b j []) ≤ℤ pos M) → Short (pos M) (drop i (take d b))
short-from M d i b f j = subst (λ v. N v ≤ℤ pos M) (sym (get_or-drop i (take d b) j [])) (pick (dec_lt (i + j) d))
  where
    pick : Dec (i + j < d) → N (get_or (take d b) (i + j) []) ≤ℤ pos M
    pick (yes h) = subst (λ v. N v ≤ℤ pos M) (sym (get_or-take d b (i + j) [] h)) (f (i + j) h)
    pick (no h) = subst (λ v. N v ≤ℤ pos M) (sym (get_or-eq_default (take d b) [] (omega (arith, length-take d b)))) (short-nil M)
