-- `walk` passes pairs that do not improve until one does.
use Prim.Native.Nat.{ℕ, ◌≤◌, ◌<◌}
use Rattle.lattices.specs.Vector.{nth}
use Rattle.nearest_steps.specs.Places.{Neither}
use Rattle.nearest_steps.proofs.table.walk.Given as goal

abbrev pub invariant-loop-i : goal.invariant-loop-i
invariant-loop-i l = (l.i ≤ l.n) × ((j : ℕ) → j < l.i → Neither (nth l.q j) (nth l.l j))
