-- After j turns r has lost the multiples of the first j vectors.
use mathlib.Core.Path.{◌≡◌}
use Prim.Native.Nat.{◌≤◌}
use Rattle.row_operations.specs.Loss.{left}
use Rattle.row_operations.proofs.lose_combination.Given as goal

abbrev pub invariant-loop-j : goal.invariant-loop-j
invariant-loop-j g l = (l.j ≤ l.d) × (l.r ≡ left l.x l.t l.initial.r l.j)
