-- `row` computes an entry a turn, then the coefficient and the right side.
use Prim.Native.Nat.{◌≤◌, ◌-◌}
use Rattle.linear_systems.proofs.row.Given as goal

abbrev pub invariant-loop-j : goal.invariant-loop-j
invariant-loop-j l = l.j ≤ 4

abbrev pub decreases-loop-j : goal.decreases-loop-j
decreases-loop-j l = 4 - l.j
