-- `inserted` changes an equation a turn.
use Prim.Native.Nat.{◌≤◌, ◌-◌}
use Rattle.linear_systems.proofs.inserted.Given as goal

abbrev pub invariant-loop-j : goal.invariant-loop-j
invariant-loop-j l = l.j ≤ 4

abbrev pub decreases-loop-j : goal.decreases-loop-j
decreases-loop-j l = 4 - l.j
