-- `take_list` takes one vector after the other.
use Prim.Native.Nat.{◌≤◌}
use Rattle.nearest_steps.specs.Stepped.{TakenFirst}
use Rattle.nearest_steps.proofs.take_list.Given as goal

abbrev pub invariant-loop-j : goal.invariant-loop-j
invariant-loop-j l = (l.j ≤ 3) × TakenFirst l.j l.g l.initial.r l.initial.x l.e l.r l.x
