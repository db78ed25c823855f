-- `steep` tests a vector a turn.
use Prim.Native.Nat.{◌≤◌}
use Rattle.solution_tenths.specs.Tests.{AllFlat}
use Rattle.solution_tenths.proofs.steep.Given as goal

abbrev pub invariant-loop-i : goal.invariant-loop-i
invariant-loop-i l = (l.i ≤ 4) × AllFlat l.g l.h l.i
