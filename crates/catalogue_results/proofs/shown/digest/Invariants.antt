-- The number stays below 65,521.
use Rattle.std.proofs.Common.{◌≤◌}
use Rattle.catalogue_results.proofs.shown.digest.Given as goal

abbrev pub invariant-loop-b : goal.invariant-loop-b
invariant-loop-b l = l.s ≤ 65520
