-- What is kept of a line is at most a byte more than a line may have.
use Rattle.std.proofs.Common.{◌≤◌}
use Rattle.merges.specs.IsMerge.{IsMerge}
use Rattle.cli_merges.proofs.serve_with.Given as goal

abbrev pub invariant-loop : goal.invariant-loop
invariant-loop g l = record { merge : IsMerge l.turn.merge; have : l.turn.have ≤ 4097 }
