-- What is kept of a line is at most a byte more than a line may have.
use Rattle.std.proofs.Common.{◌≤◌}
use Rattle.cli_requests.proofs.Server.serve.Given as goal

abbrev pub invariant-loop : goal.invariant-loop
invariant-loop g l = l.have ≤ 4097
