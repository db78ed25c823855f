-- What is counted stays below 4.
use Rattle.std.proofs.Common.{◌<◌}
use Rattle.cli_input.proofs.read_rest.Given as goal

abbrev pub invariant-loop : goal.invariant-loop
invariant-loop g l = l.count < 4
