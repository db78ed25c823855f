-- The lines that are answered end within the bytes, and the answers within the output.
use Rattle.std.proofs.Common.{length, ◌-◌, ◌≤◌}
use Rattle.cli_requests.proofs.Server.answer_lines.Given as goal

abbrev pub invariant-loop-from : goal.invariant-loop-from
invariant-loop-from g l = (l.from ≤ length l.bytes) × (l.at ≤ 32768)

abbrev pub decreases-loop-from : goal.decreases-loop-from
decreases-loop-from g l = length l.bytes - l.from
