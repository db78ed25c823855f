-- The lines that are answered end within the bytes, and the answers within the output.
use Rattle.std.proofs.Common.{length, ◌-◌, ◌≤◌}
use Rattle.merges.specs.IsMerge.{IsMerge}
use Rattle.cli_merges.proofs.answer_lines.Given as goal

abbrev pub invariant-loop-p : goal.invariant-loop-p
invariant-loop-p g l = record { merge : IsMerge l.p.merge; from : l.p.from ≤ length l.bytes; at : l.p.at ≤ length l.out }

abbrev pub decreases-loop-p : goal.decreases-loop-p
decreases-loop-p g l = length l.bytes - l.p.from
