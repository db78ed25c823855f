-- The lines so far are put, each with no more than its room.
use Rattle.std.proofs.Common.{◌+◌, ◌*◌, ◌≤◌, take}
use Rattle.text_output.specs.Puts.{Puts}
use Rattle.text_output.specs.Joined.{joined}
use Rattle.cli_output.specs.Rows.{row_line}
use Rattle.cli_output.specs.Room.{line_room}
use Rattle.cli_output.proofs.put_lines.Given as goal

abbrev pub invariant-loop-row : goal.invariant-loop-row
invariant-loop-row g l = record {
  puts : Puts (joined (row_line l.letter l.n) (take l.row-index l.row-items)) l.initial.out l.at l.out l.k;
  room : l.k ≤ l.at + l.row-index * line_room;
}
