-- The numbers so far are put, each with no more than its room.
use Rattle.std.proofs.Common.{◌+◌, ◌*◌, ◌≤◌, take}
use Rattle.integers.specs.Decimal.{signed}
use Rattle.text_output.specs.Puts.{Puts}
use Rattle.text_output.specs.Joined.{joined}
use Rattle.text_fields.specs.Blank.{blank}
use Rattle.cli_output.specs.Room.{field_room}
use Rattle.cli_output.proofs.put_row.Given as goal

abbrev pub invariant-loop-z : goal.invariant-loop-z
invariant-loop-z l = record {
  puts : Puts (joined (blank signed) (take l.z-index l.z-items)) l.initial.out l.at l.out l.k;
  room : l.k ≤ l.at + l.z-index * field_room;
}
