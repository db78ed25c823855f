-- Room for the answer to a line, whatever the numbers are.
use Rattle.std.specs.Prelude.{ℕ, ◌+◌}
use Rattle.cli_output.specs.Room.{field_room, lines_room}
use Rattle.cli_answers.specs.Room.{error_room, reduction_room, nearest_room}

-- the longest sentence about a line has 27 bytes
abbrev pub mistake_room : ℕ
mistake_room = error_room + 27

-- what is asked about a target: the reduced vectors, and the nearest vector
abbrev pub target_room : ℕ
target_room = lines_room + nearest_room

-- the line's number, a blank, and the longest answer
abbrev pub answer_room : ℕ
answer_room = field_room + reduction_room
