-- Room for each kind of answer, whatever the numbers are.
use Rattle.std.specs.Prelude.{ℕ, ◌+◌, ◌*◌}
use Rattle.cli_output.specs.Room.{number_room, field_room, row_room, line_room, lines_room}

-- "refused ", the number, a blank, the place, and the end of the line
abbrev pub refused_room : ℕ
refused_room = 8 + number_room + 1 + number_room + 1

-- "error ", the line's number, a colon with a blank, and the end of the line; what is wrong comes to it
abbrev pub error_room : ℕ
error_room = 6 + number_room + 2 + 1

-- "reduced ", the passes and the squared lengths; the lines of the vectors, U and V
abbrev pub reduction_room : ℕ
reduction_room = 8 + number_room + row_room + 3 * lines_room

-- "nearest", the squared distance and the end of the line; coefficients, tenths and vector
abbrev pub nearest_room : ℕ
nearest_room = 7 + field_room + 1 + 3 * line_room

-- a blank, the position, the squared distance and the end of the line; the word comes to it
abbrev pub outside_room : ℕ
outside_room = 1 + number_room + field_room + 1

-- a refusal is the longest: its word is longer than "second", and its numbers may be as long
abbrev pub separation_room : ℕ
separation_room = refused_room
