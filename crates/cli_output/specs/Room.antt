-- Room for the parts of an answer's text, whatever the numbers are.
use Rattle.std.specs.Prelude.{ℕ, ◌+◌, ◌*◌}
use Rattle.lattices.specs.Refusal.{most_vectors, most_coordinates}

-- a number of 64 bits with its sign
abbrev pub number_room : ℕ
number_room = 20

-- a number and the blank before it
abbrev pub field_room : ℕ
field_room = 1 + number_room

-- a row has at most as many numbers as a vector has coordinates; then the line ends
abbrev pub row_room : ℕ
row_room = most_coordinates * field_room + 1

-- a letter and a row
abbrev pub line_room : ℕ
line_room = 1 + row_room

-- a line for each vector
abbrev pub lines_room : ℕ
lines_room = most_vectors * line_room
