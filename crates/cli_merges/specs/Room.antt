-- Room for the answer to a line.
use Rattle.std.specs.Prelude.{ℕ, ◌+◌}
use Rattle.cli_output.specs.Room.{number_room}
use Rattle.cli_answers.specs.Room.{refused_room}

-- "standing ", a number, " provisional" and the end of the line
abbrev pub standing_room : ℕ
standing_room = 9 + number_room + 13

-- a refusal is the longest
abbrev pub answer_room : ℕ
answer_room = refused_room

-- a listing is longer than anything else that is said to a line
abbrev pub reply_room : ℕ
reply_room = 70152
