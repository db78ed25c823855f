-- The lines of a stream: a newline ends each. Of a line that is too long, only that is kept.
use Rattle.std.specs.Prelude.{Bool, not, List, ℕ, eqb, take}
use Rattle.text_parts.specs.Numbers.{leading}

abbrev pub in_line : ℕ → Bool
in_line b = not (eqb b 10)

-- how long the first line is, without its newline
abbrev pub line_length : List ℕ → ℕ
line_length s = leading in_line s

-- a line has at most 4096 bytes: one more shows that it is too long
abbrev pub kept : List ℕ → List ℕ
kept s = take 4097 s
