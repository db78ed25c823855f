-- A line of an answer: a letter, and the first numbers of a row behind it, each behind a blank.
use Rattle.std.specs.Prelude.{List, [], ◌∷◌, map, ℕ, ℤ, take}
use Rattle.integers.specs.Decimal.{signed}
use Rattle.text_layout.specs.Fields.{line}

abbrev pub row_line : ℕ → ℕ → List ℤ → List ℕ
row_line letter n row = line (letter ∷ []) (map signed (take n row))
