-- A row of numbers as the structs hold it: of vectors, and of the tables U and V.
use Rattle.std.specs.Prelude.{List, ℕ, ℤ}
use Rattle.row_operations.specs.declared.Row.{Row}

abbrev pub row_struct : {N : ℕ} → List ℤ → Row N
row_struct l = record { at = l }
