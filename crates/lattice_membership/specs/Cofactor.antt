-- The cofactors of a table of four rows, as code has them.
use Rattle.std.specs.Prelude.{List, [], map, ℕ, take}
use Rattle.integers.specs.Filled.{filled}
use Rattle.lattices.specs.Vector.{Vec}
use Rattle.lattices.specs.Answer.{padded}
use Rattle.input_checks.specs.Determinant.{cofactors_of}
use Rattle.row_operations.specs.Rows.{first_four}

-- those of each of the first d rows, zeros behind them
abbrev pub cofactor_rows : List Vec → ℕ → List Vec
cofactor_rows t d = filled (padded 4 []) 4 (map (cofactors_of t) (take d first_four))
