-- Row by row, entry j gains.
use mathlib.Core.Path.{◌≡◌}
use mathlib.Core.List.{map}
use Rattle.row_operations.specs.Front.{front}
use Rattle.gram_matrix.specs.Columns.{gained_at}
use Rattle.gram_matrix.proofs.gain_column.Given as goal

abbrev pub invariant-loop-row : goal.invariant-loop-row
invariant-loop-row l = l.t ≡ front l.row-index (map (gained_at l.j l.q l.k) l.initial.t) l.initial.t
