-- Row by row, the entries change places.
use mathlib.Core.Path.{◌≡◌}
use mathlib.Core.List.{map}
use Rattle.row_operations.specs.Front.{front}
use Rattle.gram_matrix.specs.Order.{exchanged}
use Rattle.gram_matrix.proofs.exchange_columns.Given as goal

abbrev pub invariant-loop-row : goal.invariant-loop-row
invariant-loop-row l = l.t ≡ front l.row-index (map (exchanged l.j) l.initial.t) l.initial.t
