-- After j turns the first j columns have gained.
use mathlib.Core.Path.{◌≡◌}
use Prim.Native.Nat.{◌≤◌}
use lib.ListN.{take}
use Rattle.gram_matrix.specs.Columns.{gained_columns}
use Rattle.gram_matrix.proofs.gain_columns.Given as goal

abbrev pub invariant-loop-j : goal.invariant-loop-j
invariant-loop-j l = (l.j ≤ l.k) × (l.t ≡ gained_columns (take l.j l.x) l.k l.initial.t)
