-- After i turns the table holds the first i unit rows.
use mathlib.Core.Path.{◌≡◌}
use Prim.Native.Nat.{◌≤◌}
use Rattle.lattices.specs.Greedy.{units}
use Rattle.lattices.specs.Answer.{table}
use Rattle.row_operations.proofs.unit_table.Given as goal

abbrev pub invariant-loop-i : goal.invariant-loop-i
invariant-loop-i l = (l.i ≤ l.d) × (l.t ≡ table 4 4 (units l.i))
