-- The first i rows are picked.
use mathlib.Core.Path.{◌≡◌}
use mathlib.Core.List.{◌++◌, map}
use Prim.Native.Nat.{◌≤◌}
use lib.ListN.{take, drop}
use Rattle.input_checks.specs.Choice.{four_at}
use Rattle.input_checks.specs.Determinant.{unit_rows}
use Rattle.input_checks.proofs.minors.square.Given as goal

abbrev pub invariant-loop-i : goal.invariant-loop-i
invariant-loop-i l = (l.i ≤ l.d) × (l.t ≡ map (four_at l.at) (take l.i l.b) ++ drop l.i unit_rows)
