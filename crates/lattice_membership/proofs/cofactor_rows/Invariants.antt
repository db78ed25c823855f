-- After j turns the rows of the first j vectors are there.
use mathlib.Core.Path.{◌≡◌}
use mathlib.Core.List.{[], map}
use Prim.Native.Nat.{◌≤◌, ◌-◌}
use lib.ListN.{take}
use Rattle.integers.specs.Filled.{filled}
use Rattle.lattices.specs.Answer.{padded}
use Rattle.row_operations.specs.Rows.{first_four}
use Rattle.input_checks.specs.Determinant.{cofactors_of}
use Rattle.lattice_membership.proofs.cofactor_rows.Given as goal

abbrev pub invariant-loop-j : goal.invariant-loop-j
invariant-loop-j l = (l.j ≤ l.d) × (l.rows ≡ filled (padded 4 []) 4 (map (cofactors_of l.t) (take l.j first_four)))

abbrev pub decreases-loop-j : goal.decreases-loop-j
decreases-loop-j l = l.d - l.j
