-- Row by row, entry k is stored.
use mathlib.Core.Path.{◌≡◌}
use Prim.Native.Nat.{◌≤◌}
use Rattle.row_operations.specs.Front.{front}
use Rattle.gram_matrix.specs.Cross.{entered}
use Rattle.gram_matrix.proofs.enter.Given as goal

abbrev pub invariant-loop-i : goal.invariant-loop-i
invariant-loop-i l = (l.i ≤ 4) × (l.g ≡ front l.i (entered l.k l.r l.initial.g) l.initial.g)
