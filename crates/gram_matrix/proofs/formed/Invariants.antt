-- After i turns it is the Gram matrix of the first i vectors.
use mathlib.Core.Path.{◌≡◌}
use Prim.Native.Nat.{◌≤◌}
use lib.ListN.{take}
use Rattle.gram_matrix.specs.Formed.{formed}
use Rattle.gram_matrix.proofs.formed.Given as goal

abbrev pub invariant-loop-i : goal.invariant-loop-i
invariant-loop-i l = (l.i ≤ l.d) × (l.g ≡ formed (take l.i l.b))
