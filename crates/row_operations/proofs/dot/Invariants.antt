-- `dot` is the inner product: after i turns the sum is that of the first i places.
use mathlib.Core.Path.{◌≡◌}
use lib.ListN.{take}
use Rattle.lattices.specs.Vector.{dot}
use Rattle.row_operations.proofs.dot.Given as goal

abbrev pub invariant-loop-i : goal.invariant-loop-i
invariant-loop-i g l = l.sum ≡ dot (take l.i l.a) (take l.i l.b)
