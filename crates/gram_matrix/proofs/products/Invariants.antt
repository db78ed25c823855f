-- After j turns the first j products are there, zeros behind.
use mathlib.Core.Path.{◌≡◌}
use Prim.Native.Nat.{◌≤◌}
use lib.ListN.{take}
use Rattle.gram_matrix.specs.Formed.{products}
use Rattle.gram_matrix.proofs.products.Given as goal

abbrev pub invariant-loop-j : goal.invariant-loop-j
invariant-loop-j l = (l.j ≤ l.d) × (l.r ≡ products (take l.j l.b) l.v)
