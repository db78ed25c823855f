-- `order` inserts from the last row but one to the first: those from i - 1 on are in order.
use mathlib.Core.Path.{◌≡◌}
use mathlib.Core.List.{List}
use Prim.Native.Nat.{◌-◌, ◌≤◌}
use Rattle.lattices.specs.Greedy.{Row}
use Rattle.gram_matrix.specs.Order.{ordered_from}
use Rattle.gram_matrix.specs.Tied.{Kind}
use Rattle.gram_matrix.specs.Work.{Belongs}
use Rattle.gram_matrix.proofs.order.Given as goal

abbrev pub invariant-loop-i : goal.invariant-loop-i
invariant-loop-i l = (l.i ≤ l.n) × (((K : Kind) (rows : List Row) → Belongs K rows l.initial.g l.initial.w → Belongs K (ordered_from l.n (l.i - 1) rows) l.g l.w) × (l.w.passes ≡ l.initial.w.passes))
