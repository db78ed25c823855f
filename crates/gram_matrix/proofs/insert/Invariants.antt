-- `insert` exchanges neighbours until the test stops it: the tables belong to rows of which the rest of the insertion gives the whole.
use mathlib.Core.Path.{◌≡◌}
use mathlib.Core.List.{List}
use lib.ListN.{length}
use Rattle.lattices.specs.Greedy.{Row}
use Rattle.gram_matrix.specs.Tied.{Kind, Left}
use Rattle.gram_matrix.specs.Work.{Belongs}
use Rattle.gram_matrix.proofs.insert.Given as goal

abbrev pub invariant-loop-j : goal.invariant-loop-j
invariant-loop-j l = ((K : Kind) (rows : List Row) → Belongs K rows l.initial.g l.initial.w → Left K l.i l.j l.n rows l.g l.w.vectors l.w.u l.w.v) × ((l.w.passes ≡ l.initial.w.passes) × (length l.g ≡ 4))
