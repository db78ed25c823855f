-- `stepped`: a step shortens what is left.
use mathlib.Core.List.{List}
use Rattle.lattices.specs.Vector.{Vec}
use Rattle.solution_tenths.specs.Taken.{Taken, measure}
use Rattle.solution_tenths.proofs.settled.Given as goal

abbrev pub invariant-loop-p : goal.invariant-loop-p
invariant-loop-p l = (bs : List Vec) (u : Vec) → Taken bs u l.g l.initial.l l.initial.w → Taken bs u l.g l.l l.w

abbrev pub decreases-loop-p : goal.decreases-loop-p
decreases-loop-p l = measure l.initial.l l.initial.w l.l l.w
