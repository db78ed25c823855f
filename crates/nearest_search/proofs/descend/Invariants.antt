-- `descend` walks until no layer improves.
use Rattle.nearest_steps.specs.State.{measure}
use Rattle.nearest_search.specs.Descent.{Descending}
use Rattle.nearest_search.proofs.descend.Given as goal

abbrev pub invariant-loop-v : goal.invariant-loop-v
invariant-loop-v l = Descending l.n l.g l.initial.r l.r l.x l.m

abbrev pub decreases-loop-v : goal.decreases-loop-v
decreases-loop-v l = measure l.g l.initial.r l.x
