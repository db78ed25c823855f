-- `descend` takes steps until there is none.
use mathlib.Core.Bool.{false}
use Rattle.lattices.specs.Vector.{◌⊖◌}
use Rattle.nearest_steps.specs.Moves.{Moved}
use Rattle.nearest_steps.specs.State.{measure}
use Rattle.nearest_steps.proofs.descend.Given as goal

abbrev pub invariant-loop : goal.invariant-loop
invariant-loop l = Moved 4 l.k l.g l.initial.r l.initial.x l.r l.x false

abbrev pub decreases-loop : goal.decreases-loop
decreases-loop l = measure l.g l.initial.r (l.x ⊖ l.initial.x)
