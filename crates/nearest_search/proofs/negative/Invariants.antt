-- `negative` looks for the first entry that is not 0.
use mathlib.Core.Path.{◌≡◌}
use lib.ListN.{drop}
use Rattle.nearest_steps.specs.Numbers.{negative}
use Rattle.nearest_search.proofs.negative.Given as goal

abbrev pub invariant-loop-z : goal.invariant-loop-z
invariant-loop-z l = negative l.e ≡ negative (drop l.z-index l.e)
