-- `step` takes the list at the place that was found.
use mathlib.Core.Path.{ap}
use Rattle.std.specs.Prelude.{is_some}
use native.Mathlib.Omega.{arith}
use Prim.Native.Nat.{◌<◌}
use borrow.Author.Rules.{rules}
use Rattle.lattices.specs.Vector.{◌⊙◌}
use Rattle.nearest_steps.specs.Steps.{steps, steps-bounded}
use Rattle.nearest_steps.specs.State.{sized}
use Rattle.nearest_steps.specs.Places.{placed-inside}
use Rattle.nearest_steps.specs.Stepped.{stepped_none, stepped_at}
use Rattle.nearest_steps.proofs.step.Goals as goal

pub returns-in_default : goal.returns-in_default
returns-in_default c = stepped_none _ _ _ _ c.told-x (c.place.ensures.miss (ap is_some c.in_default.is))

pub offset_bounds-at : goal.offset_bounds-at
offset_bounds-at c = let inside : c.in-Some.at < 26 = placed-inside c.requires.k_bound c.place.ensures c.in-Some.is in omega (arith, inside)

pub bounds-at : goal.bounds-at
bounds-at c = placed-inside c.requires.k_bound c.place.ensures c.in-Some.is

pub take_list-requires-clause-sized : goal.take_list-requires-clause-sized
take_list-requires-clause-sized c = sized c.requires.known.meant

pub take_list-requires-clause-bounded_2 : goal.take_list-requires-clause-bounded_2
unfolding steps ◌⊙◌
take_list-requires-clause-bounded_2 c = steps-bounded c.in-Some.at

pub returns : goal.returns
unfolding steps ◌⊙◌
returns c =
    rw c.take_list.ensures.x_after
    (stepped_at c.args.k c.requires.k_bound _ _ _ c.in-Some.at c.told-x (placed-inside c.requires.k_bound c.place.ensures c.in-Some.is) c.in-Some.is c.place.ensures c.take_list.ensures.new (search rules))
