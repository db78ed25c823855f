use mathlib.Core.Path.{ap}
use lib.IntN.{◌+ℤ◌}
use mir.Syntax.{w64}
use mir.Val.{SFits, to_z}
use mir.Facts.{to_z-of_z}
use borrow.Author.Rules.{rules}
use Rattle.std.specs.Prelude.{is_some}
use Rattle.integers.specs.Size.{fits-within}
use Rattle.nearest_search.specs.Descent.{Descending, descending-start, descending-known, descending-small, descending-within, descending-next, descending-less, descending-end}
use Rattle.nearest_search.proofs.descend.Goals as goal

pub loop-v-init : goal.loop-v-init
loop-v-init c = descending-start _ _ _ c.requires.x_value

pub walk-requires : goal.walk-requires
walk-requires c =
    -- the state, with the number that n is
    let d : Descending c.args.n c.args.g.now c.args.r.now c.loop-v.r c.loop-v.x (to_z w64 c.loop-v.m-bits) = simp (to_z-of_z, c.ranges.n) at c.loop-v.invariant in
    record { bounded = descending-small c.requires.known_near d; known_near = descending-known c.requires.known_near d }

pub overflow_add-m : goal.overflow_add-m
overflow_add-m c =
    let d : Descending c.args.n c.args.g.now c.args.r.now c.loop-v.r c.loop-v.x (to_z w64 c.loop-v.m-bits) = simp (to_z-of_z, c.ranges.n) at c.loop-v.invariant in
    let number : SFits w64 c.in-Some.v = search rules in
    let sum : SFits w64 (to_z w64 c.loop-v.m-bits +ℤ c.in-Some.v) = fits-within (descending-within c.requires.known_near (descending-next c.requires.known_near d c.walk.ensures c.in-Some.is)) tt in
    simp (to_z-of_z, number) sum

pub loop-v-smaller : goal.loop-v-smaller
loop-v-smaller c =
    let d : Descending c.args.n c.args.g.now c.args.r.now c.loop-v.r c.loop-v.x (to_z w64 c.loop-v.m-bits) = simp (to_z-of_z, c.ranges.n) at c.loop-v.invariant in
    descending-less c.requires.known_near d c.walk.ensures c.in-Some.is

pub loop-v-preserved : goal.loop-v-preserved
loop-v-preserved c =
    let d : Descending c.args.n c.args.g.now c.args.r.now c.loop-v.r c.loop-v.x (to_z w64 c.loop-v.m-bits) = simp (to_z-of_z, c.ranges.n) at c.loop-v.invariant in
    let number : SFits w64 c.in-Some.v = search rules in
    let next = descending-next c.requires.known_near d c.walk.ensures c.in-Some.is in
    let sum : SFits w64 (to_z w64 c.loop-v.m-bits +ℤ c.in-Some.v) = fits-within (descending-within c.requires.known_near next) tt in
    simp (to_z-of_z, number, sum, c.ranges.n) next

pub returns : goal.returns
returns c =
    let d : Descending c.args.n c.args.g.now c.args.r.now c.loop-v.r c.loop-v.x (to_z w64 c.loop-v.m-bits) = simp (to_z-of_z, c.ranges.n) at c.loop-v.invariant in
    descending-end c.requires.known_near d c.walk.ensures (ap is_some c.in_default.is)
