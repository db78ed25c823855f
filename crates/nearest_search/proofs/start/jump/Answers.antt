-- `jump` takes the rounded solution, where the numbers show that it shortens.
use mathlib.Core.Path.{◌≡◌, ap}
use native.Mathlib.Omega.{arith}
use lib.ListN.{length}
use mir.Syntax.{w64}
use mir.Val.{SFits}
use mir.Facts.{to_z-of_z}
use Rattle.integers.specs.Order.{le_z_false}
use Rattle.nearest_steps.specs.Numbers.{Sized}
use Rattle.nearest_steps.specs.State.{sized}
use Rattle.nearest_search.specs.Taking.{combination-left, combination-room, step_room, step-products}
use Rattle.nearest_search.specs.Start.{jumped_none, jumped_by}
use borrow.Author.Rules.{rules}
use Rattle.nearest_search.proofs.start.jump.Goals as goal

pub lose_combination-requires : goal.lose_combination-requires
lose_combination-requires c =
    let size : Sized c.args.g.now c.args.r.now = sized c.requires.known.meant in
    (search rules, (search rules, (c.requires.d_bound, λ i. omega (arith, (size.products i).within, combination-room c.args.d c.whole-e.result c.args.g.now i c.requires.d_bound c.whole-e.ensures.bounded size.gram))))

pub gain-v-requires : goal.gain-v-requires
gain-v-requires c =
    let size : Sized c.args.g.now c.args.r.now = sized c.requires.known.meant in
    let left = combination-left c.args.d c.args.g.now c.whole-e.result c.args.r.now c.requires.d_bound c.whole-e.ensures.by_index c.whole-e.ensures.bounded size.gram size.products c.lose_combination.ensures in record {
      by_index = step_room c.args.r.now c.lose_combination.new.r size.products left.1;
      by_index_2 = step-products 32768 2000000000 60000000000000 c.whole-e.result c.args.r.now c.lose_combination.new.r (omega arith) c.whole-e.ensures.bounded size.products left.1;
    }

pub returns-then-v-ge0 : goal.returns-then-v-ge0
returns-then-v-ge0 c =
    let four : length c.args.x.now ≡ 4 =
    ap length c.requires.x_value in
    jumped_none _ _ _ _ four

pub returns : goal.returns
returns c =
    let long : length c.whole-e.result ≡ 4 =
    search rules in
    let size : Sized c.args.g.now c.args.r.now = sized c.requires.known.meant in
    let left = combination-left c.args.d c.args.g.now c.whole-e.result c.args.r.now c.requires.d_bound c.whole-e.ensures.by_index c.whole-e.ensures.bounded size.gram size.products c.lose_combination.ensures in
    let f : SFits w64 c.gain-v.result = record { sfits = c.gain-v.type_inv } in
    simp (to_z-of_z, f)
    (jumped_by c.whole-e.result c.requires.x_value long c.whole-e.ensures.bounded c.whole-e.ensures.by_index left.0 (search rules) c.gain-v.ensures
    (le_z_false (simp (to_z-of_z, f) at c.if-v-ge0.false)))
