-- `layer` takes the best of the layer, where it improves.
use mathlib.Core.Path.{◌≡◌, sym, ap, ◌∙◌}
use borrow.Author.Tests.{not-true, not-false}
use mathlib.Core.List.{◌∷◌}
use mir.Syntax.{w64}
use mir.Val.{SFits}
use mir.Facts.{to_z-of_z}
use Rattle.nearest_steps.specs.Numbers.{gain_of, negative}
use Rattle.nearest_steps.specs.State.{sized}
use native.Mathlib.Omega.{arith}
use borrow.Author.Rules.{rules}
use Rattle.integers.specs.Size.{within-le}
use Rattle.nearest_search.specs.Taking.{sum_is, sum_room, list-room, step_room, step-products}
use Rattle.nearest_search.specs.Best.{Best, best_gain, best_better, best_none}
use Rattle.nearest_search.proofs.layer.Goals as goal

pub gain-v-requires : goal.gain-v-requires
gain-v-requires c =
    let found : Best c.args.g.now c.args.r.now c.args.j c.best-e.result c.best-e.new.s =
    simp (to_z-of_z, c.ranges.j) at c.best-e.ensures in
    let r = (sized c.requires.layer_known.near.meant).products in record {
      by_index = step_room c.args.r.now c.best-e.new.s r (λ i. within-le (omega arith) (found.sizes i));
      by_index_2 = step-products 30000000 2000000000 2000000000 c.best-e.result c.args.r.now c.best-e.new.s (omega arith) found.small r found.sizes;
    }

pub returns-then-not-improves : goal.returns-then-not-improves
returns-then-not-improves c =
    let found : Best c.args.g.now c.args.r.now c.args.j c.best-e.result c.best-e.new.s =
    simp (to_z-of_z, c.ranges.j) at c.best-e.ensures in
    -- what the squared length changes by
    let change : c.gain-v.result ≡ gain_of c.args.g.now c.args.r.now c.best-e.result =
    best_gain found c.gain-v.ensures in
    let number : SFits w64 c.gain-v.result =
    record { sfits = c.gain-v.type_inv } in
    -- the test
    let test : negative (c.gain-v.result ∷ c.best-e.result) ≡ c.improves.result =
    sym (c.improves.ensures ∙ ap (λ z. negative (z ∷ c.best-e.result)) (to_z-of_z number)) in
    best_none found _ change (test ∙ not-true _ c.if-not-improves.true-raw)

pub lose-requires : goal.lose-requires
lose-requires c =
    let found : Best c.args.g.now c.args.r.now c.args.j c.best-e.result c.best-e.new.s =
    simp (to_z-of_z, c.ranges.j) at c.best-e.ensures in
    (search rules, sum_room c.args.x.now c.best-e.result (list-room c.args.x.now c.best-e.result c.requires.bounded found.small))

pub returns : goal.returns
returns c =
    let found : Best c.args.g.now c.args.r.now c.args.j c.best-e.result c.best-e.new.s =
    simp (to_z-of_z, c.ranges.j) at c.best-e.ensures in
    -- what the squared length changes by
    let change : c.gain-v.result ≡ gain_of c.args.g.now c.args.r.now c.best-e.result =
    best_gain found c.gain-v.ensures in
    let number : SFits w64 c.gain-v.result =
    record { sfits = c.gain-v.type_inv } in
    -- the test
    let test : negative (c.gain-v.result ∷ c.best-e.result) ≡ c.improves.result =
    sym (c.improves.ensures ∙ ap (λ z. negative (z ∷ c.best-e.result)) (to_z-of_z number)) in
    simp (to_z-of_z, number)
    (best_better found c.args.x.now c.told-r change (test ∙ not-false _ c.if-not-improves.false-raw) (c.lose.ensures ∙ sum_is _ _))
