-- `visit` passes a layer that is too far away.
use mathlib.Core.List.{[]}
use lib.ListN.{get_or}
use mir.Syntax.{w64}
use mir.Val.{SFits}
use mir.Facts.{to_z-of_z}
use Rattle.integers.specs.Order.{lt_z_true}
use Rattle.lattices.specs.Vector.{nth}
use Rattle.nearest_steps.specs.State.{sized}
use Rattle.nearest_search.specs.LayerLaws.{layer-far, square-within}
use Rattle.nearest_search.specs.Turns.{turned_none, turned-other}
use Rattle.nearest_search.specs.Best.{FarFits, far-fits, layer-known, passed-any}
use Rattle.nearest_search.proofs.visit.Goals as goal

pub overflow_mul-n : goal.overflow_mul-n
overflow_mul-n c =
    let here : FarFits c.args.n c.args.j (nth (get_or c.args.g.now 3 []) 3) =
    far-fits (square-within c.requires.known_near.near c.args.n c.requires.known_near.square) c.requires.j_bound ((sized c.requires.known_near.near.meant).gram 3 3) in
    let f = here in simp (to_z-of_z, c.ranges.n) f.sixteen

pub overflow_mul-j : goal.overflow_mul-j
overflow_mul-j c =
    let here : FarFits c.args.n c.args.j (nth (get_or c.args.g.now 3 []) 3) =
    far-fits (square-within c.requires.known_near.near c.args.n c.requires.known_near.square) c.requires.j_bound ((sized c.requires.known_near.near.meant).gram 3 3) in
    let f = here in simp (to_z-of_z, c.ranges.j) f.squared

pub overflow_mul-j-2 : goal.overflow_mul-j-2
overflow_mul-j-2 c =
    let here : FarFits c.args.n c.args.j (nth (get_or c.args.g.now 3 []) 3) =
    far-fits (square-within c.requires.known_near.near c.args.n c.requires.known_near.square) c.requires.j_bound ((sized c.requires.known_near.near.meant).gram 3 3) in
    let entry : SFits w64 (nth (get_or c.args.g.now 3 []) 3) =
    record { sfits = c.t12-1.given } in
    let f = here in simp (to_z-of_z, c.ranges.j, f.squared, entry) f.product

pub returns-then-n-j : goal.returns-then-n-j
returns-then-n-j c =
    let here : FarFits c.args.n c.args.j (nth (get_or c.args.g.now 3 []) 3) =
    far-fits (square-within c.requires.known_near.near c.args.n c.requires.known_near.square) c.requires.j_bound ((sized c.requires.known_near.near.meant).gram 3 3) in
    let entry : SFits w64 (nth (get_or c.args.g.now 3 []) 3) =
    record { sfits = c.t12-1.given } in
    let f = here in
    let h = lt_z_true (simp (to_z-of_z, c.ranges.n, c.ranges.j, f.sixteen, f.squared, f.product, entry) at c.if-n-j.true) in
    turned_none _ _ _ (λ F vs t m e. layer-far m c.args.n c.args.j e h)

pub layer-requires : goal.layer-requires
layer-requires c = simp (to_z-of_z, c.ranges.j) (record {
  j_bound = c.requires.j_bound;
  bounded = c.requires.bounded;
  layer_known = layer-known c.requires.known_near;
})

pub returns : goal.returns
returns c = turned-other (passed-any c.args.n) (simp (to_z-of_z, c.ranges.j) at c.layer.ensures)
