use mathlib.Core.Path.{refl, ap₂, ◌∙◌}
use Prim.Native.Nat.{◌≤◌}
use native.Mathlib.Numerals.{add-one}
use borrow.Author.Rules.{rules}
use lib.ListN.{length}
use lib.Seq.{take_all}
use mir.Facts.{to_z-of_z}
use Rattle.lattices.specs.Vector.{dot}
use Rattle.row_operations.specs.Dot.{DotTurn, dot-suc, dot-turn_of_weight}
use Rattle.row_operations.proofs.dot.Goals as goal

pub loop-i-init : goal.loop-i-init
unfolding dot
loop-i-init g c = refl

pub overflow_mul-sum : goal.overflow_mul-sum
overflow_mul-sum g c =
    let turn : DotTurn c.args.a.now c.args.b.now c.loop-i.i = dot-turn_of_weight _ _ c.requires _ (record { sfits = c.sum-1.given }) (record { sfits = c.sum-in-loop-i-1.given }) in
    simp (to_z-of_z, turn.left, turn.right) turn.product

pub overflow_add-sum : goal.overflow_add-sum
overflow_add-sum g c =
    let turn : DotTurn c.args.a.now c.args.b.now c.loop-i.i = dot-turn_of_weight _ _ c.requires _ (record { sfits = c.sum-1.given }) (record { sfits = c.sum-in-loop-i-1.given }) in
    simp (c.loop-i.invariant, to_z-of_z, turn.left, turn.right, turn.product, turn.sum) turn.next

pub loop-i-preserved : goal.loop-i-preserved
loop-i-preserved g c =
    let turn : DotTurn c.args.a.now c.args.b.now c.loop-i.i = dot-turn_of_weight _ _ c.requires _ (record { sfits = c.sum-1.given }) (record { sfits = c.sum-in-loop-i-1.given }) in
    simp (c.loop-i.invariant, to_z-of_z, turn.left, turn.right, turn.product, turn.sum, turn.next, add-one, dot-suc)

pub returns : goal.returns
returns g c =
    let p : length c.args.a.now ≤ c.loop-i.i = search rules in
    let q : length c.args.b.now ≤ c.loop-i.i = search rules in
    c.loop-i.invariant ∙ ap₂ dot (take_all c.loop-i.i c.args.a.now p) (take_all c.loop-i.i c.args.b.now q)
