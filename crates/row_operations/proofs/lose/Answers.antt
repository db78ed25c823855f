use mathlib.Core.Path.{◌≡◌, sym, ap, ◌∙◌}
use Prim.Native.Nat.{◌≤◌}
use native.Mathlib.Numerals.{add-one}
use native.Mathlib.Omega.{arith}
use borrow.Author.Rules.{rules}
use lib.ListN.{length, get_or}
use lib.IntN.{pos}
use mir.Syntax.{w64}
use mir.Val.{SFits, of_z, to_z}
use mir.Facts.{to_z-of_z}
use Rattle.lattices.specs.Vector.{◌⊖◌, ◌⊙◌}
use Rattle.row_operations.specs.Loss.{⊖-nothing}
use Rattle.row_operations.specs.Front.{front-all}
use Rattle.row_operations.specs.Minus.{MinusTurn, minus-turn, minus-entry, minus-next, length-minus}
use Rattle.row_operations.proofs.lose.Goals as goal

pub returns-then-q-eq0 : goal.returns-then-q-eq0
returns-then-q-eq0 g c =
    let zero : c.args.q ≡ pos 0 = sym (to_z-of_z c.ranges.q) ∙ ap (to_z w64) c.if-q-eq0.true in
    rw zero (sym (⊖-nothing c.args.a.now c.args.b.now (omega (arith, c.told-a, c.told-b))))

pub overflow_mul-a : goal.overflow_mul-a
overflow_mul-a g c =
    let turn : MinusTurn c.args.a.now c.args.q c.args.b.now c.loop-i.i = minus-turn _ _ _ _ (c.requires c.loop-i.i) in
    let b-fits : SFits w64 (get_or c.args.b.now c.loop-i.i (pos 0)) = record { sfits = c.a-1.given } in
    simp (to_z-of_z, c.ranges.q, b-fits) turn.multiple

pub overflow_sub-a : goal.overflow_sub-a
overflow_sub-a g c =
    let turn : MinusTurn c.args.a.now c.args.q c.args.b.now c.loop-i.i = minus-turn _ _ _ _ (c.requires c.loop-i.i) in
    let b-fits : SFits w64 (get_or c.args.b.now c.loop-i.i (pos 0)) = record { sfits = c.a-1.given } in
    let as-it-was : get_or c.loop-i.a c.loop-i.i (pos 0) ≡ get_or c.args.a.now c.loop-i.i (pos 0) =
    ap (λ l. get_or l c.loop-i.i (pos 0)) c.loop-i.invariant ∙ minus-entry c.args.a.now (to_z w64 (of_z w64 c.args.q)) c.args.b.now c.loop-i.i (search rules) (search rules) in
    simp (to_z-of_z, c.ranges.q, b-fits, as-it-was, turn.entry, turn.multiple) turn.difference

pub loop-i-preserved : goal.loop-i-preserved
loop-i-preserved g c =
    let turn : MinusTurn c.args.a.now c.args.q c.args.b.now c.loop-i.i = minus-turn _ _ _ _ (c.requires c.loop-i.i) in
    let b-fits : SFits w64 (get_or c.args.b.now c.loop-i.i (pos 0)) = record { sfits = c.a-1.given } in
    let as-it-was : get_or c.loop-i.a c.loop-i.i (pos 0) ≡ get_or c.args.a.now c.loop-i.i (pos 0) =
    ap (λ l. get_or l c.loop-i.i (pos 0)) c.loop-i.invariant ∙ minus-entry c.args.a.now (to_z w64 (of_z w64 c.args.q)) c.args.b.now c.loop-i.i (search rules) (search rules) in
    simp (to_z-of_z, c.ranges.q, b-fits, as-it-was, turn.entry, turn.multiple, turn.difference)
    (simp (c.loop-i.invariant, add-one, to_z-of_z, c.ranges.q) (minus-next c.args.a.now c.args.q c.args.b.now c.loop-i.i (search rules) (search rules)))

pub returns : goal.returns
returns g c =
    let m = c.args.a.now ⊖ c.args.q ⊙ c.args.b.now in
    let e : length c.args.a.now ≡ length c.args.b.now = search rules in
    let p : length c.args.a.now ≤ c.loop-i.i = search rules in
    simp (c.loop-i.invariant, to_z-of_z, c.ranges.q)
    (front-all c.loop-i.i m c.args.a.now (omega (arith, length-minus c.args.a.now c.args.q c.args.b.now e)) p)
