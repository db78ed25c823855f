use mathlib.Core.Path.{◌≡◌, sym, ap, ◌∙◌, subst, subst₂}
use mathlib.Core.List.{[]}
use borrow.Author.Rules.{rules}
use Rattle.std.specs.Prelude.{is_some}
use Prim.Native.Nat.{◌<◌}
use native.Mathlib.Omega.{arith}
use lib.IntN.{pos, ◌+ℤ◌}
use lib.ListN.{get_or, set}
use mir.Syntax.{w64}
use mir.Val.{SFits, to_z, of_z}
use mir.Facts.{to_z-of_z}
use Rattle.integers.specs.Size.{fits-within}
use Rattle.lattices.specs.Vector.{nth, ◌⊖◌, ◌⊙◌}
use Rattle.solution_tenths.specs.Tests.{Toward, toward_unit, stored}
use Rattle.solution_tenths.specs.Taken.{Taken, gram-bounded, products-bounded, parts-bounded, step_room, next_fits, measure, taken_next, falls, descends, taken-settled}
use Rattle.solution_tenths.proofs.settled.Goals as goal

pub loop-p-init : goal.loop-p-init
loop-p-init c = λ bs u t. t

pub steep-requires : goal.steep-requires
steep-requires c =
    -- what is taken, of the vectors that the caller knows
    let here : Taken c.requires.vectors c.requires.target c.args.g.now c.loop-p.l c.loop-p.w =
    c.loop-p.invariant c.requires.vectors c.requires.target c.requires.taken in
    record {
      by_index = gram-bounded here;
      bounded = products-bounded here;
    }

pub offset_bounds-l-p : goal.offset_bounds-l-p
offset_bounds-l-p c = let inside : c.in-Some.p < 4 = (c.steep.ensures.steep c.in-Some.is).0 in omega (arith, inside)

pub bounds-l-p : goal.bounds-l-p
bounds-l-p c = (c.steep.ensures.steep c.in-Some.is).0

pub lose-requires : goal.lose-requires
lose-requires c =
    -- what is taken, of the vectors that the caller knows
    let here : Taken c.requires.vectors c.requires.target c.args.g.now c.loop-p.l c.loop-p.w =
    c.loop-p.invariant c.requires.vectors c.requires.target c.requires.taken in
    let side : Toward (nth c.loop-p.l c.in-Some.p) c.toward-q.result =
    subst (λ y. Toward y c.toward-q.result) (to_z-of_z {w = w64} (fits-within (products-bounded here c.in-Some.p) tt)) c.toward-q.ensures in
    (search rules, step_room here c.in-Some.p _ (stored side))

pub overflow_add-w : goal.overflow_add-w
overflow_add-w c =
    -- what is taken, of the vectors that the caller knows
    let here : Taken c.requires.vectors c.requires.target c.args.g.now c.loop-p.l c.loop-p.w =
    c.loop-p.invariant c.requires.vectors c.requires.target c.requires.taken in
    let side : Toward (nth c.loop-p.l c.in-Some.p) c.toward-q.result =
    subst (λ y. Toward y c.toward-q.result) (to_z-of_z {w = w64} (fits-within (products-bounded here c.in-Some.p) tt)) c.toward-q.ensures in
    let sign_fits : SFits w64 c.toward-q.result =
    fits-within (toward_unit side) tt in
    let m = here in
    let f = fits-within {w = w64} (parts-bounded m c.in-Some.p) tt in
    let g = sign_fits in
    simp (to_z-of_z, f, g) (next_fits m c.in-Some.p _ side)

pub loop-p-smaller : goal.loop-p-smaller
loop-p-smaller c =
    -- what is taken, of the vectors that the caller knows
    let here : Taken c.requires.vectors c.requires.target c.args.g.now c.loop-p.l c.loop-p.w =
    c.loop-p.invariant c.requires.vectors c.requires.target c.requires.taken in
    let side : Toward (nth c.loop-p.l c.in-Some.p) c.toward-q.result =
    subst (λ y. Toward y c.toward-q.result) (to_z-of_z {w = w64} (fits-within (products-bounded here c.in-Some.p) tt)) c.toward-q.ensures in
    let found = c.steep.ensures.steep c.in-Some.is in
    let inside : c.in-Some.p < 4 = found.0 in
    let sign_fits : SFits w64 c.toward-q.result =
    fits-within (toward_unit side) tt in
    -- what is stored
    let part-is : to_z w64 (of_z w64 (to_z w64 (of_z w64 (get_or c.loop-p.w c.in-Some.p (pos 0))) +ℤ to_z w64 (of_z w64 c.toward-q.result))) ≡ nth c.loop-p.w c.in-Some.p +ℤ c.toward-q.result =
    let m = here in
    let f = fits-within {w = w64} (parts-bounded m c.in-Some.p) tt in
    let g = sign_fits in
    let h = next_fits m c.in-Some.p _ side in
    simp (to_z-of_z, f, g, h) in
    let rest-is : c.lose.new.a ≡ c.loop-p.l ⊖ c.toward-q.result ⊙ get_or c.args.g.now c.in-Some.p [] =
    c.lose.ensures ∙ ap (λ y. c.loop-p.l ⊖ y ⊙ get_or c.args.g.now c.in-Some.p []) (to_z-of_z {w = w64} sign_fits) in
    let steep = found.1 in
    subst₂ (λ z h. measure c.args.h c.args.z h z < measure c.args.h c.args.z c.loop-p.l c.loop-p.w)
    (ap (set c.loop-p.w c.in-Some.p) (sym part-is)) (sym rest-is)
    (descends c.requires.taken here (taken_next here c.in-Some.p _ side inside steep) (falls here c.in-Some.p _ side inside steep))

pub loop-p-preserved : goal.loop-p-preserved
loop-p-preserved c =
    -- what is taken, of the vectors that the caller knows
    let here : Taken c.requires.vectors c.requires.target c.args.g.now c.loop-p.l c.loop-p.w =
    c.loop-p.invariant c.requires.vectors c.requires.target c.requires.taken in
    let side : Toward (nth c.loop-p.l c.in-Some.p) c.toward-q.result =
    subst (λ y. Toward y c.toward-q.result) (to_z-of_z {w = w64} (fits-within (products-bounded here c.in-Some.p) tt)) c.toward-q.ensures in
    let found = c.steep.ensures.steep c.in-Some.is in
    let inside : c.in-Some.p < 4 = found.0 in
    let sign_fits : SFits w64 c.toward-q.result =
    fits-within (toward_unit side) tt in
    -- what is stored
    let part-is : to_z w64 (of_z w64 (to_z w64 (of_z w64 (get_or c.loop-p.w c.in-Some.p (pos 0))) +ℤ to_z w64 (of_z w64 c.toward-q.result))) ≡ nth c.loop-p.w c.in-Some.p +ℤ c.toward-q.result =
    let m = here in
    let f = fits-within {w = w64} (parts-bounded m c.in-Some.p) tt in
    let g = sign_fits in
    let h = next_fits m c.in-Some.p _ side in
    simp (to_z-of_z, f, g, h) in
    let rest-is : c.lose.new.a ≡ c.loop-p.l ⊖ c.toward-q.result ⊙ get_or c.args.g.now c.in-Some.p [] =
    c.lose.ensures ∙ ap (λ y. c.loop-p.l ⊖ y ⊙ get_or c.args.g.now c.in-Some.p []) (to_z-of_z {w = w64} sign_fits) in
    let steep = found.1 in
    λ bs u t. subst₂ (λ z h. Taken bs u c.args.g.now h z) (ap (set c.loop-p.w c.in-Some.p) (sym part-is)) (sym rest-is)
    (taken_next (c.loop-p.invariant bs u t) c.in-Some.p _ side inside steep)

pub returns : goal.returns
returns c = λ bs u t. taken-settled (c.loop-p.invariant bs u t) c.steep.ensures (ap is_some c.in_default.is)
