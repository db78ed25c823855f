use mathlib.Core.Path.{refl, sym, ap, subst}
use Prim.Native.Nat.{ℕ}
use native.Mathlib.Omega.{arith}
use borrow.Author.Rules.{rules}
use borrow.Author.Count.{below_more}
use Rattle.std.specs.Prelude.{IsNone, is_some}
use mir.Syntax.{w64}
use mir.Val.{SFits}
use mir.Facts.{to_z-of_z}
use Rattle.integers.specs.Size.{Within, fits-within}
use Rattle.lattices.specs.Vector.{nth}
use Rattle.nearest_search.specs.MeantNear.{KnownNear}
use Rattle.nearest_search.specs.LayerLaws.{Passed}
use Rattle.nearest_search.specs.Turns.{Turned, turned_none, turned-better, five_layers, five_layers-small, five_layers-all}
use Rattle.nearest_search.proofs.walk.Goals as goal

layer_fits : (i : ℕ) → SFits w64 (nth five_layers i)
layer_fits i = fits-within {B = 2} (record { within = five_layers-small i }) tt

pub loop-j-init : goal.loop-j-init
loop-j-init c = (refl, (refl, λ k h. absurd (omega arith)))

pub visit-requires : goal.visit-requires
unfolding five_layers
visit-requires c = simp (to_z-of_z, layer_fits c.loop-j.j-index, c.ranges.n) (record {
  j_bound = five_layers-small c.loop-j.j-index;
  bounded = subst (λ x. (i : ℕ) → Within 30000000 (nth x i)) (sym c.loop-j.invariant.1.0) c.requires.bounded;
  known_near = subst (KnownNear 4 c.args.n c.args.g.now) (sym c.loop-j.invariant.0) c.requires.known_near;
})

pub returns-in-Some : goal.returns-in-Some
unfolding five_layers
returns-in-Some c =
    -- what became of the layer, from the numbers at the start
    let visited : Turned (Passed c.args.n c.args.g.now c.args.r.now (nth five_layers c.loop-j.j-index)) c.args.g.now c.args.r.now c.args.x.now c.visit.new.r c.visit.new.x c.visit.result =
    let t = simp (to_z-of_z, layer_fits c.loop-j.j-index, c.ranges.n) at c.visit.ensures in
    rw (c.loop-j.invariant.0, c.loop-j.invariant.1.0) at t in
    let number : SFits w64 c.in-Some.v = search rules in
    simp (to_z-of_z, number) (turned-better (visited.better c.in-Some.is) (sym (visited.gained c.in-Some.is)))

pub loop-j-preserved : goal.loop-j-preserved
unfolding five_layers
loop-j-preserved c =
    -- what became of the layer, from the numbers at the start
    let visited : Turned (Passed c.args.n c.args.g.now c.args.r.now (nth five_layers c.loop-j.j-index)) c.args.g.now c.args.r.now c.args.x.now c.visit.new.r c.visit.new.x c.visit.result =
    let t = simp (to_z-of_z, layer_fits c.loop-j.j-index, c.ranges.n) at c.visit.ensures in
    rw (c.loop-j.invariant.0, c.loop-j.invariant.1.0) at t in
    let none : IsNone c.visit.result = ap is_some c.in_default.is in
    ((visited.same none).0, ((visited.same none).1, below_more _ _ c.loop-j.invariant.1.1 (simp (to_z-of_z, c.ranges.n) (visited.none none))))

pub returns : goal.returns
returns c =
    rw (c.loop-j.invariant.0, c.loop-j.invariant.1.0) (turned_none _ _ _ (five_layers-all _ (λ k h. simp (to_z-of_z, c.ranges.n) at (c.loop-j.invariant.1.1 k (omega (arith, c.loop-j-test.false))))))
