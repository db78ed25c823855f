use native.Mathlib.Omega.{arith}
use borrow.Author.Rules.{rules}
use lib.IntN.{neg_ℤ, +ℤ_idl}
use mir.Syntax.{w64}
use mir.Val.{SFits}
use mir.Facts.{to_z-of_z}
use Rattle.integers.specs.Order.{lt_z_true, lt_z_false, le_z_true, le_z_false}
use Rattle.integers.specs.Size.{within-neg, fits-within}
use Rattle.lattices.specs.Vector.{nth}
use Rattle.nearest_steps.specs.Places.{walked_first, walked_opposite, walked_none, neither-next}
use Rattle.nearest_steps.proofs.table.walk.Goals as goal

pub loop-i-init : goal.loop-i-init
loop-i-init c = (search rules, λ j l. absurd (omega arith))

pub returns-then-a-b : goal.returns-then-a-b
returns-then-a-b c =
    -- the square and the sum of a pair
    let square : SFits w64 (nth c.args.q c.loop-i.i) =
    record { sfits = c.a-1.given } in
    let sum : SFits w64 (nth c.args.l c.loop-i.i) =
    record { sfits = c.b-1.given } in
    walked_first c.args.n _ _ _ (search rules) (lt_z_true (simp (to_z-of_z, square, sum) at c.if-a-b.true))

pub overflow_sub-a : goal.overflow_sub-a
overflow_sub-a c =
    -- the square and the sum of a pair
    let square : SFits w64 (nth c.args.q c.loop-i.i) =
    record { sfits = c.a-1.given } in
    let opposite : SFits w64 (neg_ℤ (nth c.args.q c.loop-i.i)) =
    fits-within (within-neg (c.requires.bounded c.loop-i.i)) tt in
    simp (to_z-of_z, square, +ℤ_idl) opposite

pub returns-then-b-a : goal.returns-then-b-a
returns-then-b-a c =
    -- the square and the sum of a pair
    let square : SFits w64 (nth c.args.q c.loop-i.i) =
    record { sfits = c.a-1.given } in
    let sum : SFits w64 (nth c.args.l c.loop-i.i) =
    record { sfits = c.b-1.given } in
    let opposite : SFits w64 (neg_ℤ (nth c.args.q c.loop-i.i)) =
    fits-within (within-neg (c.requires.bounded c.loop-i.i)) tt in
    walked_opposite c.args.n _ _ _ (search rules) (le_z_true (simp (to_z-of_z, square, sum, +ℤ_idl, opposite) at c.if-b-a.true))

pub loop-i-preserved : goal.loop-i-preserved
loop-i-preserved c =
    -- the square and the sum of a pair
    let square : SFits w64 (nth c.args.q c.loop-i.i) =
    record { sfits = c.a-1.given } in
    let sum : SFits w64 (nth c.args.l c.loop-i.i) =
    record { sfits = c.b-1.given } in
    let opposite : SFits w64 (neg_ℤ (nth c.args.q c.loop-i.i)) =
    fits-within (within-neg (c.requires.bounded c.loop-i.i)) tt in (
      search rules,
      neither-next c.loop-i.i c.args.q c.args.l c.loop-i.invariant.1 (lt_z_false (simp (to_z-of_z, square, sum) at c.if-a-b.false), le_z_false (simp (to_z-of_z, square, sum, +ℤ_idl, opposite) at c.if-b-a.false)),
    )

pub returns : goal.returns
returns c = walked_none c.args.n c.args.q c.args.l (λ j l. c.loop-i.invariant.1 j (omega (arith, c.loop-i-test.false)))
