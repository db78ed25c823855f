-- `multiple` divides with the rounding that leaves nothing to take.
use mathlib.Core.Path.{refl, subst}
use native.Mathlib.Omega.{arith}
use lib.IntN.{pos, +ℤ_idl}
use mir.Facts.{to_z-of_z}
use Rattle.integers.specs.Order.{lt_z_true, lt_z_false, le_z_true, le_z_false}
use Rattle.nearest_steps.specs.Multiples.{Still, Divided, divided, still-above, still-below, nothing-taken}
use Rattle.nearest_steps.proofs.multiple.Goals as goal

pub overflow_mul-twice : goal.overflow_mul-twice
overflow_mul-twice c =
    let here : Divided c.args.n c.args.p =
    divided c.args.n c.args.p c.requires.within c.requires.pos_bound c.requires.within_2 in
    let f = here in simp (to_z-of_z, c.ranges.p) f.twice

pub overflow_add-result : goal.overflow_add-result
overflow_add-result c =
    let here : Divided c.args.n c.args.p =
    divided c.args.n c.args.p c.requires.within c.requires.pos_bound c.requires.within_2 in
    let f = here in
    simp (to_z-of_z, c.ranges.n, c.ranges.p, f.twice) f.sum

pub overflow_sub-result : goal.overflow_sub-result
overflow_sub-result c =
    let here : Divided c.args.n c.args.p =
    divided c.args.n c.args.p c.requires.within c.requires.pos_bound c.requires.within_2 in
    let f = here in
    simp (to_z-of_z, c.ranges.n, c.ranges.p, f.twice, f.sum) f.above

pub overflow_mul-result : goal.overflow_mul-result
overflow_mul-result c =
    let here : Divided c.args.n c.args.p =
    divided c.args.n c.args.p c.requires.within c.requires.pos_bound c.requires.within_2 in
    let f = here in
    simp (to_z-of_z, c.ranges.n) f.divisor

pub nonzero_div-result : goal.nonzero_div-result
nonzero_div-result c =
    let here : Divided c.args.n c.args.p =
    divided c.args.n c.args.p c.requires.within c.requires.pos_bound c.requires.within_2 in
    let f = here in
    simp (to_z-of_z, c.ranges.n, c.ranges.p, f.twice, f.sum, f.above, f.divisor) (f.positive, f.above-fits)

pub returns-then-n-twice : goal.returns-then-n-twice
returns-then-n-twice c =
    let here : Divided c.args.n c.args.p =
    divided c.args.n c.args.p c.requires.within c.requires.pos_bound c.requires.within_2 in
    let f = here in
    let h = lt_z_true (simp (to_z-of_z, c.ranges.n, c.ranges.p, f.twice) at c.if-n-twice.true) in simp (to_z-of_z, c.ranges.n, c.ranges.p, f.twice, f.sum, f.above, f.divisor, f.above-fits) (record {
      within_3 = f.above_quotient;
      still = still-above c.args.n c.args.p c.requires.pos_bound h;
    })

pub overflow_sub-n : goal.overflow_sub-n
overflow_sub-n c =
    let here : Divided c.args.n c.args.p =
    divided c.args.n c.args.p c.requires.within c.requires.pos_bound c.requires.within_2 in
    let f = here in
    simp (to_z-of_z, c.ranges.n, +ℤ_idl) f.opposite

pub overflow_sub-result-then-twice-n : goal.overflow_sub-result-then-twice-n
overflow_sub-result-then-twice-n c =
    let here : Divided c.args.n c.args.p =
    divided c.args.n c.args.p c.requires.within c.requires.pos_bound c.requires.within_2 in
    let f = here in
    simp (to_z-of_z, c.ranges.n, c.ranges.p, f.twice) f.below

pub overflow_mul-result-then-twice-n : goal.overflow_mul-result-then-twice-n
overflow_mul-result-then-twice-n c =
    let here : Divided c.args.n c.args.p =
    divided c.args.n c.args.p c.requires.within c.requires.pos_bound c.requires.within_2 in
    let f = here in
    simp (to_z-of_z, c.ranges.n) f.divisor

pub nonzero_div-result-then-twice-n : goal.nonzero_div-result-then-twice-n
nonzero_div-result-then-twice-n c =
    let here : Divided c.args.n c.args.p =
    divided c.args.n c.args.p c.requires.within c.requires.pos_bound c.requires.within_2 in
    let f = here in
    simp (to_z-of_z, c.ranges.n, c.ranges.p, f.twice, f.below, f.divisor) (f.positive, f.below-fits)

pub returns-then-twice-n : goal.returns-then-twice-n
returns-then-twice-n c =
    let here : Divided c.args.n c.args.p =
    divided c.args.n c.args.p c.requires.within c.requires.pos_bound c.requires.within_2 in
    let f = here in
    let h = le_z_true (simp (to_z-of_z, c.ranges.n, c.ranges.p, +ℤ_idl, f.twice, f.opposite) at c.if-twice-n.true) in simp (to_z-of_z, c.ranges.n, c.ranges.p, f.twice, f.below, f.divisor, f.below-fits) (record {
      within_3 = f.below_quotient;
      still = still-below c.args.n c.args.p c.requires.pos_bound h;
    })

pub returns : goal.returns
returns c =
    let here : Divided c.args.n c.args.p =
    divided c.args.n c.args.p c.requires.within c.requires.pos_bound c.requires.within_2 in
    let f = here in
    let h = lt_z_false (simp (to_z-of_z, c.ranges.n, c.ranges.p, f.twice) at c.if-n-twice.false) in
    let k = le_z_false (simp (to_z-of_z, c.ranges.n, c.ranges.p, +ℤ_idl, f.twice, f.opposite) at c.if-twice-n.false) in record {
      within_3 = record { within = omega arith };
      still = subst (Still c.args.n) (nothing-taken c.args.n c.args.p (pos 0) refl) (k, h);
    }
