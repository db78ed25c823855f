-- `product` is a multiple less an inner product, or 0.
use mathlib.Core.Path.{ap}
use Prim.Native.Nat.{◌≤◌}
use native.Mathlib.Omega.{arith}
use borrow.Author.Rules.{rules}
use lib.ListN.{length}
use lib.IntN.{pos, ◌-ℤ◌, ◌*ℤ◌}
use mir.Syntax.{w64}
use mir.Val.{SFits}
use mir.Facts.{to_z-of_z}
use Rattle.integers.specs.Size.{Within, within-mul, within-sub, fits-within}
use Rattle.solution_tenths.specs.Rounding.{literal, nothing_left, parts_light, parts_within}
use Rattle.solution_tenths.proofs.product.Goals as goal

pub returns-then-d-i : goal.returns-then-d-i
returns-then-d-i c = nothing_left c.args.row.now c.args.z.now c.args.r (c.requires.r_value c.if-d-i.true) (c.requires.j_value c.if-d-i.true)

pub overflow_mul-result : goal.overflow_mul-result
overflow_mul-result c =
    let here : SFits w64 (pos 8192 *ℤ c.args.r) =
    fits-within (within-mul (literal 8192) c.requires.within) tt in
    simp (to_z-of_z, c.ranges.r) here

pub dot-requires : goal.dot-requires
dot-requires c =
    let few : length c.args.z.now ≤ 4 = search rules in
    (search rules, omega (arith, parts_light c.args.z.now c.args.row.now few c.requires.bounded_2 c.requires.bounded))

pub overflow_sub-result : goal.overflow_sub-result
overflow_sub-result c =
    let few : length c.args.z.now ≤ 4 = search rules in
    let small : Within 2000000000000000 c.dot.result = parts_within c.args.z.now c.args.row.now few c.requires.bounded_2 c.requires.bounded c.dot.ensures in
    let here : SFits w64 (pos 8192 *ℤ c.args.r) =
    fits-within (within-mul (literal 8192) c.requires.within) tt in
    let whole : SFits w64 (pos 8192 *ℤ c.args.r -ℤ c.dot.result) =
    fits-within (within-sub (within-mul (literal 8192) c.requires.within) small) tt in
    let f = here in let g = fits-within {w = w64} small tt in simp (to_z-of_z, c.ranges.r, f, g) whole

pub returns : goal.returns
returns c =
    let few : length c.args.z.now ≤ 4 = search rules in
    let small : Within 2000000000000000 c.dot.result = parts_within c.args.z.now c.args.row.now few c.requires.bounded_2 c.requires.bounded c.dot.ensures in
    let here : SFits w64 (pos 8192 *ℤ c.args.r) =
    fits-within (within-mul (literal 8192) c.requires.within) tt in
    let whole : SFits w64 (pos 8192 *ℤ c.args.r -ℤ c.dot.result) =
    fits-within (within-sub (within-mul (literal 8192) c.requires.within) small) tt in
    let f = here in let g = fits-within {w = w64} small tt in let h = whole in simp (to_z-of_z, c.ranges.r, f, g, h) (ap (λ w. pos 8192 *ℤ c.args.r -ℤ w) c.dot.ensures)
