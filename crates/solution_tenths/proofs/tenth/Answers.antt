-- `tenth` adds the tenths of the coefficient, or gives 0.
use mathlib.Core.Path.{subst}
use lib.IntN.{pos, ◌+ℤ◌, ◌-ℤ◌, ◌*ℤ◌}
use mir.Syntax.{w64}
use mir.Val.{SFits}
use mir.Facts.{to_z-of_z}
use Rattle.integers.specs.Size.{within-mul, within-add, fits-within}
use Rattle.solutions.specs.Laws.Settled.{Between}
use Rattle.solution_tenths.specs.Rounding.{literal, with_whole, no_tenth}
use Rattle.solution_tenths.proofs.tenth.Goals as goal

pub returns-then-d-i : goal.returns-then-d-i
returns-then-d-i c = no_tenth c.args.x c.args.z (c.requires.x_value c.if-d-i.true) (c.requires.z_value c.if-d-i.true)

pub overflow_mul-result : goal.overflow_mul-result
overflow_mul-result c =
    let ten : SFits w64 (pos 10 *ℤ c.args.x) =
    fits-within (within-mul (literal 10) c.requires.within) tt in
    simp (to_z-of_z, c.ranges.x) ten

pub overflow_add-result : goal.overflow_add-result
overflow_add-result c =
    let ten : SFits w64 (pos 10 *ℤ c.args.x) =
    fits-within (within-mul (literal 10) c.requires.within) tt in
    let sum : SFits w64 (pos 10 *ℤ c.args.x +ℤ c.nearest.result) =
    fits-within (within-add (within-mul (literal 10) c.requires.within) c.nearest.ensures.within) tt in
    let f = ten in
    let g = fits-within {w = w64} c.nearest.ensures.within tt in
    simp (to_z-of_z, c.ranges.x, f, g) sum

pub returns : goal.returns
returns c =
    let ten : SFits w64 (pos 10 *ℤ c.args.x) =
    fits-within (within-mul (literal 10) c.requires.within) tt in
    let sum : SFits w64 (pos 10 *ℤ c.args.x +ℤ c.nearest.result) =
    fits-within (within-add (within-mul (literal 10) c.requires.within) c.nearest.ensures.within) tt in
    let f = ten in
    let g = fits-within {w = w64} c.nearest.ensures.within tt in
    let h = sum in
    simp (to_z-of_z, c.ranges.x, f, g, h)
    (with_whole c.args.x c.args.z c.nearest.result
    (subst (λ z. Between (pos 4096) (pos 10 *ℤ z -ℤ pos 8192 *ℤ c.nearest.result)) (to_z-of_z {w = w64} c.ranges.z) c.nearest.ensures.between))
