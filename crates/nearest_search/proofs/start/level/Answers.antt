use mathlib.Core.List.{[]}
use lib.IntN.{+ℤ_idl}
use lib.ListN.{get_or}
use mir.Syntax.{w64}
use mir.Val.{SFits}
use mir.Facts.{to_z-of_z}
use Rattle.integers.specs.Size.{fits-within, within-neg}
use Rattle.lattices.specs.Vector.{nth}
use Rattle.nearest_steps.specs.Multiples.{within-twice}
use Rattle.nearest_search.proofs.start.level.Goals as goal

pub overflow_mul-p : goal.overflow_mul-p
overflow_mul-p c =
    let inner : SFits w64 (nth c.args.r.now c.loop-i.i) =
    record { sfits = c.p-1.given } in
    simp (to_z-of_z, inner) (fits-within (within-twice (c.requires.bounded c.loop-i.i)) tt)

pub overflow_sub-n : goal.overflow_sub-n
overflow_sub-n c =
    let square : SFits w64 (nth (get_or c.args.g.now c.loop-i.i []) c.loop-i.i) =
    record { sfits = c.n-1.given } in
    simp (to_z-of_z, square, +ℤ_idl) (fits-within (within-neg (c.requires.by_index c.loop-i.i c.loop-i.i)) tt)
