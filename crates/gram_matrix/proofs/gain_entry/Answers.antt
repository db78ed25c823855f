-- `gain_entry` adds one multiple.
use lib.IntN.{◌*ℤ◌}
use mir.Syntax.{w64}
use mir.Val.{SFits}
use mir.Facts.{to_z-of_z}
use Rattle.lattices.specs.Vector.{nth}
use Rattle.gram_matrix.specs.Fits.{Room, room_fits}
use Rattle.gram_matrix.proofs.gain_entry.Goals as goal

pub overflow_mul-r : goal.overflow_mul-r
overflow_mul-r c =
    let fit : Room (nth c.args.r.now c.args.j) (c.args.q *ℤ nth c.args.r.now c.args.k) =
    room_fits _ _ c.requires.k_bound in
    let read : SFits w64 (nth c.args.r.now c.args.k) =
    record { sfits = c.r-1.given } in
    simp (to_z-of_z, c.ranges.q, read) fit.right

pub overflow_add-r : goal.overflow_add-r
overflow_add-r c =
    let fit : Room (nth c.args.r.now c.args.j) (c.args.q *ℤ nth c.args.r.now c.args.k) =
    room_fits _ _ c.requires.k_bound in
    let read : SFits w64 (nth c.args.r.now c.args.k) =
    record { sfits = c.r-1.given } in
    let kept : SFits w64 (nth c.args.r.now c.args.j) =
    record { sfits = c.r-2-1.given } in
    simp (to_z-of_z, c.ranges.q, read, kept, fit.right) fit.sum

pub returns : goal.returns
returns c =
    let fit : Room (nth c.args.r.now c.args.j) (c.args.q *ℤ nth c.args.r.now c.args.k) =
    room_fits _ _ c.requires.k_bound in
    let read : SFits w64 (nth c.args.r.now c.args.k) =
    record { sfits = c.r-1.given } in
    let kept : SFits w64 (nth c.args.r.now c.args.j) =
    record { sfits = c.r-2-1.given } in
    simp (to_z-of_z, c.ranges.q, read, kept, fit.right, fit.sum)
