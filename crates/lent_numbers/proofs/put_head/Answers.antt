-- Two counts are stored as signed numbers, and the third number as it is.
use mathlib.Core.Path.{◌≡◌}
use native.Mathlib.Omega.{arith}
use lib.IntN.{pos}
use lib.ListN.{set, length-set}
use mir.Syntax.{w64}
use mir.Facts.{to_z_pos, to_z-of_z}
use mir.Val.{to_z, of_z}
use Rattle.lent_numbers.proofs.put_head.Goals as goal

pub bounds-out-1 : goal.bounds-out-1
bounds-out-1 c = simp length-set (omega arith)

pub returns : goal.returns
returns c =
    let a : to_z w64 c.args.refusal ≡ pos c.args.refusal = to_z_pos w64 (omega arith) in
    let b : to_z w64 c.args.place ≡ pos c.args.place = to_z_pos w64 (omega arith) in
    let d : to_z w64 (of_z w64 c.args.number) ≡ c.args.number = to_z-of_z c.ranges.number in
    λ k. set (set (set c.args.out.now 0 (a k)) 1 (b k)) 2 (d k)
