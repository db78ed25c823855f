-- `take_multiple` adds q to the coefficient, and `lose` takes the row.
use mathlib.Core.Path.{refl}
use native.Mathlib.Omega.{arith}
use lib.IntN.{◌+ℤ◌}
use mir.Syntax.{w64}
use mir.Val.{SFits}
use mir.Facts.{to_z-of_z}
use Rattle.integers.specs.Size.{fits-within, size-add}
use Rattle.lattices.specs.Vector.{nth}
use Rattle.row_operations.specs.Minus.{room}
use Rattle.nearest_steps.proofs.take_multiple.Goals as goal

pub overflow_add-x : goal.overflow_add-x
overflow_add-x c =
    let sum : SFits w64 (nth c.args.x.now c.args.i +ℤ c.args.q) =
    fits-within {B = room} (record { within = omega (arith, size-add (nth c.args.x.now c.args.i) c.args.q, c.requires.q_bound) }) tt in
    let entry : SFits w64 (nth c.args.x.now c.args.i) =
    fits-within {B = room} (record { within = omega (arith, c.requires.q_bound) }) tt in
    simp (to_z-of_z, c.ranges.q, entry) sum

pub returns : goal.returns
returns c =
    let sum : SFits w64 (nth c.args.x.now c.args.i +ℤ c.args.q) =
    fits-within {B = room} (record { within = omega (arith, size-add (nth c.args.x.now c.args.i) c.args.q, c.requires.q_bound) }) tt in
    let entry : SFits w64 (nth c.args.x.now c.args.i) =
    fits-within {B = room} (record { within = omega (arith, c.requires.q_bound) }) tt in
    simp (to_z-of_z, c.ranges.q, entry, sum) (record {
      r_after = simp (to_z-of_z, c.ranges.q) at c.lose.ensures;
      x_after = refl;
    })
