use mathlib.Core.Path.{◌≡◌, ap, subst}
use native.Mathlib.Omega.{arith}
use lib.IntN.{pos}
use lib.ListN.{length, get_or}
use mir.Syntax.{w64}
use mir.Val.{to_z, of_z}
use mir.Facts.{to_z-of_z}
use borrow.Author.Rules.{rules}
use Rattle.integers.specs.Decimal.{signed}
use Rattle.text_output.specs.Puts.{Puts, puts-length}
use Rattle.text_output.specs.Joined.{joined-room, puts-next}
use Rattle.text_fields.specs.Blank.{blank}
use Rattle.text_fields.proofs.put_coordinates.Goals as goal

pub put_coordinate-n-requires : goal.put_coordinate-n-requires
put_coordinate-n-requires c =
    let long : length c.loop-z.out ≡ length c.args.out.now = puts-length c.loop-z.invariant in
    let coordinates = c.args.coordinates.now in
    let z = get_or coordinates c.loop-z.z-index (pos 0) in
    let e : to_z w64 (of_z w64 z) ≡ z = to_z-of_z {w = w64} (search rules) in
    omega (
      arith,
      long,
      c.requires,
      c.loop-z.invariant.place,
      joined-room (blank signed) coordinates c.loop-z.z-index (pos 0) c.loop-z-test.true,
      ap (λ z. length (signed z)) e,
    )

pub loop-z-preserved : goal.loop-z-preserved
loop-z-preserved c =
    let coordinates = c.args.coordinates.now in
    let z = get_or coordinates c.loop-z.z-index (pos 0) in
    let e : to_z w64 (of_z w64 z) ≡ z = to_z-of_z {w = w64} (search rules) in
    let put : Puts (blank signed z) c.loop-z.out c.loop-z.n c.put_coordinate-n.new.out c.put_coordinate-n.result =
    subst (λ z. Puts (blank signed z) c.loop-z.out c.loop-z.n c.put_coordinate-n.new.out c.put_coordinate-n.result) e c.put_coordinate-n.ensures in
    puts-next (blank signed) coordinates c.loop-z.z-index (pos 0) c.loop-z-test.true c.loop-z.invariant put
