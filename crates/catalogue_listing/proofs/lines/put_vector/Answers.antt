-- The letter, the coordinates, the end of the line.
use Rattle.std.proofs.Common.{subst, ap, ◌∷◌, take, arith}
use Rattle.integers.specs.Decimal.{signed}
use Rattle.text_output.specs.Puts.{Puts, puts_then}
use Rattle.text_fields.specs.Blank.{after-joined}
use Rattle.catalogue_listing.specs.Lines.{fields_length}
use Rattle.catalogue_listing.proofs.lines.put_vector.Goals as goal

pub put_coordinates-n-requires : goal.put_coordinates-n-requires
put_coordinates-n-requires c =
    omega (arith, c.requires.v_in_bounds, fields_length signed (take c.args.m c.args.v.now), c.put_byte-k.ensures.place, c.put_byte-k.auto.out)

pub put_byte-requires : goal.put_byte-requires
put_byte-requires c =
    omega (
      arith,
      c.requires.v_in_bounds,
      fields_length signed (take c.args.m c.args.v.now),
      c.put_byte-k.ensures.place,
      c.put_byte-k.auto.out,
      c.put_coordinates-n.ensures.place,
      c.put_coordinates-n.auto.out,
    )

pub returns : goal.returns
returns c =
    subst (λ text. Puts text c.args.out.now c.args.at c.put_byte.new.out c.put_byte.result) (ap (λ text. 118 ∷ text) (after-joined signed (take c.args.m c.args.v.now)))
    (puts_then (puts_then c.put_byte-k.ensures c.put_coordinates-n.ensures) c.put_byte.ensures)
