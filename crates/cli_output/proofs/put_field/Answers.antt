-- The blank, then the number, of at most 20 bytes.
use Rattle.std.proofs.Common.{ap, length, arith, to_z-of_z}
use Rattle.integers.specs.Decimal.{signed}
use Rattle.cli_output.specs.Sizes.{signed-small}
use Rattle.cli_output.proofs.put_field.Goals as goal

pub put_signed-requires : goal.put_signed-requires
put_signed-requires c = omega (arith, ap (λ z. length (signed z)) (to_z-of_z c.ranges.z), signed-small c.args.z c.ranges.z, c.put_byte-k.ensures.place, c.put_byte-k.auto.out)

pub returns-clause-upper_bound : goal.returns-clause-upper_bound
returns-clause-upper_bound c = omega (arith, ap (λ z. length (signed z)) (to_z-of_z c.ranges.z), signed-small c.args.z c.ranges.z, c.put_byte-k.ensures.place, c.put_signed.ensures.place)
