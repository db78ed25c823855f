-- A number of 64 bits has at most 20 digits.
use Rattle.std.proofs.Common.{arith}
use Rattle.cli_output.specs.Sizes.{decimal-small}
use Rattle.cli_output.proofs.put_number.Goals as goal

pub put_decimal-requires : goal.put_decimal-requires
put_decimal-requires c = omega (arith, decimal-small c.args.n c.ranges.n.fits)

pub returns-clause-upper_bound : goal.returns-clause-upper_bound
returns-clause-upper_bound c = omega (arith, c.put_decimal.ensures.place, decimal-small c.args.n c.ranges.n.fits)
