-- The coordinates so far are put.
use Rattle.std.proofs.Common.{take}
use Rattle.integers.specs.Decimal.{signed}
use Rattle.text_output.specs.Puts.{Puts}
use Rattle.text_output.specs.Joined.{joined}
use Rattle.text_fields.specs.Blank.{blank}
use Rattle.text_fields.proofs.put_coordinates.Given as goal

abbrev pub invariant-loop-z : goal.invariant-loop-z
invariant-loop-z l = Puts (joined (blank signed) (take l.z-index l.coordinates)) l.initial.out l.at l.out l.n
