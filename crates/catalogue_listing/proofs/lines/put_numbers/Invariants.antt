-- The first numbers are put.
use Rattle.std.proofs.Common.{take}
use Rattle.integers.specs.Decimal.{decimal}
use Rattle.text_output.specs.Puts.{Puts}
use Rattle.text_output.specs.Joined.{joined}
use Rattle.text_fields.specs.Blank.{blank}
use Rattle.catalogue_listing.proofs.lines.put_numbers.Given as goal

abbrev pub invariant-loop-number : goal.invariant-loop-number
invariant-loop-number l = Puts (joined (blank decimal) (take l.number-index l.numbers)) l.initial.out l.at l.out l.n
