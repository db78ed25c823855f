-- The number, then the others.
use Rattle.text_output.specs.Puts.{puts_then}
use Rattle.catalogue_listing.proofs.lines.put_counts.Goals as goal

pub returns : goal.returns
returns c = puts_then c.put_decimal-k.ensures c.put_numbers.ensures
