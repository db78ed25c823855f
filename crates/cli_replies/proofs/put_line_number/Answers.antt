-- The number and a blank.
use Rattle.text_output.specs.Puts.{puts_then}
use Rattle.cli_replies.proofs.put_line_number.Goals as goal

pub returns-clause-puts : goal.returns-clause-puts
returns-clause-puts c = rw c.if-not-numbered.false (puts_then c.put_number-k.ensures.puts c.put_byte.ensures)
