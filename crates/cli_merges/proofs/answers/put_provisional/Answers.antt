-- The pieces one after another.
use Rattle.text_output.specs.Puts.{puts_then}
use Rattle.cli_merges.proofs.answers.put_provisional.Goals as goal

pub returns-clause-puts : goal.returns-clause-puts
returns-clause-puts c = puts_then c.put_bytes-first.ensures (puts_then c.put_number-second.ensures.puts c.put_bytes.ensures)
