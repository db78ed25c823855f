-- The pieces one after another.
use Rattle.text_output.specs.Puts.{puts_then}
use Rattle.cli_answers.proofs.put_refused.Goals as goal

pub returns-clause-puts : goal.returns-clause-puts
returns-clause-puts c =
    puts_then c.put_bytes-first.ensures (puts_then (rw c.number.ensures at c.put_number-second.ensures.puts) (puts_then c.put_byte-third.ensures (puts_then c.put_number-fourth.ensures.puts c.put_byte.ensures)))
