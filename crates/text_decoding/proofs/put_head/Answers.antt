-- The number, d, m, and the semicolon.
use Rattle.text_output.specs.Puts.{puts_then}
use Rattle.text_decoding.proofs.put_head.Goals as goal

pub returns : goal.returns
returns c = puts_then (puts_then (puts_then c.put_decimal-first.ensures c.put_number-second.ensures) c.put_number-third.ensures) c.put_bytes.ensures
