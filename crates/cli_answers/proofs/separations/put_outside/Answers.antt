-- The pieces one after another.
use Rattle.std.proofs.Common.{◌≡◌, of_z, to_z, w64, rules}
use Rattle.text_output.specs.Puts.{puts_then}
use Rattle.cli_answers.proofs.separations.put_outside.Goals as goal

pub returns-clause-puts : goal.returns-clause-puts
returns-clause-puts c =
    let same : to_z w64 (of_z w64 c.args.square) ≡ c.args.square = search rules in
    let square = rw same at c.put_field-fourth.ensures.puts in
    puts_then c.put_bytes-first.ensures (puts_then c.put_byte-second.ensures (puts_then (rw c.from.ensures at c.put_number-third.ensures.puts) (puts_then square c.put_byte.ensures)))
