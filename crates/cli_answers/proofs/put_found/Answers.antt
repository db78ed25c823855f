-- The distance, the coefficients, the tenths, the vector.
use Rattle.std.proofs.Common.{◌≡◌, of_z, to_z, w64, rules}
use Rattle.text_output.specs.Puts.{puts_then}
use Rattle.cli_answers.proofs.put_found.Goals as goal

pub returns-clause-puts : goal.returns-clause-puts
returns-clause-puts c =
    let same : to_z w64 (of_z w64 c.args.a.now.square) ≡ c.args.a.now.square = search rules in
    let square = rw same at c.put_field-second.ensures.puts in
    puts_then c.put_bytes-first.ensures (puts_then (puts_then square c.put_byte-third.ensures) (puts_then c.put_table_row-fourth.ensures.puts (puts_then c.put_table_row-fifth.ensures.puts c.put_vector.ensures.puts)))
