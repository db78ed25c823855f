-- The passes, the squares, then the rows of the three tables.
use Rattle.text_output.specs.Puts.{puts_then}
use Rattle.cli_answers.proofs.put_reduced.Goals as goal

pub returns-clause-puts : goal.returns-clause-puts
returns-clause-puts c =
    let vectors = rw c.unpacked.ensures at c.put_vectors-fourth.ensures.puts in
    let u = rw c.unpacked-2.ensures at c.put_table-fifth.ensures.puts in
    let v = rw c.unpacked-3.ensures at c.put_table.ensures.puts in
    puts_then c.put_bytes-first.ensures (puts_then (puts_then c.put_number-second.ensures.puts c.put_numbers-third.ensures.puts) (puts_then vectors (puts_then u v)))
