-- A line that is too long, and one that is neither long nor blank.
use Rattle.std.proofs.Common.{◌∙◌, length, lt-ltb, le-ltb, ne_eqb, arith}
use Rattle.text_output.specs.Puts.{puts_then}
use Rattle.cli_replies.specs.Told.{told-always, told-headed}
use Rattle.cli_replies.proofs.answer.Goals as goal

pub returns-then-s-gt4096-clause-told : goal.returns-then-s-gt4096-clause-told
returns-then-s-gt4096-clause-told c =
    rw (lt-ltb 4096 (length c.args.s.now) c.if-s-gt4096.true) (told-always (puts_then c.put_line_number-k.ensures.puts c.put_error.ensures.puts))

pub returns-clause-told : goal.returns-clause-told
returns-clause-told c =
    rw (le-ltb 4096 (length c.args.s.now) (omega (arith, c.if-s-gt4096.false)))
    (rw (ne_eqb _ _ (λ h. c.if-blanks-s.false (c.blanks.ensures.value ∙ h))) (told-headed c.put_line_number-k-2.ensures.puts c.put_reply.ensures.told))
