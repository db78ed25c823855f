use Rattle.std.proofs.Common.{sym, ap, ◌∙◌, arith, set}
use Rattle.cli_merges.specs.DigitLaws.{length-bytes, bytes-more, bytes-all}
use Rattle.cli_merges.proofs.digits.put_bytes.Goals as goal

pub loop-i-preserved : goal.loop-i-preserved
loop-i-preserved c =
    let here = c.loop-i-test.true in (
      omega (arith, here),
      ap (λ out. set out c.loop-i.i c.byte_of.result) c.loop-i.invariant.1 ∙ bytes-more c.args.out.now c.args.s.now c.loop-i.i (omega (arith, here)) c.byte_of.ensures,
    )

pub returns-clause-out_after : goal.returns-clause-out_after
returns-clause-out_after c = c.loop-i.invariant.1 ∙ bytes-all c.args.out.now c.args.s.now c.loop-i.i (omega (arith, c.loop-i-test.false))

pub returns-clause-value : goal.returns-clause-value
returns-clause-value c = sym (length-bytes c.args.s.now)
