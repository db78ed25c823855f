use Rattle.std.proofs.Common.{subst, arith}
use Rattle.integers.specs.Decimal.{decimal}
use Rattle.text_output.specs.Puts.{Puts, puts_then}
use Rattle.text_output.specs.Joined.{joined-room, puts-next, puts-all}
use Rattle.text_fields.specs.Blank.{blank, after-joined}
use Rattle.catalogue_listing.specs.Lines.{fields_length}
use Rattle.catalogue_listing.proofs.lines.put_numbers.Goals as goal

pub put_number-n-requires : goal.put_number-n-requires
put_number-n-requires c =
    let numbers = c.args.numbers.now in
    omega (
      arith,
      c.loop-number.auto.out,
      c.requires,
      c.loop-number.invariant.place,
      fields_length decimal numbers,
      joined-room (blank decimal) numbers c.loop-number.number-index 0 c.loop-number-test.true,
    )

pub loop-number-preserved : goal.loop-number-preserved
loop-number-preserved c = puts-next (blank decimal) c.args.numbers.now c.loop-number.number-index 0 c.loop-number-test.true c.loop-number.invariant c.put_number-n.ensures

pub put_byte-requires : goal.put_byte-requires
put_byte-requires c =
    let all = puts-all (blank decimal) c.args.numbers.now c.loop-number.number-index (omega arith) c.loop-number.invariant in
    omega (arith, c.loop-number.auto.out, c.requires, all.place, fields_length decimal c.args.numbers.now)

pub returns : goal.returns
returns c =
    let all = puts-all (blank decimal) c.args.numbers.now c.loop-number.number-index (omega arith) c.loop-number.invariant in
    subst (λ text. Puts text c.args.out.now c.args.at c.put_byte.new.out c.put_byte.result) (after-joined decimal c.args.numbers.now) (puts_then all c.put_byte.ensures)
