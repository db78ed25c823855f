use Rattle.std.proofs.Common.{◌≡◌, refl, ap, ◌∙◌, subst, arith, rules, pos, length, get_or, take, take_all, to_z, of_z, to_z-of_z}
use Rattle.std.specs.Int.{w64}
use Rattle.integers.specs.Decimal.{signed}
use Rattle.text_output.specs.Puts.{Puts, puts_then}
use Rattle.text_output.specs.Joined.{joined, puts-next}
use Rattle.text_fields.specs.Blank.{blank, after-joined}
use Rattle.cli_output.specs.Sizes.{take-lesser}
use Rattle.cli_output.proofs.put_row.Goals as goal

pub loop-z-preserved : goal.loop-z-preserved
loop-z-preserved c =
    let items = take c.min.result c.args.row.now in
    let z = get_or items c.loop-z.z-index (pos 0) in
    let e : to_z w64 (of_z w64 z) ≡ z = to_z-of_z {w = w64} (search rules) in
    let put : Puts (blank signed z) c.loop-z.out c.loop-z.k c.put_field-k.new.out c.put_field-k.result =
    subst (λ z. Puts (blank signed z) c.loop-z.out c.loop-z.k c.put_field-k.new.out c.put_field-k.result) e c.put_field-k.ensures.puts in record {
      puts = puts-next (blank signed) items c.loop-z.z-index (pos 0) c.loop-z-test.true c.loop-z.invariant.puts put;
      room = omega arith;
    }

pub returns-clause-puts : goal.returns-clause-puts
returns-clause-puts c =
    let row = c.args.row.now in
    let all : take c.loop-z.z-index (take c.min.result row) ≡ take c.args.n row =
    take_all c.loop-z.z-index (take c.min.result row) (omega (arith, c.loop-z-test.false)) ∙ ap (λ k. take k row) c.min.ensures ∙ take-lesser c.args.n (length row) row refl in
    subst (λ t. Puts t c.args.out.now c.args.at c.put_byte.new.out c.put_byte.result) (after-joined signed (take c.args.n row))
    (puts_then (subst (λ l. Puts (joined (blank signed) l) c.args.out.now c.args.at c.loop-z.out c.loop-z.k) all c.loop-z.invariant.puts) c.put_byte.ensures)
