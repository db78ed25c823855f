use Rattle.std.proofs.Common.{subst, arith, take}
use Rattle.text_output.specs.Puts.{Puts}
use Rattle.text_output.specs.Joined.{puts-next}
use Rattle.cli_output.specs.Rows.{row_line}
use Rattle.cli_output.proofs.put_lines.Goals as goal

pub loop-row-preserved : goal.loop-row-preserved
loop-row-preserved g c =
    let row_text = row_line c.args.letter c.args.n in record {
      puts = puts-next row_text (take c.min.result c.args.rows.now) c.loop-row.row-index c.row-item.result c.loop-row-test.true c.loop-row.invariant.puts
          (subst (λ row. Puts (row_text row) c.loop-row.out c.loop-row.k c.put_line-k.new.out c.put_line-k.result) c.row-item.is c.put_line-k.ensures.puts);
      room = omega arith;
    }
