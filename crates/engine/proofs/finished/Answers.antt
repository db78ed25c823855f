-- The tables, each row in its struct.
use Rattle.engine.proofs.finished.Goals as goal

pub returns : goal.returns
returns c = λ k. record {
  refusal = 0;
  place = 0;
  basis = c.packed.ensures k;
  u = c.packed-2.ensures k;
  v = c.packed-3.ensures k;
  squares = c.args.squares;
  passes = c.args.w.now.passes;
}
