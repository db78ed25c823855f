-- One row is its own reduction; more go through the turns.
use Rattle.std.proofs.Common.{sym, arith}
use Rattle.greedy_steps.specs.Repeat.{few-rows, outcome}
use Rattle.greedy_steps.proofs.reduce_first.Goals as goal

pub returns-then-n-lt2 : goal.returns-then-n-lt2
returns-then-n-lt2 c = λ p. outcome c.args.g.now c.args.w p.rows p.rows p.tied (sym (few-rows c.args.n c.if-n-lt2.true p.rows).0) (omega (arith, (few-rows c.args.n c.if-n-lt2.true p.rows).1))
