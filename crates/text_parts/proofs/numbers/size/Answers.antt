-- One digit more.
use Rattle.std.proofs.Common.{arith}
use Rattle.text_parts.specs.NumberLaws.{value-more-largest}
use Rattle.text_parts.proofs.numbers.size.Goals as goal

pub loop-b-preserved : goal.loop-b-preserved
loop-b-preserved c = omega (arith, value-more-largest c.args.s.now c.loop-b.b-index c.loop-b.n (omega arith) c.loop-b.invariant)
