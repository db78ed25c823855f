use native.Mathlib.Omega.{arith}
use Rattle.text_output.specs.Digits.{left-more, left-next}
use Rattle.text_output.proofs.put_digits.Goals as goal

pub overflow_sub-at-in-loop-rest : goal.overflow_sub-at-in-loop-rest
overflow_sub-at-in-loop-rest c = left-more c.loop-rest.invariant (omega arith)

pub loop-rest-preserved : goal.loop-rest-preserved
loop-rest-preserved c = left-next c.loop-rest.invariant (omega arith)
