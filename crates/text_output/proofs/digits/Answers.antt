use native.Mathlib.Omega.{arith}
use Rattle.integers.specs.DecimalLaws.{decimal-length}
use Rattle.text_output.specs.Digits.{one_more}
use Rattle.text_output.proofs.digits.Goals as goal

pub overflow_add-count : goal.overflow_add-count
overflow_add-count c =
    let n = c.args.n in
    omega (arith, c.loop-rest.invariant, decimal-length 20 n (omega arith) (omega arith))

pub loop-rest-preserved : goal.loop-rest-preserved
loop-rest-preserved c =
    omega (arith, c.loop-rest.invariant, one_more c.loop-rest.rest (omega arith))
