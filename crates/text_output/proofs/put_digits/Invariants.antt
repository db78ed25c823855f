-- The digits that are left, put over what stands there now, give the whole number over what stood there.
use Rattle.text_output.specs.Digits.{Left}
use Rattle.text_output.proofs.put_digits.Given as goal

abbrev pub invariant-loop-rest : goal.invariant-loop-rest
invariant-loop-rest l = Left l.initial.out l.end l.n l.out l.at l.rest

abbrev pub decreases-loop-rest : goal.decreases-loop-rest
decreases-loop-rest l = l.rest
