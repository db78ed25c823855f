-- `last_digits`: what is left by a division is less than the divisor.
use native.Mathlib.Nat.{mod-lt}
use Rattle.linear_systems.specs.Bounds.{at_least}
use Rattle.linear_systems.proofs.last_digits.Goals as goal

pub float_to_bits-result : goal.float_to_bits-result
float_to_bits-result c = at_least _ _ c.if-t.true

pub returns-then-t : goal.returns-then-t
returns-then-t c = mod-lt _ c.requires
