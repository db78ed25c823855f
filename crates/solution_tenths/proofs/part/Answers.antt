-- `part` rounds, or is 0.
use mathlib.Core.Path.{refl}
use native.Mathlib.Omega.{arith}
use Rattle.integers.specs.Size.{within-le}
use Rattle.solution_tenths.specs.Rounding.{back}
use Rattle.solution_tenths.proofs.part.Goals as goal

pub real-requires : goal.real-requires
real-requires c = within-le (omega arith) (back tt c.requires)

pub returns-then-i-d : goal.returns-then-i-d
returns-then-i-d c = let h = back tt c.rounded_wide.ensures in record {
  within = h;
  value = λ l. absurd (omega (arith, l, c.if-i-d.true));
}

pub returns : goal.returns
returns c = record {
  within = record { within = omega arith };
  value = λ _. refl;
}
