-- `toward` by the sign.
use mathlib.Core.Path.{refl}
use mathlib.Core.Logic.{inl, inr}
use mir.Facts.{to_z-of_z}
use Rattle.integers.specs.Order.{lt_z_true, lt_z_false}
use Rattle.solution_tenths.proofs.toward.Goals as goal

pub returns-then-p-gt0 : goal.returns-then-p-gt0
returns-then-p-gt0 c = record { side = inl (refl, lt_z_true (simp (to_z-of_z, c.ranges.p) at c.if-p-gt0.true)) }

pub returns : goal.returns
returns c = record { side = inr (refl, lt_z_false (simp (to_z-of_z, c.ranges.p) at c.if-p-gt0.false)) }
