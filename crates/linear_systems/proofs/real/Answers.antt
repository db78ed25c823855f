-- `real` converts what is small.
use mir.Facts.{to_z-of_z}
use Rattle.integers.specs.Size.{fits-within}
use Rattle.linear_systems.proofs.real.Goals as goal

pub overflow_cast-result : goal.overflow_cast-result
overflow_cast-result c = simp (to_z-of_z, c.ranges.n) (fits-within c.requires tt)
