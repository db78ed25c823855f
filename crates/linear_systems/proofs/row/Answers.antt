use Rattle.linear_systems.specs.Bounds.{read}
use Rattle.linear_systems.proofs.row.Goals as goal

pub real-requires : goal.real-requires
real-requires c = read tt (c.requires.bounded _)

pub real-requires-2 : goal.real-requires-2
real-requires-2 c = read tt (c.requires.bounded _)
