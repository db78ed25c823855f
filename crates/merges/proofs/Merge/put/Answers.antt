-- The lattice of the entry, the first of it, then what is kept.
use Rattle.merges.specs.Growing.{coordinates-small}
use Rattle.merges.proofs.Merge.put.Goals as goal

pub item-requires : goal.item-requires
item-requires c = coordinates-small c.requires.readable
