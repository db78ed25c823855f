-- The first k entries are stored, each at its place.
use Rattle.std.proofs.Common.{take}
use Rattle.merges.specs.Filed.{Filed}
use Rattle.merges.proofs.Merge.catalogue.Given as goal

abbrev pub invariant-loop-k : goal.invariant-loop-k
invariant-loop-k l = Filed (take l.self.count l.self.items) l.k l.c.entries l.place
