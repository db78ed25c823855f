-- The first k lattices are made.
use Rattle.std.proofs.Common.{◌≡◌, length}
use Rattle.catalogue_rules.specs.Catalogue.{most_entries}
use Rattle.catalogue_standing.specs.ReducedEntries.{HoldReduced}
use Rattle.catalogue_standing.proofs.entry_lattices.lattices_of.Given as goal

abbrev pub invariant-loop-k : goal.invariant-loop-k
invariant-loop-k l = (length l.list ≡ most_entries) × HoldReduced l.entries l.k l.list
