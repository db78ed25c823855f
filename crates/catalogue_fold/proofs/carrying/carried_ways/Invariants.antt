-- The words of the first k entries are followed.
use Rattle.std.proofs.Common.{map}
use Rattle.catalogue_records.specs.EntriesIn.{entry_in}
use Rattle.catalogue_records.specs.Entries.{beyond}
use Rattle.catalogue_fold.specs.Carrying.{Carrying}
use Rattle.catalogue_fold.proofs.carrying.carried_ways.Given as goal

abbrev pub invariant-loop-k : goal.invariant-loop-k
invariant-loop-k l = Carrying (map entry_in l.entries) (entry_in beyond) l.standing l.k l.ways
