-- What the first k entries give is stored.
use Rattle.std.proofs.Common.{map}
use Rattle.catalogue_records.specs.EntriesIn.{entry_in}
use Rattle.catalogue_fold.specs.Folding.{Folds}
use Rattle.catalogue_fold.proofs.folded.Given as goal

abbrev pub invariant-loop-k : goal.invariant-loop-k
invariant-loop-k l = Folds (map entry_in l.entries) l.k l.folded.count l.folded.entries
