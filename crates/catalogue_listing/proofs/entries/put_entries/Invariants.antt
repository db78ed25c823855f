-- The first k entries are put.
use Rattle.std.proofs.Common.{map, take}
use Rattle.fold_rules.specs.Fold.{closed_list}
use Rattle.catalogue_records.specs.EntriesIn.{entry_in}
use Rattle.text_output.specs.Puts.{Puts}
use Rattle.text_output.specs.Joined.{joined}
use Rattle.catalogue_listing.specs.Entries.{shown}
use Rattle.catalogue_listing.proofs.entries.put_entries.Given as goal

abbrev pub invariant-loop-k : goal.invariant-loop-k
invariant-loop-k l = Puts (joined (shown (closed_list (map entry_in l.entries))) (take l.k (closed_list (map entry_in l.entries)))) l.initial.out l.at l.out l.n
