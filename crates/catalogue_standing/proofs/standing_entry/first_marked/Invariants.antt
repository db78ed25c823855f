-- None of the first j entries has the mark and is of the lattice.
use Rattle.std.proofs.Common.{◌≡◌, false, ℕ, ◌<◌}
use Rattle.catalogue_records.specs.EntriesIn.{entry_in}
use Rattle.catalogue_records.specs.Entries.{entry_at}
use Rattle.catalogue_standing.specs.OneEntry.{marked_of}
use Rattle.catalogue_standing.proofs.standing_entry.first_marked.Given as goal

abbrev pub invariant-loop-j : goal.invariant-loop-j
invariant-loop-j l = (i : ℕ) → i < l.j → marked_of l.draft (entry_in l.e) (entry_in (entry_at l.entries i)) ≡ false
