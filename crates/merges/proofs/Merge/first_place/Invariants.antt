-- None of the first j entries is a first entry of the lattice.
use Rattle.std.proofs.Common.{◌≡◌, false, ℕ, ◌<◌}
use Rattle.catalogue_records.specs.EntriesIn.{entry_in}
use Rattle.merges.specs.Growing.{is_first_of}
use Rattle.merges.proofs.Merge.first_place.Given as goal

abbrev pub invariant-loop-j : goal.invariant-loop-j
invariant-loop-j l = (i : ℕ) → i < l.j → is_first_of l.self (entry_in l.e) i ≡ false
