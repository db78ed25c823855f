-- The first k entries are stored in the form.
use Rattle.std.proofs.Common.{◌≡◌, map, take}
use Rattle.integers.specs.Filled.{filled}
use Rattle.catalogue_rules.specs.Catalogue.{most_entries}
use Rattle.catalogue_records.specs.Stored.{no_entry}
use Rattle.catalogue_moves.specs.Moved.{stored_in}
use Rattle.catalogue_moves.proofs.in_form.Given as goal

abbrev pub invariant-loop-k : goal.invariant-loop-k
invariant-loop-k l = l.c.entries ≡ filled no_entry most_entries (map (stored_in l.form) (take l.k l.entries))
