-- The catalogue as the code hands it out.
use Rattle.std.specs.Prelude.{◌≡◌, List, map, ℕ, length, replicate, Ok, Err, ⊤}
use Rattle.std.specs.declared.result.Result.{Result}
use Rattle.catalogue_rules.specs.Catalogue as definition
use Rattle.catalogue_rules.specs.Catalogue.{most_entries}
use Rattle.refusals.specs.declared.Refused.{Refused}
use Rattle.catalogue_records.specs.declared.Catalogue.{Catalogue}
use Rattle.catalogue_records.specs.declared.Entry.{Entry}
use Rattle.integers.specs.Filled.{filled}
use Rattle.catalogue_records.specs.Stored.{no_entry, entry_of}
use Rattle.catalogue_records.specs.EntriesIn.{entries_in}

-- no entry
abbrev pub no_catalogue : Catalogue
no_catalogue = record { count = 0; entries = replicate most_entries no_entry }

-- the array of some entries: the empty one after them
abbrev pub stored : List definition.Entry → List Entry
stored es = filled no_entry most_entries (map entry_of es)

abbrev pub holding : ℕ → List Entry → Catalogue
holding count entries = record { count = count; entries = entries }

abbrev pub catalogue_of : List definition.Entry → Catalogue
catalogue_of es = holding (length es) (stored es)

-- its entries, as many as it counts, and empty ones after them
pub record IsStored (c : Catalogue) : Type 0 where
  pub count : c.count ≡ length (entries_in c)
  pub entries : c.entries ≡ stored (entries_in c)

-- if there is a catalogue
abbrev pub StoredIn : Result Catalogue Refused → Type 0
StoredIn (Ok c) = IsStored c
StoredIn (Err r) = ⊤
