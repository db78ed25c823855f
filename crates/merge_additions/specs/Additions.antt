-- What an addition gives, and what is known of the entries before it.
use Rattle.std.specs.Prelude.{◌≡◌, List, [], ◌∷◌, ◌++◌, map, ℕ, length, take, Ok, Err, ⊤}
use Rattle.std.specs.declared.result.Result.{Result}
use Rattle.integers.specs.All.{All}
use Rattle.refusals.specs.declared.Refused.{Refused}
use Rattle.catalogue_rules.specs.Catalogue as definition
use Rattle.catalogue_rules.specs.Catalogue.{new, Outcome, accepted, most_entries}
use Rattle.catalogue_rules.specs.Form.{Entered, EntryIndependent}
use Rattle.catalogue_records.specs.declared.Entry.{Entry}
use Rattle.catalogue_records.specs.Stored.{entry_of}
use Rattle.catalogue_records.specs.EntriesIn.{entry_in, outcome_by}

-- a refusal, or the entries before with the new one
abbrev pub addition_in : List definition.Entry → Result Entry Refused → Outcome
addition_in es r = outcome_by (λ e. accepted (es ++ (entry_in e ∷ []))) r

-- if there is an entry: zeros stand after its coordinates
abbrev pub EntryStored : Result Entry Refused → Type 0
EntryStored (Ok e) = e ≡ entry_of (entry_in e)
EntryStored (Err r) = ⊤

-- entries with these numbers, as accepted additions leave them
pub record Earlier (numbers : List ℕ) (count : ℕ) : Type 0 where
  pub entries : List definition.Entry
  pub entered : Entered entries
  pub new : All (λ e. e.head.form ≡ new) entries
  pub independent : All EntryIndependent entries
  pub counted : count ≡ length entries
  pub long : length numbers ≡ most_entries
  pub numbered : take count numbers ≡ map (λ e. e.head.number) entries
