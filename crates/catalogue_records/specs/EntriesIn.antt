-- What is stored, told in the terms of the definition.
use Rattle.std.specs.Prelude.{List, map, ℕ, ◌*◌, take, Option, Some, None, Ok, Err}
use Rattle.std.specs.declared.result.Result.{Result}
use Rattle.std.proofs.Math.Option as maybe
use Rattle.lattices.specs.Refusal.{vectors_of}
use Rattle.catalogue_rules.specs.Catalogue as definition
use Rattle.catalogue_rules.specs.Catalogue.{old, new, Outcome, refused, accepted}
use Rattle.catalogue_rules.specs.Output.{Output}
use Rattle.refusals.specs.declared.Refused.{Refused}
use Rattle.refusals.specs.Number.{number_of}
use Rattle.catalogue_records.specs.declared.Form.{Form}
use Rattle.catalogue_records.specs.declared.Form.TheVariants.{Old, New}
use Rattle.catalogue_records.specs.declared.See.{See}
use Rattle.catalogue_records.specs.declared.Entry.{Entry}
use Rattle.catalogue_records.specs.declared.Catalogue.{Catalogue}

abbrev pub form_in : Form → definition.Form
form_in Old = old
form_in New = new

-- an answer that may be missing
abbrev pub option_in : {A : Type 0} → Option A → maybe.Option A
option_in None = maybe.none
option_in (Some a) = maybe.some a

abbrev pub see_in : Option See → maybe.Option definition.See
see_in (Some s) = maybe.some (record { number = s.number; place = s.place })
see_in None = maybe.none

abbrev pub entry_in : Entry → definition.Entry
entry_in e = record {
  head = record { form = form_in e.form; number = e.number; d = e.d; m = e.m; place = e.place };
  vectors = vectors_of e.d e.m (take (e.d * e.m) e.coordinates);
  draft = e.draft;
  see = see_in e.see;
}

-- the entries of a catalogue
abbrev pub entries_in : Catalogue → List definition.Entry
entries_in c = map entry_in (take c.count c.entries)

-- an outcome of reading: a refusal, or what is told of the rest
abbrev pub outcome_by : {A : Type 0} → (A → Outcome) → Result A Refused → Outcome
outcome_by told (Ok a) = told a
outcome_by told (Err r) = refused (number_of r.refusal) r.place

-- what reading gave
abbrev pub outcome_in : Result Catalogue Refused → Outcome
outcome_in r = outcome_by (λ c. accepted (entries_in c)) r

-- what a writing gave, with the output afterwards
abbrev pub output_in : Result ℕ Refused → List ℕ → Output
output_in (Ok n) lent = record { refusal = 0; place = 0; written = n; lent = lent }
output_in (Err r) lent = record { refusal = number_of r.refusal; place = r.place; written = 0; lent = lent }
