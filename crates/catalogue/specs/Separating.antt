-- What `separate` hands back: the catalogue's own refusals, 17, or what separates the two entries that were found.
use Rattle.std.specs.Prelude.{◌≡◌, List, map, ℕ, take, Ok, Err}
use Rattle.std.proofs.Common.{sym, ap, ap₂, ◌∙◌}
use Rattle.std.proofs.Math.Option.{none, some}
use Rattle.catalogue_rules.specs.Catalogue as definition
use Rattle.catalogue_rules.specs.Catalogue.{accepted}
use Rattle.catalogue_rules.specs.Read.{read}
use Rattle.separation_rules.specs.Separation.{refused_at, told, with_number, separated_by, separated_in, separation, separate_of}
use Rattle.separation_rules.proofs.Demand.{either_unknown}
use Rattle.separation_answers.specs.Said.{said_by}
use Rattle.refusals.specs.declared.Refused.{Refused}
use Rattle.catalogue_records.specs.declared.Catalogue.{Catalogue}
use Rattle.catalogue_records.specs.declared.Entry.{Entry}
use Rattle.catalogue_records.specs.EntriesIn.{entry_in, outcome_in}

-- as the service answers
module _ (bytes : List ℕ) (a b : ℕ) where
  pub separate_refused : (r : Refused) → outcome_in (Err r) ≡ read bytes → said_by (Err r) ≡ separate_of bytes a b
  unfolding separate_of
  separate_refused r is = ap (λ o. separated_in o a b) is

  pub separated_as : (c : Catalogue) → outcome_in (Ok c) ≡ read bytes → {l : List Entry} → l ≡ take c.count c.entries → separated_in (accepted (map entry_in l)) a b ≡ separate_of bytes a b
  unfolding separate_of
  separated_as c is e = ap (λ l. separated_in (accepted (map entry_in l)) a b) e ∙ ap (λ o. separated_in o a b) is

-- among the entries of a catalogue
module _ (es : List definition.Entry) (a b : ℕ) where
  pub first-nowhere : with_number a es ≡ none → refused_at 17 0 ≡ separated_in (accepted es) a b
  first-nowhere q = ap (λ o. separated_by o (with_number b es)) (sym q)

  pub second-nowhere : with_number b es ≡ none → refused_at 17 0 ≡ separated_in (accepted es) a b
  second-nowhere q = sym (either_unknown (with_number a es)) ∙ ap (separated_by (with_number a es)) (sym q)

  pub both-there : {f g : definition.Entry} → with_number a es ≡ some f → with_number b es ≡ some g → told (separation f g) ≡ separated_in (accepted es) a b
  both-there p q = ap₂ separated_by (sym p) (sym q)
