-- What was read, as it is written again: the refusal of reading, or entries that are well formed.
use Rattle.std.specs.Prelude.{◌≡◌, List, ℕ, ◌≤◌, Ok, Err}
use Rattle.std.proofs.Math.Path.{sym}
use Rattle.std.proofs.Common.{ap, arith}
use Rattle.catalogue_rules.specs.Catalogue.{accepted, most_entries}
use Rattle.catalogue_rules.specs.Read.{read}
use Rattle.catalogue_rules.specs.Form.{WellFormed}
use Rattle.catalogue_rules.proofs.Laws.WellFormed.{well_formed}
use Rattle.catalogue_rules.specs.Output.{output}
use Rattle.refusals.specs.declared.Refused.{Refused}
use Rattle.catalogue_records.specs.declared.Catalogue.{Catalogue}
use Rattle.catalogue_records.specs.Catalogues.{IsStored}
use Rattle.catalogue_records.specs.EntriesIn.{entries_in, outcome_in, output_in}

-- nothing is written
pub not_written : (bytes : List ℕ) (r : Refused) → outcome_in (Err r) ≡ read bytes → (out : List ℕ) → output_in (Err r) out ≡ output (read bytes) out
not_written bytes r is out = ap (λ o. output o out) is

module _ (bytes : List ℕ) (c : Catalogue) (is : outcome_in (Ok c) ≡ read bytes) where
  pub formed : WellFormed (entries_in c)
  formed = well_formed bytes (entries_in c) (sym is)

  pub few-read : IsStored c → c.count ≤ most_entries
  few-read s = omega (arith, s.count, formed.entered.few)

  pub read_as : accepted (entries_in c) ≡ read bytes
  read_as = is
