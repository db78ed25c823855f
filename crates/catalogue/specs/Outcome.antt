-- What `fold` hands back: the catalogue's own refusals, or the folded entries as they are written.
use Rattle.std.specs.Prelude.{◌≡◌, List, map, ℕ, ◌≤◌, take, Ok, Err}
use Rattle.std.proofs.Common.{sym, ◌∙◌, subst}
use Rattle.std.proofs.Math.Path.{ap}
use Rattle.catalogue_rules.specs.Catalogue as definition
use Rattle.catalogue_rules.specs.Catalogue.{accepted, most_entries}
use Rattle.catalogue_rules.specs.Read.{read, checked}
use Rattle.catalogue_rules.specs.Form.{WellFormed}
use Rattle.catalogue_rules.specs.Output.{untouched, filled_with, lent_rows, output}
use Rattle.fold_rules.specs.Fold.{closed_list, printed_in, folded}
use Rattle.fold_rules.specs.Services.{folded_outcome, fold_of}
use Rattle.fold_rules.proofs.Laws.FoldedForm.{prints-form, folded-written}
use Rattle.refusals.specs.declared.Refused.{Refused}
use Rattle.catalogue_records.specs.declared.Catalogue.{Catalogue}
use Rattle.catalogue_records.specs.declared.Entry.{Entry}
use Rattle.catalogue_records.specs.EntriesIn.{entry_in, entries_in, outcome_in, output_in}
use Rattle.catalogue_records.specs.Entries.{entries-back}
use Rattle.catalogue_standing.specs.ReducedEntries.{WasRead}
use Rattle.catalogue_fold.specs.Folding.{folded_of}

-- the output asks for no places
written-alike : (es : List definition.Entry) (out : List ℕ) → output (accepted (printed_in (closed_list es))) out ≡ output (accepted (folded es)) out
written-alike es out = ap (λ bytes. checked (λ n. untouched n 0 out) (lent_rows bytes out) (filled_with bytes out)) (sym (folded-written es))

module _ (l : List Entry) (r : WasRead l) where
  abbrev ps : List definition.Entry
  ps = printed_in (closed_list (map entry_in l))

  form : WellFormed ps
  form = prints-form (map entry_in l) r.formed

  back : entries_in (folded_of l) ≡ ps
  back = entries-back ps form.entered.few form.entered.fits

  module _ {f : Catalogue} (is : f ≡ folded_of l) where
    pub few-folded : f.count ≤ most_entries
    few-folded = subst (λ f. f.count ≤ most_entries) (sym is) form.entered.few

    module _ {k : List Entry} (held : k ≡ take f.count f.entries) where
      are : map entry_in k ≡ ps
      are = ap (map entry_in) held ∙ ap entries_in is ∙ back

      pub formed-folded : WellFormed (map entry_in k)
      formed-folded = subst WellFormed (sym are) form

      -- the folded entries as they are written
      pub fold-written : (out : List ℕ) → output (accepted (map entry_in k)) out ≡ output (accepted (folded (map entry_in l))) out
      fold-written out = ap (λ es. output (accepted es) out) are ∙ written-alike (map entry_in l) out

-- of the file that was read
module _ (bytes : List ℕ) where
  pub not-folded : (r : Refused) → outcome_in (Err r) ≡ read bytes → (out : List ℕ) → output_in (Err r) out ≡ fold_of bytes out
  unfolding fold_of
  not-folded r is out = ap (λ o. output (folded_outcome o) out) is

  pub fold_as : (c : Catalogue) → outcome_in (Ok c) ≡ read bytes → {l : List Entry} → l ≡ take c.count c.entries → (out : List ℕ) → output (accepted (folded (map entry_in l))) out ≡ fold_of bytes out
  unfolding fold_of
  fold_as c is e out = ap (λ l. output (accepted (folded (map entry_in l))) out) e ∙ ap (λ o. output (folded_outcome o) out) is
