-- Laws of fold, separation and listing of the bytes of a file, as they had landed, before each had a step for a catalogue that was read. Nothing cites
-- them.
use Rattle.std.specs.Prelude.{◌≡◌, List, ℕ, ◌≤◌, length, take, Ok}
use Rattle.std.proofs.Common.{sym, ap₂, ◌∙◌}
use Rattle.std.proofs.Math.Path.{ap}
use Rattle.std.proofs.Math.Option.{none, some}
use Rattle.catalogue_rules.specs.Catalogue as definition
use Rattle.catalogue_rules.specs.Catalogue.{accepted}
use Rattle.catalogue_rules.specs.Read.{read, checked}
use Rattle.catalogue_rules.specs.Form.{WellFormed}
use Rattle.catalogue_rules.specs.Output.{untouched, filled_with, lent_rows, output}
use Rattle.catalogue_rules.proofs.Laws.TextSize.{most_text}
use Rattle.fold_rules.specs.Fold.{closed_list, printed_in, folded}
use Rattle.fold_rules.specs.Services.{folded_outcome, fold_of, listing_text}
use Rattle.fold_rules.proofs.Laws.FoldedForm.{prints-form, folded-written}
use Rattle.fold_rules.proofs.Laws.ListingSize.{listing_size}
use Rattle.separation_rules.specs.Separation.{refused_at, told, with_number, separated_by, separated_in, separation, separate_of}
use Rattle.separation_rules.proofs.Demand.{either_unknown}
use Rattle.catalogue_records.specs.declared.Catalogue.{Catalogue}
use Rattle.catalogue_records.specs.EntriesIn.{entries_in, outcome_in}
use Rattle.catalogue_records.specs.Entries.{entries-back}
use Rattle.catalogue_records.specs.Again.{read_as}
use Rattle.catalogue_standing.specs.ReducedEntries.{WasRead}
use Rattle.catalogue_fold.specs.Folding.{folded_of}

-- the output asks for no places
written-alike : (es : List definition.Entry) (out : List ℕ) → output (accepted (printed_in (closed_list es))) out ≡ output (accepted (folded es)) out
written-alike es out = ap (λ bytes. checked (λ n. untouched n 0 out) (lent_rows bytes out) (filled_with bytes out)) (sym (folded-written es))

module _ (c : Catalogue) (r : WasRead (take c.count c.entries)) where
  abbrev ps : List definition.Entry
  ps = printed_in (closed_list (entries_in c))

  form : WellFormed ps
  form = prints-form (entries_in c) r.formed

  back : entries_in (folded_of (take c.count c.entries)) ≡ ps
  back = entries-back ps form.entered.few form.entered.fits

  module _ {f : Catalogue} (is : f ≡ folded_of (take c.count c.entries)) where
    pub fold-written : (bytes : List ℕ) → outcome_in (Ok c) ≡ read bytes → (out : List ℕ) → output (accepted (entries_in f)) out ≡ fold_of bytes out
    unfolding fold_of
    fold-written bytes was out =
        ap (λ es. output (accepted es) out) (ap entries_in is ∙ back) ∙ written-alike (entries_in c) out ∙ ap (λ o. output (folded_outcome o) out) (read_as bytes c was)

module _ (bytes : List ℕ) (c : Catalogue) (is : outcome_in (Ok c) ≡ read bytes) (a b : ℕ) where
  separated_as : separated_by (with_number a (entries_in c)) (with_number b (entries_in c)) ≡ separate_of bytes a b
  unfolding separate_of
  separated_as = ap (λ o. separated_in o a b) (read_as bytes c is)

  pub first-nowhere : with_number a (entries_in c) ≡ none → refused_at 17 0 ≡ separate_of bytes a b
  first-nowhere q = ap (λ o. separated_by o (with_number b (entries_in c))) (sym q) ∙ separated_as

  pub second-nowhere : with_number b (entries_in c) ≡ none → refused_at 17 0 ≡ separate_of bytes a b
  second-nowhere q = sym (either_unknown (with_number a (entries_in c))) ∙ ap (separated_by (with_number a (entries_in c))) (sym q) ∙ separated_as

  pub both-there : {f g : definition.Entry} → with_number a (entries_in c) ≡ some f → with_number b (entries_in c) ≡ some g → told (separation f g) ≡ separate_of bytes a b
  both-there p q = ap₂ separated_by (sym p) (sym q) ∙ separated_as

module _ (file : List ℕ) (c : Catalogue) (is : outcome_in (Ok c) ≡ read file) where
  pub text-small : length (listing_text (entries_in c)) ≤ most_text
  text-small = listing_size file (entries_in c) (sym (read_as file c is))
