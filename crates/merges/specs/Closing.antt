-- Closing a merge, and the services on a closed one: the catalogue of its entries is that of its file.
use Rattle.std.specs.Prelude.{◌≡◌, List, map, ℕ, ◌≤◌, take}
use Rattle.std.proofs.Math.Path.{sym, ap}
use Rattle.std.proofs.Common.{◌∙◌, subst}
use Rattle.std.proofs.Math.Bool.{true, false}
use Rattle.std.proofs.Math.Option.{Option, none}
use Rattle.integers.specs.First.{first_given}
use Rattle.catalogue_rules.specs.Catalogue.{accepted, most_entries}
use Rattle.catalogue_rules.specs.Read.{lost_at, read}
use Rattle.catalogue_rules.specs.Output.{output, output_by}
use Rattle.catalogue_rules.specs.Form.{WellFormed}
use Rattle.catalogue_records.specs.declared.Catalogue.{Catalogue}
use Rattle.catalogue_records.specs.declared.Entry.{Entry}
use Rattle.catalogue_records.specs.Catalogues.{catalogue_of}
use Rattle.catalogue_records.specs.EntriesIn.{entry_in, entries_in}
use Rattle.catalogue_records.specs.Entries.{entries-back}
use Rattle.catalogue_standing.specs.ReducedEntries.{WasRead, ready}
use Rattle.fold_rules.specs.Fold.{folded}
use Rattle.fold_rules.specs.Services.{listing_text, fold_of, list_of}
use Rattle.fold_rules.proofs.Demand.{accepted-fold}
use Rattle.separation_rules.specs.Separation.{separated_in, separate_of}
use Rattle.merge_rules.specs.Merge as rules
use Rattle.merge_rules.specs.Merge.{file_of, said, refused_at, done, closing, close_of, close}
use Rattle.merge_rules.proofs.Laws.Kept.{closed-formed, closed-file, made-call}
use Rattle.merges.specs.declared.Merge.{Merge}
use Rattle.merges.specs.Stored.{merge_in, shut_of}
use Rattle.merges.specs.IsMerge.{IsMerge}
use Rattle.merges.specs.Entries.{kept}

-- ---- what closing answers

module _ (M : rules.Merge) where
  abbrev given : Option ℕ
  given = first_given (lost_at M.entries) M.entries

  pub closed_already : M.closed ≡ true → said M (refused_at 21 0) ≡ close_of M
  unfolding close_of
  closed_already e = sym (ap (λ b. elim b as (λ b. rules.Said) [ true ↦ said M (refused_at 21 0) | false ↦ closing M given ]) e)

  pub closing_as : M.closed ≡ false → {o : Option ℕ} → given ≡ o → closing M o ≡ close_of M
  unfolding close_of
  closing_as e q = ap (closing M) (sym q) ∙ sym (ap (λ b. elim b as (λ b. rules.Said) [ true ↦ said M (refused_at 21 0) | false ↦ closing M given ]) e)

-- ---- the catalogue of the entries

module _ (s : Merge) (p : IsMerge s) {c : Catalogue} (is : c ≡ catalogue_of (merge_in s).entries) where
  pub few-filed : c.count ≤ most_entries
  few-filed = subst (λ c. c.count ≤ most_entries) (sym is) (kept s p).entered.few

  module _ {l : List Entry} (held : l ≡ take c.count c.entries) where
    filed-back : map entry_in l ≡ (merge_in s).entries
    filed-back = ap (map entry_in) held ∙ ap entries_in is ∙ entries-back (merge_in s).entries (kept s p).entered.few (kept s p).entered.fits

    pub lost-filed : first_given (lost_at (map entry_in l)) (map entry_in l) ≡ first_given (lost_at (merge_in s).entries) (merge_in s).entries
    lost-filed = ap (λ es. first_given (lost_at es) es) filed-back

    module _ (e : s.closed ≡ true) where
      file-read : read (file_of (merge_in s)) ≡ accepted (merge_in s).entries
      file-read = closed-file (kept s p) e

      pub was_read : WasRead l
      was_read = ready l (subst WellFormed (sym filed-back) (closed-formed (kept s p) e))

      pub fold-filed : (out : List ℕ) → output (accepted (folded (map entry_in l))) out ≡ fold_of (file_of (merge_in s)) out
      fold-filed out = ap (λ es. output (accepted (folded es)) out) filed-back ∙ sym (accepted-fold (file_of (merge_in s)) (merge_in s).entries file-read out)

      pub list-filed : (out : List ℕ) → output_by listing_text (accepted (map entry_in l)) out ≡ list_of (file_of (merge_in s)) out
      unfolding list_of
      list-filed out = ap (λ es. output_by listing_text (accepted es) out) filed-back ∙ sym (ap (λ o. output_by listing_text o out) file-read)

      pub separate_filed : (a b : ℕ) → separated_in (accepted (map entry_in l)) a b ≡ separate_of (file_of (merge_in s)) a b
      unfolding separate_of
      separate_filed a b = ap (λ es. separated_in (accepted es) a b) filed-back ∙ sym (ap (λ o. separated_in o a b) file-read)

-- ---- the merge, closed

module _ (s : Merge) (p : IsMerge s) (still : s.closed ≡ false) (none-lost : first_given (lost_at (merge_in s).entries) (merge_in s).entries ≡ none) where
  pub shut_said : said (merge_in (shut_of s)) done ≡ close_of (merge_in s)
  shut_said = closing_as (merge_in s) still none-lost

  pub shut_is : IsMerge (shut_of s)
  shut_is = record {
    made = subst rules.Made (ap (λ r. r.merge) (sym shut_said)) (made-call p.made close);
    few = p.few;
    long = p.long;
    zeros = p.zeros;
    shortest = p.shortest;
    firsts = p.firsts;
  }
