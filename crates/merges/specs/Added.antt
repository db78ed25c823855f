-- Adding to a merge: what was read after its entries, and what is answered.
use Rattle.std.specs.Prelude.{◌≡◌, refl, List, [], ◌∷◌, ◌++◌, map, ℕ, ◌<◌, length, get_or, take, Ok, Err}
use Rattle.std.specs.declared.result.Result.{Result}
use Rattle.std.proofs.Math.Path.{sym, ap}
use Rattle.std.proofs.Common.{◌∙◌, subst, arith, length-append}
use Rattle.std.proofs.Math.Bool.{true, false}
use Rattle.std.proofs.Math.Seq.{get_or-append_seam}
use Rattle.integers.specs.AllLaws.{all_right}
use Rattle.integers.specs.Filled.{filled}
use Rattle.integers.specs.FilledLaws.{length-filled}
use Rattle.catalogue_rules.specs.Catalogue.{Entry, Outcome, most_entries}
use Rattle.catalogue_rules.specs.Form.{EntryFits, EntryIndependent, placed, past_see, past_mark}
use Rattle.catalogue_rules.proofs.Laws.Moves.{WhenAccepted}
use Rattle.refusals.specs.declared.Refused.{Refused}
use Rattle.catalogue_records.specs.declared.Entry as code
use Rattle.catalogue_records.specs.EntriesIn.{entry_in}
use Rattle.catalogue_standing.specs.ReducedEntries.{filled-cut}
use Rattle.merge_rules.specs.Addition.{addition}
use Rattle.merge_rules.specs.Merge as rules
use Rattle.merge_rules.specs.Merge.{said, refused_at, done, added, add_to, add}
use Rattle.merge_rules.proofs.Laws.Adding.{Adds, addition-gives}
use Rattle.merge_rules.proofs.Laws.Kept.{made-call}
use Rattle.merge_additions.specs.Additions.{addition_in, EntryStored, Earlier}
use Rattle.merges.specs.declared.Item.{Item}
use Rattle.merges.specs.declared.Merge.{Merge}
use Rattle.merges.specs.Stored.{item_in, items_in, merge_in, answer_in}
use Rattle.merges.specs.IsMerge.{IsMerge}
use Rattle.merges.specs.Entries.{room, length_taken, kept, length_in}
use Rattle.merges.specs.Growing.{Readable, Grown}
use Rattle.merges.specs.Grown.{grown-merge, grown-is}

-- ---- the entries before

numbers-placed : (i : ℕ) (es : List Entry) → map (λ e. e.head.number) (placed i es) ≡ map (λ e. e.head.number) es
numbers-placed i [] = refl
numbers-placed i (e ∷ es) = ap (λ l. e.head.number ∷ l) (numbers-placed (past_see (past_mark i e) e.see) es)

-- what is kept of them has their numbers
numbers-in : (l : List Item) → map (λ i. i.number) l ≡ map (λ e. e.head.number) (map item_in l)
numbers-in [] = refl
numbers-in (i ∷ l) = ap (λ ns. i.number ∷ ns) (numbers-in l)

module _ (s : Merge) (p : IsMerge s) {numbers : List ℕ} (is : numbers ≡ filled 0 most_entries (map (λ i. i.number) (take s.count s.items))) where
  pub earlier : Earlier numbers s.count
  earlier = record {
    entries = (merge_in s).entries;
    entered = (kept s p).entered;
    new = (kept s p).new;
    independent = (kept s p).independent;
    counted = sym (length_in s p);
    long = ap length is ∙ length-filled 0 most_entries (map (λ i. i.number) (take s.count s.items));
    numbered =
        ap (λ n. take n numbers) (sym (length_taken s (room s p)))
        ∙ filled-cut 0 (λ i. i.number) (take s.count s.items) (omega (arith, length_taken s (room s p), p.few)) is
        ∙ numbers-in (take s.count s.items) ∙ sym (numbers-placed 0 (items_in s));
  }

  -- so what was read is read after them
  pub as_added : (bytes : List ℕ) (r : Result code.Entry Refused) → ((q : Earlier numbers s.count) → addition_in q.entries r ≡ addition q.entries bytes) → addition_in (merge_in s).entries r ≡ addition (merge_in s).entries bytes
  unfolding earlier
  as_added bytes r read = read earlier

-- ---- what adding answers

module _ (M : rules.Merge) (bytes : List ℕ) where
  pub added-closed : M.closed ≡ true → said M (refused_at 21 0) ≡ add_to M bytes
  unfolding add_to
  added-closed e = sym (ap (λ b. elim b as (λ b. rules.Said) [ true ↦ said M (refused_at 21 0) | false ↦ added M (addition M.entries bytes) ]) e)

  pub added_as : M.closed ≡ false → {o : Outcome} → addition M.entries bytes ≡ o → added M o ≡ add_to M bytes
  unfolding add_to
  added_as e q = ap (added M) (sym q) ∙ sym (ap (λ b. elim b as (λ b. rules.Said) [ true ↦ said M (refused_at 21 0) | false ↦ added M (addition M.entries bytes) ]) e)

-- ---- what was read

module _ (s : Merge) (p : IsMerge s) (bytes : List ℕ) where
  abbrev before : List Entry
  before = (merge_in s).entries

  pub refused-said : (r : Refused) → addition_in before (Err r) ≡ addition before bytes → s.closed ≡ false → said (merge_in s) (answer_in (Err r)) ≡ add_to (merge_in s) bytes
  refused-said r is still = added_as (merge_in s) bytes still (sym is)

  module _ (e : code.Entry) (is : addition_in before (Ok e) ≡ addition before bytes) (filled : EntryStored (Ok e)) where
    abbrev all : List Entry
    all = before ++ (entry_in e ∷ [])

    adds : Adds before all
    adds = subst (WhenAccepted (Adds before)) (sym is) (addition-gives before (kept s p).entered bytes)

    pub more : s.count < most_entries
    more = omega (arith, length-append before (entry_in e ∷ []), adds.entered.few, length_in s p)

    -- the new entry is that of the definition
    same : entry_in e ≡ adds.one.entry
    same =
        sym (get_or-append_seam before (entry_in e) [] (entry_in e))
        ∙ ap (λ l. get_or l (length before) (entry_in e)) adds.one.is
        ∙ get_or-append_seam before adds.one.entry [] (entry_in e)

    pub readable : Readable e
    readable = record {
      is = filled;
      sound = record {
        fits = (all_right EntryFits before (entry_in e ∷ []) adds.entered.fits).0;
        independent = (all_right EntryIndependent before (entry_in e ∷ []) adds.independent).0;
      };
      form = ap (λ x. x.head.form) same ∙ adds.one.form;
    }

    module _ (still : s.closed ≡ false) {r : Merge} (g : Grown s e r) where
      merged : merge_in r ≡ record { closed = false; entries = placed 0 all }
      merged =
          ap merge_in g.is
          ∙ grown-merge s p e readable more g.first g.found
          ∙ ap (λ b. record { closed = b; entries = placed 0 all }) still

      pub added-said : said (merge_in r) done ≡ add_to (merge_in s) bytes
      added-said = ap (λ M. said M done) merged ∙ added_as (merge_in s) bytes still (sym is)

      pub added_is : IsMerge r
      added_is =
          let made = subst rules.Made (ap (λ r. r.merge) (sym added-said)) (made-call p.made (add bytes)) in
          subst IsMerge (sym g.is) (grown-is s p e readable more g.first g.found (subst (λ r. rules.Made (merge_in r)) g.is made))
