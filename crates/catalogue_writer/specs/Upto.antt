-- The words of the first k entries, as loops over the entries count and write them.
use Rattle.std.specs.Prelude.{◌≡◌, List, ◌++◌, map, ℕ, ◌+◌, ◌≤◌, ◌<◌, length, take, drop}
use Rattle.std.proofs.Common.{sym, ap, ◌∙◌, add-one, arith, length-append, take-append-drop, take-suc, take_all}
use Rattle.integers.specs.All.{All}
use Rattle.catalogue_rules.specs.Word.{Word}
use Rattle.catalogue_rules.specs.Write.{entry_words, entries_words}
use Rattle.catalogue_rules.specs.Form.{EntryFits}
use Rattle.catalogue_rules.proofs.Laws.RoundTrip.{entries-append, entries_snoc}
use Rattle.catalogue_rules.proofs.Laws.WrittenSize as sizes
use Rattle.catalogue_records.specs.declared.Entry as stored
use Rattle.catalogue_records.specs.EntriesIn.{entry_in}
use Rattle.catalogue_records.specs.Entries.{entry_at, beyond, length-entries, inside, at_place}
use Rattle.catalogue_rules.specs.Catalogue.{new, most_entries, most_words}

abbrev pub up_to : List stored.Entry → ℕ → List Word
up_to l k = entries_words (take k (map entry_in l))

module _ (l : List stored.Entry) where
  pub up-to-most : (k : ℕ) → length (up_to l k) ≤ length (entries_words (map entry_in l))
  up-to-most k =
      let es = map entry_in l in
      omega (arith, ap (λ l. length (entries_words l)) (take-append-drop k es), ap length (entries-append (take k es) (drop k es)), length-append (up_to l k) (entries_words (drop k es)))

  module _ (k : ℕ) (here : k < length l) where
    pub up-to-next : up_to l k ++ entry_words (entry_in (entry_at l k)) ≡ up_to l (k + 1)
    up-to-next =
        let es = map entry_in l in
        ap (λ e. up_to l k ++ entry_words e) (sym (at_place l k here))
        ∙ sym (entries_snoc (take k es) _)
        ∙ ap entries_words (sym (take-suc es k (entry_in beyond) (inside l k here)) ∙ ap (λ n. take n es) (sym (add-one k)))

    pub length-next : length (up_to l k) + length (entry_words (entry_in (entry_at l k))) ≡ length (up_to l (k + 1))
    length-next = sym (length-append (up_to l k) (entry_words (entry_in (entry_at l k)))) ∙ ap length up-to-next

  pub up-to-all : (k : ℕ) → length l ≤ k → up_to l k ≡ entries_words (map entry_in l)
  up-to-all k h = ap entries_words (take_all k (map entry_in l) (omega (arith, length-entries l)))

  pub few_words : length l ≤ most_entries → All EntryFits (map entry_in l) → length (entries_words (map entry_in l)) < most_words new
  few_words few p = omega (arith, sizes.length-any (map entry_in l) p, length-entries l)
