-- The merge with one entry more is a merge: its entries, and the first of each lattice.
use Rattle.std.specs.Prelude.{◌≡◌, refl, ◌&&◌, List, [], ◌∷◌, ◌++◌, map, ℕ, ◌+◌, ◌≤◌, ◌<◌, eqb, pos, length, get_or, take, Option, Some, None}
use Rattle.std.proofs.Common.{sym, ap, ap₂, ◌∙◌, subst, arith, length-set, get_or-set_same, get_or-set_other}
use Rattle.std.proofs.Math.Option as maybe
use Rattle.std.proofs.Math.Decide.{dec_lt}
use Rattle.std.proofs.lemmas.List.{map-append, map-set, take_more_set}
use Rattle.integers.specs.AllLaws.{get_d_map}
use Rattle.integers.specs.Filled.{filled}
use Rattle.catalogue_rules.specs.Catalogue as definition
use Rattle.catalogue_rules.specs.Catalogue.{coordinates, most_entries, most_numbers}
use Rattle.catalogue_rules.specs.Form.{see_at, past_see, past_mark, head_at, entry_at, placed}
use Rattle.catalogue_rules.proofs.Laws.Placed.{placed-again}
use Rattle.catalogue_rules.proofs.Laws.ReadEntries.{past_entries}
use Rattle.catalogue_records.specs.declared.Entry.{Entry}
use Rattle.catalogue_records.specs.declared.See.{See}
use Rattle.catalogue_records.specs.EntriesIn.{see_in, entry_in}
use Rattle.catalogue_standing.specs.ReducedEntry.{no_reduced, reduced_entry, same_reduced, same-is}
use Rattle.catalogue_standing.specs.Places.{First, first_alike, Firsts, first-like, firsts_more}
use Rattle.merge_rules.specs.Merge.{Made}
use Rattle.merge_rules.proofs.Laws.Placing.{placed_snoc}
use Rattle.merges.specs.declared.Item.{Item}
use Rattle.merges.specs.declared.Merge.{Merge}
use Rattle.merges.specs.Stored.{no_item, vectors_in, word_in, named_in, item_in, item_of, items_in, merge_in}
use Rattle.merges.specs.IsMerge.{shortest_of, item_at, lefts_in, IsMerge}
use Rattle.merges.specs.Entries.{left_by, sound-at, left_at}
use Rattle.merges.specs.Growing.{is_first_of, Readable, with_item}

-- ---- places

past-placed : (i : ℕ) (es : List definition.Entry) → past_entries i (placed i es) ≡ past_entries i es
past-placed i [] = refl
past-placed i (e ∷ es) = ap (λ j. past_entries j (placed (past_see (past_mark i e) e.see) es)) (again e.see) ∙ past-placed (past_see (past_mark i e) e.see) es
  where
    again : (o : maybe.Option definition.See) → past_see (past_mark i e) (see_at (past_mark i e) o) ≡ past_see (past_mark i e) o
    again maybe.none = refl
    again (maybe.some w) = refl

-- an entry with its words at place 0
abbrev unplaced : definition.Entry → definition.Entry
unplaced x = record { head = head_at 0 x.head; vectors = x.vectors; draft = x.draft; see = see_at 0 x.see }

placed_alike : (i : ℕ) (x : definition.Entry) → entry_at i (unplaced x) ≡ entry_at i x
placed_alike i x = ap (λ o. record { head = head_at i x.head; vectors = x.vectors; draft = x.draft; see = o }) (go x.see (past_mark i x))
  where
    go : (o : maybe.Option definition.See) (j : ℕ) → see_at j (see_at 0 o) ≡ see_at j o
    go maybe.none j = refl
    go (maybe.some w) j = refl

-- ---- what is kept of one entry

word-kept : (o : Option See) → word_in 0 (named_in o) ≡ see_at 0 (see_in o)
word-kept (Some w) = refl
word-kept None = refl

-- ---- one entry more

module _ (s : Merge) (p : IsMerge s) (e : Entry) (q : Readable e) (more : s.count < most_entries) (first : ℕ) (found : First (is_first_of s (entry_in e)) s.count first) where
  abbrev n : ℕ
  n = s.count

  abbrev x : definition.Entry
  x = entry_in e

  abbrev new_item : Item
  new_item = item_of e (shortest_of (reduced_entry (entry_in e))) first

  abbrev t : Merge
  t = with_item s e (shortest_of (reduced_entry (entry_in e))) first

  item-kept : item_in new_item ≡ unplaced x
  item-kept = (λ i. record {
    head = record { form = sym q.form i; number = e.number; d = e.d; m = e.m; place = 0 };
    vectors = x.vectors;
    draft = e.draft;
    see = word-kept e.see i;
  })

  inside : n < length s.items
  inside = omega (arith, p.long)

  long : length t.items ≡ most_entries
  long = length-set s.items n new_item ∙ p.long

  room-after : t.count ≤ length t.items
  room-after = omega (arith, long)

  item-old : (k : ℕ) → k < n → item_at t k ≡ item_at s k
  item-old k h = get_or-set_other s.items n k new_item no_item (λ (same : k ≡ n). absurd (omega arith))

  item-new : item_at t n ≡ new_item
  item-new = get_or-set_same s.items n new_item no_item inside

  items_new : items_in t ≡ items_in s ++ (unplaced x ∷ [])
  items_new =
      ap (map item_in) (take_more_set s.items n new_item inside)
      ∙ map-append item_in (take n s.items) (new_item ∷ [])
      ∙ ap (λ y. items_in s ++ (y ∷ [])) item-kept

  pub grown-merge : merge_in t ≡ record { closed = s.closed; entries = placed 0 ((merge_in s).entries ++ (entry_in e ∷ [])) }
  grown-merge =
      let items = items_in s in
      ap (λ l. record { closed = s.closed; entries = l })
      (ap (placed 0) items_new
      ∙ placed_snoc 0 items (unplaced x)
      ∙ ap₂ (λ l y. l ++ (y ∷ [])) (sym (placed-again 0 items)) (placed_alike (past_entries 0 items) x ∙ ap (λ i. entry_at i x) (sym (past-placed 0 items)))
      ∙ sym (placed_snoc 0 (placed 0 items) x))

  -- below n or n itself
  each : (P : ℕ → Type 0) → ((k : ℕ) → k < n → P k) → P n → (k : ℕ) → k < n + 1 → P k
  each P old here k h = go (dec_lt k n)
    where
      go : Dec (k < n) → P k
      go (yes l) = old k l
      go (no m) = let e : k ≡ n = omega arith in subst P (sym e) here

  zeros : (k : ℕ) → k < n + 1 → (item_at t k).vectors.coordinates ≡ filled (pos 0) most_numbers (coordinates (vectors_in (item_at t k).vectors))
  zeros = each (λ k. (item_at t k).vectors.coordinates ≡ filled (pos 0) most_numbers (coordinates (vectors_in (item_at t k).vectors)))
      (λ k h. subst (λ (i : Item). i.vectors.coordinates ≡ filled (pos 0) most_numbers (coordinates (vectors_in i.vectors))) (sym (item-old k h)) (p.zeros k h))
      (subst (λ (i : Item). i.vectors.coordinates ≡ filled (pos 0) most_numbers (coordinates (vectors_in i.vectors))) (sym item-new) (ap (λ e. e.coordinates) q.is))

  shortest : (k : ℕ) → k < n + 1 → (item_at t k).shortest ≡ shortest_of (reduced_entry (item_in (item_at t k)))
  shortest = each (λ k. (item_at t k).shortest ≡ shortest_of (reduced_entry (item_in (item_at t k))))
      (λ k h. subst (λ (i : Item). i.shortest ≡ shortest_of (reduced_entry (item_in i))) (sym (item-old k h)) (p.shortest k h))
      (subst (λ (i : Item). i.shortest ≡ shortest_of (reduced_entry (item_in i))) (sym item-new) (ap (λ y. shortest_of (reduced_entry y)) (sym item-kept)))

  -- ---- the first of each lattice

  abbrev places : List ℕ
  places = map (λ i. i.first) s.items

  left-old : (k : ℕ) → k < n → get_or (lefts_in t) k no_reduced ≡ get_or (lefts_in s) k no_reduced
  left-old k h = left_by t room-after k (omega arith) ∙ ap (λ i. reduced_entry (item_in i)) (item-old k h) ∙ sym (left_at s p k h)

  left-new : get_or (lefts_in t) n no_reduced ≡ reduced_entry x
  left-new = left_by t room-after n (omega arith) ∙ ap (λ i. reduced_entry (item_in i)) item-new ∙ ap reduced_entry item-kept

  firsts-before : Firsts (lefts_in t) n places
  firsts-before = record {
    long = p.firsts.long;
    first = λ k h. first-like (λ j l. ap₂ (λ a b. eqb (get_or places j 0) j && same_reduced a b) (sym (left-old j (omega arith))) (sym (left-old k h))) (p.firsts.first k h);
  }

  found_alike : First (first_alike (lefts_in t) places n) n first
  found_alike = first-like (λ j h. ap₂ (λ f b. eqb f j && b)
      (sym (get_d_map (λ i. i.first) s.items no_item 0 j (omega (arith, inside))))
      (sym (same-is (item_in (item_at s j)) x (sound-at s p j h) q.sound) ∙ ap₂ same_reduced (sym (left_at s p j h) ∙ sym (left-old j h)) (sym left-new))) found

  -- made by calls, as the one that it was
  pub grown-is : Made (merge_in t) → IsMerge t
  grown-is made = record {
    made = made;
    few = omega arith;
    long = long;
    zeros = zeros;
    shortest = shortest;
    firsts = subst (Firsts (lefts_in t) (n + 1)) (sym (map-set (λ i. i.first) s.items n new_item)) (firsts_more firsts-before more found_alike);
  }
