-- The catalogue of the entries of a merge: entry by entry, each at its place.
use Rattle.std.specs.Prelude.{◌≡◌, refl, Bool, true, false, List, [], ◌∷◌, ◌++◌, map, ℕ, ◌+◌, ◌*◌, ◌≤◌, ◌<◌, pos, length, get_or, set, take, Option, Some, None, is_some}
use Rattle.std.proofs.Common.{sym, ap, ap₂, ◌∙◌, mul-le-mul, add-one, take-suc, arith, length-take-le}
use Rattle.std.proofs.lemmas.List.{length-map, map-append}
use mir.Val.{bool_byte}
use Rattle.integers.specs.FilledLaws.{filled_next, map_snoc}
use Rattle.integers.specs.Filled.{filled}
use Rattle.lattices.specs.Refusal.{most_vectors, most_coordinates}
use Rattle.lattices.specs.Laws.Refusal.{one-to}
use Rattle.catalogue_rules.specs.Catalogue as definition
use Rattle.catalogue_rules.specs.Catalogue.{coordinates, most_entries, most_numbers}
use Rattle.catalogue_rules.specs.Form.{EntryFits, see_at, past_see, past_mark, past_draft, entry_at, placed}
use Rattle.catalogue_rules.proofs.Laws.EntriesAccepted.{count-coordinates}
use Rattle.catalogue_rules.proofs.Laws.Placed.{length-placed}
use Rattle.catalogue_rules.proofs.Laws.ReadEntries.{past_entries}
use Rattle.catalogue_records.specs.declared.Entry.{Entry}
use Rattle.catalogue_records.specs.Stored.{no_entry, stored_see, entry_of}
use Rattle.catalogue_records.specs.Catalogues.{stored}
use Rattle.merge_rules.proofs.Laws.Placing.{placed_snoc, past_snoc}
use Rattle.merges.specs.declared.Item.{Item}
use Rattle.merges.specs.Stored.{no_item, vectors_in, word_in, stored_word, item_in, entry_from}
use Rattle.merges.specs.Rows.{see_place_at, after_word, bit-most}

-- ---- an entry at a place

draft-past : (b : Bool) (i : ℕ) → past_draft i b ≡ i + bool_byte b
draft-past true i = omega arith
draft-past false i = omega arith

see-past : (o : Option ℕ) (i : ℕ) → past_see i (word_in 0 o) ≡ i + bool_byte (is_some o)
see-past (Some n) i = omega arith
see-past None i = omega arith

-- a see word at its place
word-filed : (o : Option ℕ) {a b : ℕ} → a ≡ b → stored_word a o ≡ stored_see (see_at b (word_in 0 o))
word-filed (Some n) e = ap (λ p. Some (record { number = n; place = p })) e
word-filed None e = refl

module _ (i : Item) (p : ℕ) (fits : EntryFits (item_in i)) where
  numbers-most : i.vectors.d * i.vectors.m ≤ 32
  numbers-most = omega (arith, mul-le-mul (one-to most_vectors i.vectors.d fits.head.d).1 (one-to most_coordinates i.vectors.m fits.head.m).1)

  pub mark-place : see_place_at p i.vectors.d i.vectors.m i.draft ≡ past_mark p (item_in i)
  mark-place = omega (arith, draft-past i.draft (2 + p + length (coordinates (item_in i).vectors)), count-coordinates (item_in i) fits)

  pub mark-most : see_place_at p i.vectors.d i.vectors.m i.draft ≤ p + 35
  mark-most = omega (arith, numbers-most, bit-most i.draft)

  -- as it is stored of the file
  pub filed : i.vectors.coordinates ≡ filled (pos 0) most_numbers (coordinates (vectors_in i.vectors))
      → entry_from i p (see_place_at p i.vectors.d i.vectors.m i.draft) ≡ entry_of (entry_at p (item_in i))
  filed zeros = (λ j. record {
    form = (entry_from i p p).form;
    number = i.number;
    d = i.vectors.d;
    m = i.vectors.m;
    place = p;
    draft = i.draft;
    see = word-filed i.see mark-place j;
    coordinates = zeros j;
  })

-- ---- entry by entry

pub stored_next : (es : List definition.Entry) (x : definition.Entry) → length es < most_entries → set (stored es) (length es) (entry_of x) ≡ stored (es ++ (x ∷ []))
stored_next es x h =
    ap (λ n. set (stored es) n (entry_of x)) (sym (length-map es entry_of))
    ∙ filled_next no_entry most_entries (map entry_of es) (entry_of x) (omega (arith, length-map es entry_of))
    ∙ ap (filled no_entry most_entries) (map_snoc entry_of es x)

-- the first k entries
abbrev pub items_to : List Item → ℕ → List definition.Entry
items_to l k = map item_in (take k l)

-- what the loop has made of them, and where the next one stands
pub record Filed (l : List Item) (k : ℕ) (entries : List Entry) (place : ℕ) : Type 0 where
  pub are : entries ≡ stored (placed 0 (items_to l k))
  pub next : place ≡ past_entries 0 (items_to l k)
  pub small : place ≤ 37 * k

pub filed-none : (l : List Item) → Filed l 0 (stored []) 0
filed-none l = record { are = refl; next = refl; small = omega arith }

module _ (l : List Item) (k : ℕ) (h : k < length l) (few : length l ≤ most_entries) (fits : EntryFits (item_in (get_or l k no_item)))
    (zeros : (get_or l k no_item).vectors.coordinates ≡ filled (pos 0) most_numbers (coordinates (vectors_in (get_or l k no_item).vectors)))
    {entries : List Entry} {place : ℕ} (f : Filed l k entries place) where
  abbrev i : Item
  i = get_or l k no_item

  abbrev x : definition.Entry
  x = item_in i

  pub small-place : place ≤ 9472
  small-place = omega (arith, f.small)

  pub d-most : i.vectors.d ≤ 4
  d-most = omega (arith, (one-to most_vectors i.vectors.d fits.head.d).1)

  pub m-most : i.vectors.m ≤ 8
  m-most = omega (arith, (one-to most_coordinates i.vectors.m fits.head.m).1)

  pub past-most : see_place_at place i.vectors.d i.vectors.m i.draft ≤ 9600
  past-most = omega (arith, mark-most i place fits, f.small)

  to-next : items_to l (k + 1) ≡ items_to l k ++ (x ∷ [])
  to-next = ap (λ n. items_to l n) (add-one k) ∙ ap (map item_in) (take-suc l k no_item h) ∙ map-append item_in (take k l) (i ∷ [])

  -- entry k is stored, and the next one stands behind it
  pub filed-more : {e : Entry} {past next : ℕ} → past ≡ see_place_at place i.vectors.d i.vectors.m i.draft → e ≡ entry_from i place past → next ≡ after_word past i.see → Filed l (k + 1) (set entries k e) next
  filed-more {e} {past} {next} at is after = record {
    are =
        ap₂ (λ l y. set l k y) f.are (is ∙ ap (entry_from i place) at ∙ filed i place fits zeros ∙ ap (λ p. entry_of (entry_at p x)) f.next)
        ∙ ap (λ n. set (stored es) n (entry_of y)) (sym long)
        ∙ stored_next es y (omega (arith, long))
        ∙ ap stored (sym (placed_snoc 0 (items_to l k) x) ∙ ap (placed 0) (sym to-next));
    next =
        after
        ∙ sym (see-past i.see past)
        ∙ ap (λ p. past_see p x.see) (at ∙ mark-place i place fits ∙ ap (λ p. past_mark p x) f.next)
        ∙ sym (past_snoc 0 (items_to l k) x)
        ∙ ap (past_entries 0) (sym to-next);
    small = omega (arith, after, at, bit-most (is_some i.see), mark-most i place fits, f.small);
  }
    where
      es : List definition.Entry
      es = placed 0 (items_to l k)

      y : definition.Entry
      y = entry_at (past_entries 0 (items_to l k)) x

      long : length es ≡ k
      long = length-placed 0 (items_to l k) ∙ length-map (take k l) item_in ∙ length-take-le k l (omega arith)
