-- What is found in a merge: what is kept beside its entries gives the standing entries of the definition, see words left aside.
use Rattle.std.specs.Prelude.{◌≡◌, Bool, ◌||◌, List, [], ◌∷◌, map, ℕ, ◌≤◌, ◌<◌, eqb, length, get_or, take, position, Option, Some, None, Ok}
use Rattle.std.proofs.Math.Path.{refl, sym, ap}
use Rattle.std.proofs.Common.{ap₂, ◌∙◌, subst, arith, eqb-true}
use Rattle.std.proofs.Math.Bool.{true, false}
use Rattle.std.proofs.Math.Option as maybe
use Rattle.std.proofs.Math.Decide.{dec_lt}
use Rattle.std.proofs.lemmas.List.{length-map}
use Rattle.integers.specs.Tests.{both}
use Rattle.integers.specs.Every.{any}
use Rattle.integers.specs.AllLaws.{get_d_map}
use Rattle.catalogue_rules.specs.Catalogue.{Entry}
use Rattle.catalogue_rules.specs.Form.{WellFormed, see_at, past_see, past_mark, entry_at, placed}
use Rattle.fold_rules.specs.Fold.{closed_list, lookup}
use Rattle.fold_rules.specs.Services.{looked_up, lookup_of}
use Rattle.fold_rules.proofs.Demand.{accepted-lookup}
use Rattle.catalogue_standing.specs.ReducedEntry.{reduced_entry}
use Rattle.catalogue_standing.specs.Places.{First, FirstFound, found-like, position_found, Firsts}
use Rattle.catalogue_standing.specs.FirstPlaces.{FirstPlaces, Held, first-places}
use Rattle.catalogue_standing.specs.Numbers.{Numbers}
use Rattle.catalogue_standing.specs.Standing.{StandsAt, shared}
use Rattle.catalogue_standing.specs.Standers.{Marks, Stander}
use Rattle.catalogue_standing.specs.Looking.{lookup_first, lookup-lost}
use Rattle.merge_rules.specs.Merge as rules
use Rattle.merge_rules.specs.Merge.{without_see, named_by, missing, looked_open, finally, file_of, look_in}
use Rattle.merge_rules.proofs.Laws.Aside.{formed-aside, lookup-aside}
use Rattle.merge_rules.proofs.Laws.Kept.{closed-file}
use Rattle.merges.specs.declared.Item.{Item}
use Rattle.merges.specs.declared.Merge.{Merge}
use Rattle.merges.specs.Stored.{no_item, word_in, item_in, merge_in, answer_in}
use Rattle.merges.specs.IsMerge.{item_at, lefts_in, IsMerge}
use Rattle.merges.specs.Entries.{room, length_taken, taken_at, kept, length_in, in_file, left_at}
use Rattle.merges.specs.Looking.{names, missing_as, found_as}

-- ---- see words

named-word : (n q : ℕ) (o : Option ℕ) → named_by n (see_at q (word_in 0 o)) ≡ names n o
named-word n q (Some m) = refl
named-word n q None = refl

named-placed : (n i : ℕ) (l : List Item) → any (λ e. named_by n e.see) (placed i (map item_in l)) ≡ any (λ x. names n x.see) l
named-placed n i [] = refl
named-placed n i (x ∷ l) =
    ap₂ ◌||◌ (named-word n (past_mark i (item_in x)) x.see) (named-placed n (past_see (past_mark i (item_in x)) (item_in x).see) l)

module _ (s : Merge) (p : IsMerge s) where
  abbrev M : rules.Merge
  M = merge_in s

  abbrev l : List Item
  l = take s.count s.items

  -- the entries without see words
  abbrev es : List Entry
  es = map without_see M.entries

  abbrev o : Entry
  o = item_in no_item

  formed : WellFormed es
  formed = formed-aside M.entries (kept s p).entered (kept s p).independent

  many : length l ≡ s.count
  many = length_taken s (room s p)

  long : length es ≡ s.count
  long = length-map M.entries without_see ∙ length_in s p

  at-is : (k : ℕ) (h : k < s.count) → get_or es k o ≡ without_see (entry_at (in_file s p o k h).place (item_in (item_at s k)))
  at-is k h = get_d_map without_see M.entries o o k (omega (arith, length_in s p)) ∙ ap without_see (in_file s p o k h).is

  numbers : Numbers es o (map (λ i. i.number) l)
  numbers = record { number = λ k h. taken_at s (room s p) (λ i. i.number) 0 k (omega (arith, long)) ∙ sym (ap (λ e. e.head.number) (at-is k (omega (arith, long)))) }

  marks : Marks es o (map (λ i. i.draft) l)
  marks = record { mark = λ k h. taken_at s (room s p) (λ i. i.draft) false k (omega (arith, long)) ∙ sym (ap (λ e. e.draft) (at-is k (omega (arith, long)))) }

  held : Held es o (lefts_in s) (map (λ i. i.first) s.items)
  held = record {
    kept = λ k h. left_at s p k (omega (arith, long)) ∙ sym (ap reduced_entry (at-is k (omega (arith, long))));
    firsts = subst (λ n. Firsts (lefts_in s) n (map (λ i. i.first) s.items)) (sym long) p.firsts;
  }

  all-places : FirstPlaces es o (map (λ i. i.first) s.items)
  all-places = first-places es o formed held

  -- the place of the first of its lattice
  first-is : (k : ℕ) → k < s.count → get_or (map (λ i. i.first) s.items) k 0 ≡ get_or (map (λ i. i.first) l) k 0
  first-is k h = get_d_map (λ i. i.first) s.items no_item 0 k (omega (arith, room s p)) ∙ sym (taken_at s (room s p) (λ i. i.first) 0 k h)

  places : FirstPlaces es o (map (λ i. i.first) l)
  places = record {
    below = λ k h. omega (arith, first-is k (omega (arith, long)), all-places.below k h);
    at = λ k h. ap (λ i. get_or es i o) (sym (first-is k (omega (arith, long)))) ∙ all-places.at k h;
  }

  -- ---- the first of a lattice

  pub first_below : (k : ℕ) → k < length l → get_or (map (λ i. i.first) l) k 0 ≤ k
  first_below k h = omega (arith, many, first-is k (omega (arith, many)), (p.firsts.first k (omega (arith, many))).within)

  pub first-own : (k : ℕ) → k < length l → get_or (map (λ i. i.first) l) (get_or l k no_item).first 0 ≡ (get_or l k no_item).first
  first-own k h =
      let at : get_or (map (λ i. i.first) l) k 0 ≡ (get_or l k no_item).first = get_d_map (λ i. i.first) l no_item 0 k h in
      subst (λ f. get_or (map (λ i. i.first) l) f 0 ≡ f) at
      (subst (λ f. get_or (map (λ i. i.first) l) f 0 ≡ f) (first-is k (omega (arith, many)))
      (sym (first-is (place k) (omega (arith, many, first_below k h, first-is k (omega (arith, many))))) ∙ own (dec_lt (place k) k)))
    where
      place : ℕ → ℕ
      place k = get_or (map (λ i. i.first) s.items) k 0

      own : Dec (get_or (map (λ i. i.first) s.items) k 0 < k) → get_or (map (λ i. i.first) s.items) (get_or (map (λ i. i.first) s.items) k 0) 0 ≡ get_or (map (λ i. i.first) s.items) k 0
      own (yes m) = eqb-true _ _ (both _ _ ((p.firsts.first k (omega (arith, many))).here m)).0
      own (no m) = let e : get_or (map (λ i. i.first) s.items) k 0 ≡ k = omega (arith, (p.firsts.first k (omega (arith, many))).within) in ap (λ i. get_or (map (λ i. i.first) s.items) i 0) e

  -- ---- answers

  -- as the library's search finds them
  pub found_by : (n : ℕ) (r : Option ℕ) → r ≡ position (λ i. eqb i.number n) (take s.count s.items)
      → FirstFound (λ k. eqb (get_or (map (λ i. i.number) (take s.count s.items)) k 0) n) (length (map (λ i. i.number) (take s.count s.items))) r
  found_by n r sought =
      subst (λ m. FirstFound (λ k. eqb (get_or (map (λ i. i.number) l) k 0) n) m r) (sym (length-map l (λ i. i.number)))
      (found-like (λ k h. ap (λ m. eqb m n) (sym (get_d_map (λ i. i.number) l no_item 0 k h))) r
      (subst (FirstFound (λ k. eqb (get_or l k no_item).number n) (length l)) (sym sought) (position_found (λ i. eqb i.number n) l no_item)))

  counted : (n : ℕ) {k : ℕ} → First (λ k. eqb (get_or (map (λ i. i.number) l) k 0) n) (length (map (λ i. i.number) l)) k → First (λ k. eqb (get_or (map (λ i. i.number) l) k 0) n) (length es) k
  counted n {k} = subst (λ m. First (λ k. eqb (get_or (map (λ i. i.number) l) k 0) n) m k) (length-map l (λ i. i.number) ∙ many ∙ sym long)

  module _ (n : ℕ) where
    -- an entry has the number
    module _ {k : ℕ} (first : FirstFound (λ k. eqb (get_or (map (λ i. i.number) (take s.count s.items)) k 0) n) (length (map (λ i. i.number) (take s.count s.items))) (Some k)) where
      pub place-within : k < length l
      place-within = omega (arith, first.1, length-map l (λ i. i.number))

      module _ {r : ℕ} (q : Stander (map (λ i. i.first) (take s.count s.items)) (map (λ i. i.draft) (take s.count s.items)) (length (take s.count s.items)) (get_or (take s.count s.items) k no_item).first r) where
        stood : StandsAt es o k r
        stood =
            let at : get_or (map (λ i. i.first) l) k 0 ≡ (get_or l k no_item).first = get_d_map (λ i. i.first) l no_item 0 k place-within in
            shared es o formed places k r (omega (arith, long, many, place-within)) (subst (λ f. StandsAt es o f r) (sym at) (q.stands es o formed places marks (long ∙ sym many)))

        pub standing-within : r < length l
        standing-within = omega (arith, long, many, stood.within)

        found : lookup (closed_list es) n ≡ maybe.some (get_or l r no_item).number
        found =
            lookup_first es o formed numbers n (counted n first.0) (omega (arith, long, many, place-within)) stood
            ∙ ap (λ i. maybe.some i) (get_d_map (λ i. i.number) l no_item 0 r standing-within)

        pub found-answer : answer_in (Ok (found_as s.closed (get_or (take s.count s.items) r no_item).number)) ≡ look_in M n
        unfolding look_in
        found-answer = go s.closed refl
          where
            go : (b : Bool) → s.closed ≡ b → answer_in (Ok (found_as b (get_or l r no_item).number)) ≡ elim b as (λ b. rules.Answer) [ true ↦ finally (lookup_of (file_of M) n) | false ↦ looked_open M.entries n ]
            go true e = sym (ap finally (accepted-lookup (file_of M) M.entries (closed-file (kept s p) e) n ∙ ap looked_up (sym (lookup-aside M.entries n) ∙ found)))
            go false e = sym (ap (λ x. elim x as (λ x. rules.Answer) [ maybe.some t ↦ rules.provisional t | maybe.none ↦ missing M.entries n ]) found)

    -- no entry has it
    module _ (none : FirstFound (λ k. eqb (get_or (map (λ i. i.number) (take s.count s.items)) k 0) n) (length (map (λ i. i.number) (take s.count s.items))) None) where
      lost : lookup (closed_list es) n ≡ maybe.none
      lost = lookup-lost es o formed numbers n (counted n none) (length-map l (λ i. i.number) ∙ many ∙ sym long)

      open_missing : answer_in (missing_as false (any (λ i. names n i.see) l)) ≡ missing M.entries n
      open_missing = go (any (λ i. names n i.see) l) ∙ ap (λ b. elim b as (λ b. rules.Answer) [ true ↦ rules.not_yet | false ↦ rules.refused_at 17 0 ]) (sym (named-placed n 0 l))
        where
          go : (b : Bool) → answer_in (missing_as false b) ≡ elim b as (λ b. rules.Answer) [ true ↦ rules.not_yet | false ↦ rules.refused_at 17 0 ]
          go true = refl
          go false = refl

      pub missing-answer : answer_in (missing_as s.closed (any (λ i. names n i.see) (take s.count s.items))) ≡ look_in M n
      unfolding look_in
      missing-answer = go s.closed refl
        where
          go : (b : Bool) → s.closed ≡ b → answer_in (missing_as b (any (λ i. names n i.see) l)) ≡ elim b as (λ b. rules.Answer) [ true ↦ finally (lookup_of (file_of M) n) | false ↦ looked_open M.entries n ]
          go true q = sym (ap finally (accepted-lookup (file_of M) M.entries (closed-file (kept s p) q) n ∙ ap looked_up (sym (lookup-aside M.entries n) ∙ lost)))
          go false q = open_missing ∙ sym (ap (λ x. elim x as (λ x. rules.Answer) [ maybe.some t ↦ rules.provisional t | maybe.none ↦ missing M.entries n ]) lost)
