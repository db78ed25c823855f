-- The places of the standing entries as the code finds them among entries that were read: one lattice after the other, and one entry.
use Rattle.std.specs.Prelude.{◌≡◌, refl, Bool, true, false, not, cond, ◌&&◌, List, map, ℕ, ◌+◌, ◌≤◌, ◌<◌, eqb, length, get_or, set, take, Option, Some, None, unwrap_or}
use Rattle.std.proofs.Common.{sym, ap, ap₂, ◌∙◌, subst, arith, length-set, get_or-set_same, get_or-set_other, get_or-take, length-take-le, ne_eqb}
use Rattle.std.proofs.Math.Decide.{dec_lt}
use Rattle.integers.specs.AllLaws.{get_d_map}
use Rattle.integers.specs.Filled.{filled}
use Rattle.catalogue_rules.specs.Catalogue as definition
use Rattle.catalogue_rules.specs.Catalogue.{most_entries}
use Rattle.catalogue_rules.specs.Form.{WellFormed}
use Rattle.catalogue_records.specs.declared.Entry.{Entry}
use Rattle.catalogue_records.specs.EntriesIn.{entry_in}
use Rattle.catalogue_records.specs.Entries.{beyond, entry_at, at_place}
use Rattle.catalogue_standing.specs.Places.{First, first-like, FirstFound, found-like}
use Rattle.catalogue_standing.specs.FirstPlaces.{FirstPlaces}
use Rattle.catalogue_standing.specs.Standing.{StandsAt, StandingPlaces, stander_checked, stander_first, shared}
use Rattle.catalogue_standing.specs.OneEntry.{marked_of, searched, alike-before, alike-checked, alike-drafts}
use Rattle.catalogue_standing.specs.ReducedEntries.{WasRead, ready-length, filled-cut}

-- the first with this mark, of the lattice of e, among the first n entries
pub found-cut : (draft : Bool) (e : definition.Entry) (l : List Entry) (n : ℕ) → n ≤ length l → (o : Option ℕ)
    → FirstFound (λ j. marked_of draft e (entry_in (entry_at (take n l) j))) (length (take n l)) o → FirstFound (λ j. marked_of draft e (entry_in (entry_at l j))) n o
found-cut draft e l n h o p =
    found-like (λ j m. ap (λ f. marked_of draft e (entry_in f)) (get_or-take n l j beyond m)) o
    (subst (λ m. FirstFound (λ j. marked_of draft e (entry_in (entry_at (take n l) j))) m o) (length-take-le n l h) p)

module _ (l : List Entry) (r : WasRead l) where
  abbrev es : List definition.Entry
  es = map entry_in l

  abbrev o : definition.Entry
  o = entry_in beyond

  abbrev entry : ℕ → definition.Entry
  entry k = get_or es k o

  inside : (k : ℕ) → k < length l → k < length es
  inside k h = omega (arith, ready-length l r)

  counted : {f : ℕ → Bool} {k : ℕ} → First f (length l) k → First f (length es) k
  counted {f} {k} = subst (λ n. First f n k) (sym (ready-length l r))

  -- ---- one entry, found without the others
  module _ (k : ℕ) (h : k < length l) where
    -- entry j has the mark and is of the lattice of entry k
    abbrev pub marked_like : Bool → ℕ → Bool
    marked_like draft j = marked_of draft (entry_in (entry_at l k)) (entry_in (entry_at l j))

    by_place : (draft : Bool) {n i : ℕ} → n ≤ length l → First (marked_like draft) n i → First (λ j. marked_of draft (entry k) (entry j)) n i
    by_place draft m found = first-like (λ j s. ap₂ (marked_of draft) (sym (at_place l k h)) (sym (at_place l j (omega arith)))) found

    pub plain-stands : (entry_at l k).draft ≡ false → {i : ℕ} → First (marked_like false) k i → StandsAt es o k i
    plain-stands e found = alike-before es o r.formed k (inside k h) (ap (λ e. e.draft) (at_place l k h) ∙ e) (by_place false (omega arith) found)

    pub checked-stands : {i : ℕ} → First (marked_like false) (length l) i → i < length l → StandsAt es o k i
    checked-stands found m = alike-checked es o r.formed k (inside k h) (counted (by_place false (omega arith) found)) (inside _ m)

    pub draft-stands : ((j : ℕ) → j < length l → marked_like false j ≡ false) → {i : ℕ} → First (marked_like true) k i → StandsAt es o k i
    draft-stands none found =
        alike-drafts es o r.formed k (inside k h) (counted (by_place false (omega arith) (record { within = omega arith; before = none; here = λ m. absurd (omega arith) })))
        (omega (arith, ready-length l r)) (by_place true (omega arith) found)

    -- the first loop looks for one that is no draft: among n entries
    module _ {n : ℕ} (is : n ≡ searched (entry_at l k).draft k (length l)) where
      pub searched-most : n ≤ length l
      searched-most = subst (λ m. m ≤ length l) (sym is) (go (entry_at l k).draft)
        where
          go : (b : Bool) → cond b (length l) k ≤ length l
          go true = omega arith
          go false = omega arith

      all-searched : (entry_at l k).draft ≡ true → n ≡ length l
      all-searched e = is ∙ ap (λ b. cond b (length l) k) e

      those_before : (entry_at l k).draft ≡ false → n ≡ k
      those_before e = is ∙ ap (λ b. cond b (length l) k) e

      pub found-stands : (i : ℕ) → FirstFound (marked_like false) n (Some i) → StandsAt es o k i
      found-stands i found = go (entry_at l k).draft refl
        where
          go : (b : Bool) → (entry_at l k).draft ≡ b → StandsAt es o k i
          go true e = checked-stands (subst (λ m. First (marked_like false) m i) (all-searched e) found.0) (omega (arith, found.1, all-searched e))
          go false e = plain-stands e (subst (λ m. First (marked_like false) m i) (those_before e) found.0)

      module _ (none : FirstFound (marked_like false) n None) where
        pub none-stands : (entry_at l k).draft ≡ false → StandsAt es o k k
        none-stands e = plain-stands e (subst (λ m. First (marked_like false) m m) (those_before e) none)

        none-checked : (entry_at l k).draft ≡ true → (j : ℕ) → j < length l → marked_like false j ≡ false
        none-checked e = (subst (λ m. First (marked_like false) m m) (all-searched e) none).before

        pub drafts_stand : (entry_at l k).draft ≡ true → (found : Option ℕ) → FirstFound (marked_like true) k found → StandsAt es o k (unwrap_or found k)
        drafts_stand e (Some i) found = draft-stands (none-checked e) found.0
        drafts_stand e None found = draft-stands (none-checked e) found

-- ---- one lattice after the other, from the first entries and the marks

-- entry j is no draft, and the first of its lattice is at place f
abbrev pub checked_at : List ℕ → List Bool → ℕ → ℕ → Bool
checked_at firsts marks f j = eqb (get_or firsts j 0) f && not (get_or marks j false)

-- no entry before place f has its first entry there
pub none_before : (firsts : List ℕ) (marks : List Bool) (count : ℕ) → ((k : ℕ) → k < count → get_or firsts k 0 ≤ k) → (f : ℕ) → f < count → (i : ℕ) → i < f → checked_at firsts marks f i ≡ false
none_before firsts marks count below f h i l =
    ap (λ b. b && not (get_or marks i false)) (ne_eqb (get_or firsts i 0) f (λ (e : get_or firsts i 0 ≡ f). omega (arith, e, below i (omega arith))))

-- which entries are drafts, o standing beyond the end
pub record Marks (es : List definition.Entry) (o : definition.Entry) (marks : List Bool) : Type 0 where
  pub mark : (k : ℕ) → k < length es → get_or marks k false ≡ (get_or es k o).draft

pub ready-marks : (l : List Entry) → WasRead l → {marks : List Bool} → marks ≡ map (λ e. e.draft) l → Marks (map entry_in l) (entry_in beyond) marks
ready-marks l r e = record {
  mark = λ k h. ap (λ l. get_or l k false) e ∙ get_d_map (λ e. e.draft) l beyond false k (omega (arith, ready-length l r))
      ∙ ap (λ f. f.draft) (sym (at_place l k (omega (arith, ready-length l r))));
}

-- r is the place of the standing entry of entry k in every list of entries that the places and marks are of
pub record Stander (firsts : List ℕ) (marks : List Bool) (count k r : ℕ) : Type 0 where
  pub stands : (es : List definition.Entry) (o : definition.Entry) → WellFormed es → FirstPlaces es o firsts → Marks es o marks → length es ≡ count → StandsAt es o k r

module _ (firsts : List ℕ) (marks : List Bool) (count : ℕ) where
  -- the lattice whose first entry is at place f
  module _ (f : ℕ) (h : f < count) (own : get_or firsts f 0 ≡ f) where
    by-entry : {k : ℕ} → First (checked_at firsts marks f) count k → (es : List definition.Entry) (o : definition.Entry) → Marks es o marks → length es ≡ count
        → First (λ j. eqb (get_or firsts j 0) f && not (get_or es j o).draft) (length es) k
    by-entry {k} found ds o m n = first-like (λ j l. ap (λ d. eqb (get_or firsts j 0) f && not d) (m.mark j l)) (subst (λ i. First (checked_at firsts marks f) i k) (sym n) found)

    checked-there : {k : ℕ} → First (checked_at firsts marks f) count k → k < count → Stander firsts marks count f k
    checked-there found d = record { stands = λ es o w p m n. stander_checked es o w p f (omega (arith, n)) own (by-entry found es o m n) (omega (arith, n, d)) }

    all-drafts : First (checked_at firsts marks f) count count → Stander firsts marks count f f
    all-drafts found = record { stands = λ es o w p m n. stander_first es o w p f (omega (arith, n)) own (by-entry found es o m n) (omega (arith, n)) }

    -- the checked one, or else the first, as all are drafts
    pub stander_found : (o : Option ℕ) → FirstFound (checked_at firsts marks f) count o → Stander firsts marks count f (unwrap_or o f)
    stander_found (Some k) p = checked-there p.0 p.1
    stander_found None p = all-drafts p

  -- an entry shares it with the first of its lattice
  pub shared_with : {k r : ℕ} → k < count → Stander firsts marks count (get_or firsts k 0) r → Stander firsts marks count k r
  shared_with {k} {r} h q = record { stands = λ es o w p m n. shared es o w p k r (omega (arith, n)) (q.stands es o w p m n) }

  -- the places of the standing entries of the first n
  pub record Standers (n : ℕ) (places : List ℕ) : Type 0 where
    pub long : length places ≡ most_entries
    pub at : (k : ℕ) → k < n → Stander firsts marks count k (get_or places k 0)

  pub standers_none : (places : List ℕ) → length places ≡ most_entries → Standers 0 places
  standers_none places long = record { long = long; at = λ k h. absurd (omega arith) }

  pub standers_more : {n : ℕ} {places : List ℕ} → Standers n places → n < most_entries → {s : ℕ} → Stander firsts marks count n s → Standers (n + 1) (set places n s)
  standers_more {n} {places} p few {s} q = record { long = length-set places n s ∙ p.long; at = λ k h. go k h (dec_lt k n) }
    where
      go : (k : ℕ) → k < n + 1 → Dec (k < n) → Stander firsts marks count k (get_or (set places n s) k 0)
      go k h (yes l) = subst (Stander firsts marks count k) (sym (get_or-set_other places n k s 0 (λ e. absurd (omega arith)))) (p.at k l)
      go k h (no m) =
          let e : k ≡ n = omega arith in
          subst (λ k. Stander firsts marks count k (get_or (set places n s) k 0)) (sym e)
          (subst (Stander firsts marks count n) (sym (get_or-set_same places n s 0 (omega (arith, p.long)))) q)

-- of entries that were read
pub standing-places : (l : List Entry) (r : WasRead l) {firsts : List ℕ} {marks : List Bool} → FirstPlaces (map entry_in l) (entry_in beyond) firsts → marks ≡ map (λ e. e.draft) l
    → {places : List ℕ} → Standers firsts marks (length l) (length l) places → StandingPlaces (map entry_in l) (entry_in beyond) places
standing-places l r p m {places} q = record { within = λ k h. (each k h).within; at = λ k h. (each k h).at }
  where
    each : (k : ℕ) → k < length (map entry_in l) → StandsAt (map entry_in l) (entry_in beyond) k (get_or places k 0)
    each k h = (q.at k (omega (arith, ready-length l r))).stands (map entry_in l) (entry_in beyond) r.formed p (ready-marks l r m) (ready-length l r)

-- the code hands over the places and marks of these entries alone
pub standers_cut : (l : List Entry) (r : WasRead l) {firsts : List ℕ} {marks : List Bool} → FirstPlaces (map entry_in l) (entry_in beyond) firsts → length firsts ≡ most_entries
    → marks ≡ filled false most_entries (map (λ e. e.draft) l)
    → {places : List ℕ} → Standers (take (length l) firsts) (take (length l) marks) (length (take (length l) firsts)) (length (take (length l) firsts)) places
    → StandingPlaces (map entry_in l) (entry_in beyond) places
standers_cut l r {firsts} {marks} p long m {places} q =
    standing-places l r below (filled-cut false (λ e. e.draft) l r.few m)
    (subst (λ k. Standers (take (length l) firsts) (take (length l) marks) k k places) (length-take-le (length l) firsts (omega (arith, long, r.few))) q)
  where
    kept : (k : ℕ) → k < length (map entry_in l) → get_or (take (length l) firsts) k 0 ≡ get_or firsts k 0
    kept k h = get_or-take (length l) firsts k 0 (omega (arith, ready-length l r))

    below : FirstPlaces (map entry_in l) (entry_in beyond) (take (length l) firsts)
    below = record {
      below = λ k h. omega (arith, kept k h, p.below k h);
      at = λ k h. ap (λ i. get_or (map entry_in l) i (entry_in beyond)) (kept k h) ∙ p.at k h;
    }
