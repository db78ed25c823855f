-- The places that the first step finds are those of the first entries of the definition.
use Rattle.std.specs.Prelude.{◌≡◌, Bool, ◌&&◌, List, ◌∷◌, ◌++◌, ℕ, zero, suc, ◌≤◌, ◌<◌, eqb, length, get_or, take, drop}
use Rattle.std.proofs.Common.{sym, ap, ap₂, ◌∙◌, subst, le_of_lt, arith, take-append-drop, drop-cons, get_or-take, length-take-le}
use Rattle.std.proofs.Math.Decide.{dec_lt}
use Rattle.integers.specs.All.{All}
use Rattle.integers.specs.AllLaws.{all-at}
use Rattle.catalogue_rules.specs.Catalogue.{Entry}
use Rattle.catalogue_rules.specs.Form.{WellFormed}
use Rattle.fold_rules.specs.Meaning.{Among}
use Rattle.fold_rules.specs.Fold.{same_lattice, first_entry, first_by}
use Rattle.fold_rules.proofs.Laws.SameLattice.{Sound, sound-entries, one-lattice}
use Rattle.fold_rules.proofs.Laws.Adding.{is_first, first-kept}
use Rattle.fold_rules.proofs.Laws.Searching.{among-at, first_found, first-none, first_past}
use Rattle.lattice_membership.specs.Known.{Left}
use Rattle.catalogue_standing.specs.ReducedEntry.{no_reduced, reduced_entry, same_reduced, same-is}
use Rattle.catalogue_standing.specs.Places.{First, first_alike, Firsts}
use Rattle.catalogue_standing.specs.Numbers.{eqb_turn, number-place}

-- the places of the first entries of lattices, o standing beyond the end
pub record FirstPlaces (es : List Entry) (o : Entry) (places : List ℕ) : Type 0 where
  pub below : (k : ℕ) → k < length es → get_or places k 0 ≤ k
  pub at : (k : ℕ) → k < length es → get_or es (get_or places k 0) o ≡ first_by same_lattice es (get_or es k o)

-- what is kept of each entry, and the places that were found; o stands beyond the end
pub record Held (es : List Entry) (o : Entry) (list : List Left) (places : List ℕ) : Type 0 where
  pub kept : (k : ℕ) → k < length es → get_or list k no_reduced ≡ reduced_entry (get_or es k o)
  pub firsts : Firsts list (length es) places

module _ (es : List Entry) (o : Entry) (w : WellFormed es) {list : List Left} {places : List ℕ} (held : Held es o list places) where
  abbrev at : ℕ → Entry
  at k = get_or es k o

  abbrev place : ℕ → ℕ
  place k = get_or places k 0

  abbrev first : Entry → Entry
  first = first_by same_lattice es

  sound : All Sound es
  sound = sound-entries es w

  sound-at : (k : ℕ) → k < length es → Sound (at k)
  sound-at k h = all-at Sound es o sound k h

  place-below : (k : ℕ) → k < length es → place k ≤ k
  place-below k h = (held.firsts.first k h).within

  same_at : (j k : ℕ) → j < length es → k < length es → same_reduced (get_or list j no_reduced) (get_or list k no_reduced) ≡ same_lattice (at j) (at k)
  same_at j k h l = ap₂ same_reduced (held.kept j h) (held.kept k l) ∙ same-is (at j) (at k) (sound-at j h) (sound-at k l)

  own-place : (k : ℕ) → place k < length es → k < length es → eqb (at k).head.number (at (place k)).head.number ≡ eqb (place k) k
  own-place k h l = number-place es w.entered.distinct o k (place k) l h ∙ eqb_turn k (place k)

  -- the entries before place k, that entry, and those after it
  module _ (k : ℕ) (h : k < length es) where
    abbrev past : List Entry
    past = take k es

    abbrev rest : List Entry
    rest = drop (suc k) es

    split : past ++ (at k ∷ rest) ≡ es
    split = ap (λ l. past ++ l) (sym (drop-cons es k o h)) ∙ take-append-drop k es

    past-long : length past ≡ k
    past-long = length-take-le k es (le_of_lt h)

    sound-split : All Sound (past ++ (at k ∷ rest))
    sound-split = subst (All Sound) (sym split) sound

    abbrev has : Entry → Bool
    has f = is_first same_lattice past f && same_lattice f (at k)

    first-before : first (at k) ≡ first_entry has (at k) past
    first-before = ap (λ l. first_by same_lattice l (at k)) (sym split) ∙ first_past one-lattice past (at k) rest sound-split

    -- an entry before k is the first when its place is its own
    module _ (before : (j : ℕ) → j < k → at (place j) ≡ first (at j)) where
      first-at : (j : ℕ) → j < k → is_first same_lattice past (get_or past j o) ≡ eqb (place j) j
      first-at j l =
          let f = at j in
          let below = place-below j (omega arith) in
          let taken : get_or past j o ≡ f = get_or-take k es j o l in
          let kept : first_by same_lattice past f ≡ at (place j) =
          sym (first-kept one-lattice past (at k ∷ rest) sound-split f (subst (λ g. Among g past) taken (among-at past o j (omega (arith, past-long)))))
          ∙ ap (λ l. first_by same_lattice l f) split ∙ sym (before j l) in
          ap (is_first same_lattice past) taken ∙ ap (λ g. eqb f.head.number g.head.number) kept ∙ own-place j (omega arith) (omega arith)

      has-at : (j : ℕ) → j < k → has (get_or past j o) ≡ first_alike list places k j
      has-at j l =
          let taken : get_or past j o ≡ at j = get_or-take k es j o l in
          ap₂ ◌&&◌ (first-at j l) (ap (λ g. same_lattice g (at k)) taken ∙ sym (same_at j k (omega arith) h))

      at_place : at (place k) ≡ first (at k)
      at_place = go (dec_lt (place k) k)
        where
          found : First (first_alike list places k) k (place k)
          found = held.firsts.first k h

          go : Dec (place k < k) → at (place k) ≡ first (at k)
          go (yes l) = sym (first-before
              ∙ first_found has (at k) o past (place k) (omega (arith, past-long)) (λ j m. has-at j (omega arith) ∙ found.before j m) (has-at (place k) l ∙ found.here l)
              ∙ get_or-take k es (place k) o l)
          go (no n) =
              let e : place k ≡ k = omega (arith, found.within) in
              ap at e ∙ sym (first-before ∙ first-none has (at k) o past (λ j m. has-at j (omega (arith, past-long)) ∙ found.before j (omega (arith, past-long))))

  places-to : (n k : ℕ) → k < n → k < length es → at (place k) ≡ first (at k)
  places-to zero k h l = absurd (omega arith)
  places-to (suc n) k h l = at_place k l (λ j m. places-to n j (omega arith) (omega arith))

  pub first-places : FirstPlaces es o places
  first-places = record { below = place-below; at = λ k h. places-to (suc k) k (omega arith) h }
