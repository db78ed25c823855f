-- The places that the second step finds are those of the standing entries of the definition: with the places of the first entries known, no lattice
-- is looked at.
use Rattle.std.specs.Prelude.{◌≡◌, Bool, true, false, not, ◌&&◌, List, ℕ, ◌≤◌, ◌<◌, eqb, length, get_or}
use Rattle.std.proofs.Math.Path.{sym}
use Rattle.std.proofs.Common.{ap, ap₂, ◌∙◌, subst, arith}
use Rattle.integers.specs.All.{All}
use Rattle.catalogue_rules.specs.Catalogue.{Entry}
use Rattle.catalogue_rules.specs.Form.{WellFormed}
use Rattle.fold_rules.specs.Meaning.{Among, OneLattice}
use Rattle.fold_rules.specs.Fold.{same_lattice, first_by, standing_by, standing, stood_of, stands}
use Rattle.fold_rules.proofs.Laws.SameLattice.{Sound, sound-entries, one-lattice}
use Rattle.fold_rules.proofs.Laws.Standing.{first_one, standing-same}
use Rattle.fold_rules.proofs.Laws.Adding.{same-firsts}
use Rattle.fold_rules.proofs.Laws.Searching.{among-at, first_found, first-none}
use Rattle.catalogue_standing.specs.Places.{First}
use Rattle.catalogue_standing.specs.FirstPlaces.{FirstPlaces}
use Rattle.catalogue_standing.specs.Numbers.{eqb_turn, number-place}

-- r is the place of the standing entry of the entry at place k, o standing beyond the end
pub record StandsAt (es : List Entry) (o : Entry) (k r : ℕ) : Type 0 where
  pub within : r < length es
  pub at : get_or es r o ≡ standing es (get_or es k o)

-- the places of the standing entries, o standing beyond the end
pub record StandingPlaces (es : List Entry) (o : Entry) (places : List ℕ) : Type 0 where
  pub within : (k : ℕ) → k < length es → get_or places k 0 < length es
  pub at : (k : ℕ) → k < length es → get_or es (get_or places k 0) o ≡ standing es (get_or es k o)

module _ (es : List Entry) (o : Entry) (w : WellFormed es) where
  abbrev entry : ℕ → Entry
  entry k = get_or es k o

  sound : All Sound es
  sound = sound-entries es w

  among : (k : ℕ) → k < length es → Among (entry k) es
  among k h = among-at es o k h

  -- an entry stands when its place is its own
  pub stands-place : {places : List ℕ} → StandingPlaces es o places → (k : ℕ) → k < length es → stands (stood_of es (entry k)) ≡ eqb (get_or places k 0) k
  stands-place {places} p k h =
      let s = get_or places k 0 in
      ap (λ g. eqb (entry k).head.number g.head.number) (sym (p.at k h)) ∙ number-place es w.entered.distinct o k s h (p.within k h) ∙ eqb_turn k s

  -- the standing place from the first entry that is no draft, or from none
  module _ (k : ℕ) (h : k < length es) where
    abbrev good : Entry → Bool
    good f = same_lattice f (entry k) && not f.draft

    pub checked-stands : {r : ℕ} → r < length es → ((j : ℕ) → j < r → good (entry j) ≡ false) → good (entry r) ≡ true → StandsAt es o k r
    unfolding standing_by
    checked-stands {r} l n g = record { within = l; at = sym (first_found good (first_by same_lattice es (entry k)) o es r l n g) }

    pub first-stands : {r : ℕ} → r < length es → ((j : ℕ) → j < length es → good (entry j) ≡ false) → entry r ≡ first_by same_lattice es (entry k) → StandsAt es o k r
    unfolding standing_by
    first-stands {r} l n e = record { within = l; at = e ∙ sym (first-none good (first_by same_lattice es (entry k)) o es n) }

  -- ---- with the first places known
  module _ {firsts : List ℕ} (p : FirstPlaces es o firsts) where
    abbrev first : ℕ → ℕ
    first k = get_or firsts k 0

    first-within : (k : ℕ) → k < length es → first k < length es
    first-within k h = omega (arith, p.below k h)

    -- two entries are of one lattice when their first places are one
    same-places : (j k : ℕ) → j < length es → k < length es → same_lattice (entry j) (entry k) ≡ eqb (first j) (first k)
    same-places j k h l =
        same-firsts one-lattice es sound w.entered.distinct (entry j) (entry k) (among j h) (among k l)
        ∙ ap₂ (λ f g. eqb f.head.number g.head.number) (sym (p.at j h)) (sym (p.at k l))
        ∙ number-place es w.entered.distinct o (first j) (first k) (first-within j h) (first-within k l)

    -- entry j is no draft, and the first of its lattice is at place f
    abbrev pub checked_at : ℕ → ℕ → Bool
    checked_at f j = eqb (first j) f && not (entry j).draft

    -- of the lattice whose first entry is at place f
    module _ (f : ℕ) (h : f < length es) (own : first f ≡ f) where
      good-at : (j : ℕ) → j < length es → (same_lattice (entry j) (entry f) && not (entry j).draft) ≡ checked_at f j
      good-at j l = ap (λ b. b && not (entry j).draft) (same-places j f l h ∙ ap (eqb (first j)) own)

      pub stander_checked : {r : ℕ} → First (checked_at f) (length es) r → r < length es → StandsAt es o f r
      stander_checked {r} q l = checked-stands f h l (λ j m. good-at j (omega arith) ∙ q.before j m) (good-at r l ∙ q.here l)

      pub stander_first : {r : ℕ} → First (checked_at f) (length es) r → length es ≤ r → StandsAt es o f f
      stander_first q l = first-stands f h h (λ j m. good-at j m ∙ q.before j (omega arith)) (ap entry (sym own) ∙ p.at f h)

    -- entries of one lattice have one standing entry
    pub shared : (k r : ℕ) → k < length es → StandsAt es o (first k) r → StandsAt es o k r
    shared k r h q =
        let f = first k in
        let l = first-within k h in
        let one : OneLattice (entry f) (entry k) = subst (λ g. OneLattice g (entry k)) (sym (p.at k h)) (first_one one-lattice es sound (entry k) (among k h)) in
        record { within = q.within; at = q.at ∙ standing-same one-lattice es sound (entry f) (entry k) (among f l) (among k h) one }
