-- Lookup by places: the place of a number, then the number at the place of its standing entry.
use Rattle.std.specs.Prelude.{◌≡◌, refl, Bool, false, ◌||◌, List, [], ◌∷◌, ℕ, suc, ◌<◌, eqb, length, get_or}
use Rattle.std.proofs.Common.{sym, ap, ap₂, ◌∙◌, arith, eqb-true}
use Rattle.std.proofs.Math.Option.{none, some}
use Rattle.integers.specs.Every.{any}
use Rattle.catalogue_rules.specs.Catalogue.{Entry}
use Rattle.catalogue_rules.specs.Read.{is_numbered}
use Rattle.catalogue_rules.specs.Form.{WellFormed}
use Rattle.fold_rules.specs.Fold.{same_lattice, standing, closed_list, lookup}
use Rattle.fold_rules.proofs.Laws.Lookup.{lookup-finds, lookup_misses}
use Rattle.fold_rules.proofs.Laws.Searching.{among-at}
use Rattle.catalogue_standing.specs.Places.{First}
use Rattle.catalogue_standing.specs.Standing.{StandsAt, StandingPlaces}
use Rattle.catalogue_standing.specs.Numbers.{Numbers}

none-at : {A : Type 0} (f : A → Bool) (l : List A) (d : A) → ((k : ℕ) → k < length l → f (get_or l k d) ≡ false) → any f l ≡ false
none-at f [] d h = refl
none-at f (x ∷ l) d h = ap₂ ◌||◌ (h 0 (omega arith)) (none-at f l d (λ k m. h (suc k) (omega arith)))

module _ (es : List Entry) (o : Entry) (w : WellFormed es) {numbers : List ℕ} (named : Numbers es o numbers) (n : ℕ) {k : ℕ} (first : First (λ k. eqb (get_or numbers k 0) n) (length es) k) where
  -- the entry at a place that was found has the number
  pub number-there : k < length es → (get_or es k o).head.number ≡ n
  number-there h = sym (named.number k h) ∙ eqb-true (get_or numbers k 0) n (first.here h)

  -- and where none was found, no entry has it
  pub number-nowhere : k ≡ length es → any (is_numbered n) es ≡ false
  number-nowhere e = none-at (is_numbered n) es o (λ j h. ap (λ m. eqb m n) (sym (named.number j h)) ∙ first.before j (omega arith))

  -- r is the place of the standing entry of entry k
  lookup-at : k < length es → {r : ℕ} → r < length es → get_or es r o ≡ standing es (get_or es k o) → lookup (closed_list es) n ≡ some (get_or numbers r 0)
  lookup-at h {r} l s =
      let e = get_or es k o in
      ap (lookup (closed_list es)) (sym (number-there h))
      ∙ lookup-finds same_lattice es es w.entered.distinct e (among-at es o k h)
      ∙ ap (λ f. some f.head.number) (sym s)
      ∙ ap some (sym (named.number r l))

  -- as the closed list has it
  pub lookup-found : k < length es → {places : List ℕ} → StandingPlaces es o places → lookup (closed_list es) n ≡ some (get_or numbers (get_or places k 0) 0)
  lookup-found h stood = lookup-at h (stood.within k h) (stood.at k h)

  -- as it is found for one entry
  pub lookup_first : (h : k < length es) {r : ℕ} → StandsAt es o k r → lookup (closed_list es) n ≡ some (get_or numbers r 0)
  lookup_first h stood = lookup-at h stood.within stood.at

  pub lookup-lost : k ≡ length es → lookup (closed_list es) n ≡ none
  lookup-lost e = lookup_misses same_lattice es es n (number-nowhere e)
