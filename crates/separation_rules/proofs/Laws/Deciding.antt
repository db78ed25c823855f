-- How the tests decide what is said of two entries.
use Rattle.std.specs.Prelude.{◌≡◌, refl, ◌≢◌, Bool, true, false, eqb}
use Rattle.std.proofs.Common.{◌∙◌, eq-eqb, ne_eqb}
use Rattle.std.proofs.Math.Path.{ap₂}
use Rattle.std.proofs.Math.Bool.{◌&&◌}
use Rattle.catalogue_rules.specs.Catalogue.{Entry}
use Rattle.fold_rules.specs.Fold.{holds, same_lattice}
use Rattle.fold_rules.proofs.Laws.SameLattice.{Sound}
use Rattle.fold_rules.proofs.Laws.Deciding.{different-m, different-d}
use Rattle.separation_rules.specs.Separation.{Separation, same, different_m, different_d, outsides, separation}

module _ (e f : Entry) where
  abbrev by : Bool → Bool → Bool → Separation
  by a b c = elim a as (λ a. Separation) [ true ↦ same | false ↦ elim b as (λ b. Separation) [ false ↦ different_m | true ↦ elim c as (λ c. Separation) [ false ↦ different_d | true ↦ outsides e f ] ] ]

  pub by_tests : {a b c : Bool} → same_lattice e f ≡ a → eqb e.head.m f.head.m ≡ b → eqb e.head.d f.head.d ≡ c → separation e f ≡ by a b c
  unfolding separation
  by_tests p q r = λ i. by (p i) (q i) (r i)

  -- one lattice by what each holds of the other
  pub by-holds : {a b : Bool} → e.head.m ≡ f.head.m → holds e f ≡ a → holds f e ≡ b → same_lattice e f ≡ a && b
  unfolding same_lattice
  by-holds m p q = ap₂ ◌&&◌ (eq-eqb _ _ m) (ap₂ ◌&&◌ p q)

  module _ (s : Sound e) (t : Sound f) where
    pub says-m : e.head.m ≢ f.head.m → separation e f ≡ different_m
    says-m h = by_tests (different-m e f s t h) (ne_eqb _ _ h) refl

    pub says-d : e.head.m ≡ f.head.m → e.head.d ≢ f.head.d → separation e f ≡ different_d
    says-d m h = by_tests (different-d e f s t h) (eq-eqb _ _ m) (ne_eqb _ _ h)

  module _ (m : e.head.m ≡ f.head.m) (d : e.head.d ≡ f.head.d) where
    -- a vector of the first is outside
    pub says_first : holds f e ≡ false → separation e f ≡ outsides e f
    says_first q = by_tests (by-holds m refl q ∙ none (holds e f)) (eq-eqb _ _ m) (eq-eqb _ _ d)
      where
        none : (a : Bool) → a && false ≡ false
        none true = refl
        none false = refl

    -- a vector of the second is
    pub says_second : holds e f ≡ false → separation e f ≡ outsides e f
    says_second p = by_tests (by-holds m p refl) (eq-eqb _ _ m) (eq-eqb _ _ d)

    pub says_same : holds e f ≡ true → holds f e ≡ true → separation e f ≡ same
    says_same p q = by_tests (by-holds m p q) (eq-eqb _ _ m) (eq-eqb _ _ d)
