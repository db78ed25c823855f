-- The first vector outside a lattice, as the code finds it, tells what the definition tells.
use Rattle.std.specs.Prelude.{◌≡◌, refl, Bool, true, false, not, ◌&&◌, List, [], ◌∷◌, map, ℕ, zero, suc, ◌+◌, ◌<◌, ℤ, length, get_or, Option, Some, None}
use Rattle.std.proofs.Common.{sym, ap, ◌∙◌, arith}
use Rattle.std.proofs.lemmas.Bool.{not-true, not-false}
use Rattle.integers.specs.Every.{every}
use Rattle.lattices.specs.Vector.{Vec}
use Rattle.lattices.specs.Refusal.{most_coordinates}
use Rattle.lattices.specs.Laws.Refusal.{one-to}
use Rattle.lattices.specs.Answer.{padded}
use Rattle.successive_minima.specs.Member.{squared_to, is_member}
use Rattle.greedy_reduction.specs.Start.{Coordinates}
use Rattle.greedy_reduction.specs.Membership.{squared-padded, member-padded}
use Rattle.lattice_membership.specs.declared.Lattice.{Lattice}
use Rattle.lattice_membership.specs.Known.{vectors_in}
use Rattle.catalogue_rules.specs.Catalogue.{Entry}
use Rattle.fold_rules.specs.Fold.{reduced_of, holds}
use Rattle.fold_rules.proofs.Laws.SameLattice.{Sound, entry-basis, entry-full}
use Rattle.catalogue_standing.specs.ReducedEntry.{reduced_entry, basis-are, held-vectors}
use Rattle.catalogue_standing.specs.SameLattice.{LatticeOf, lattice-vectors}
use Rattle.catalogue_standing.specs.Places.{First}
use Rattle.separation_rules.specs.Separation.{Separation, outside_from}
use Rattle.separation_rules.proofs.Laws.Outside.{outside-here, outside-next}
use Rattle.catalogue_separation.specs.declared.Outside.{Outside}

-- r has the place of the first of the vectors vs that is not in the lattice of bs, and its squared distance to it
pub record FirstOutside (bs vs : List Vec) (r : Outside) : Type 0 where
  pub first : First (λ i. not (is_member bs (get_or vs i []))) (length vs) r.place
  pub within : r.place < length vs
  pub square : r.square ≡ squared_to bs (get_or vs r.place [])

-- all of them are in it
pub record AllInside (bs vs : List Vec) : Type 0 where
  pub none : First (λ i. not (is_member bs (get_or vs i []))) (length vs) (length vs)

abbrev pub OutsideOf : List Vec → List Vec → Option Outside → Type 0
OutsideOf bs vs (Some r) = FirstOutside bs vs r
OutsideOf bs vs None = AllInside bs vs

-- ---- what is told of it

module _ (tell : ℕ → ℤ → Separation) (other : Separation) (bs : List Vec) where
  outside_told : (n k : ℕ) (vs : List Vec) → k < length vs → ((j : ℕ) → j < k → not (is_member bs (get_or vs j [])) ≡ false) → not (is_member bs (get_or vs k [])) ≡ true
      → outside_from tell n bs vs other ≡ tell (n + k) (squared_to bs (get_or vs k []))
  outside_told n k [] h before here = absurd (omega arith)
  outside_told n zero (v ∷ vs) h before here =
      let place : n ≡ n + 0 = omega arith in
      outside-here tell n bs v vs other (not-true (is_member bs v) here) ∙ ap (λ m. tell m (squared_to bs v)) place
  outside_told n (suc k) (v ∷ vs) h before here =
      let place : suc n + k ≡ n + suc k = omega arith in
      outside-next tell n bs v vs other (not-false (is_member bs v) (before 0 (omega arith)))
      ∙ outside_told (suc n) k vs (omega arith) (λ j l. before (suc j) (omega arith)) here ∙ ap (λ m. tell m (squared_to bs (get_or vs k []))) place

  inside-told : (n : ℕ) (vs : List Vec) → ((j : ℕ) → j < length vs → not (is_member bs (get_or vs j [])) ≡ false) → outside_from tell n bs vs other ≡ other
  inside-told n [] before = refl
  inside-told n (v ∷ vs) before =
      outside-next tell n bs v vs other (not-false (is_member bs v) (before 0 (omega arith))) ∙ inside-told (suc n) vs (λ j l. before (suc j) (omega arith))

-- ---- whether all are inside

module _ (f : Vec → Bool) where
  all_yes : (vs : List Vec) → ((j : ℕ) → j < length vs → not (f (get_or vs j [])) ≡ false) → every f vs ≡ true
  all_yes [] h = refl
  all_yes (v ∷ vs) h = ap (λ b. b && every f vs) (not-false (f v) (h 0 (omega arith))) ∙ all_yes vs (λ j l. h (suc j) (omega arith))

  one-no : (vs : List Vec) (k : ℕ) → k < length vs → not (f (get_or vs k [])) ≡ true → every f vs ≡ false
  one-no [] k l h = absurd (omega arith)
  one-no (v ∷ vs) zero l h = ap (λ b. b && every f vs) (not-true (f v) h)
  one-no (v ∷ vs) (suc k) l h = ap (λ b. f v && b) (one-no vs k (omega arith) h) ∙ none (f v)
    where
      none : (a : Bool) → a && false ≡ false
      none true = refl
      none false = refl

-- ---- vectors filled up with zeros are told as they were entered

module _ (g : Entry) (s : Sound g) (tell : ℕ → ℤ → Separation) (other : Separation) where
  entered-told : (m n : ℕ) → m ≡ g.head.m → (vs : List Vec) → Coordinates m vs
      → outside_from tell n (map (padded most_coordinates) (reduced_of g)) (map (padded most_coordinates) vs) other ≡ outside_from tell n (reduced_of g) vs other
  entered-told m n q [] c = refl
  entered-told m n q (v ∷ vs) c =
      let few = (one-to most_coordinates g.head.m s.fits.head.m).1 in
      let test = member-padded most_coordinates g.head.m few (reduced_of g) (entry-full g s) v (c.0 ∙ q) in
      let square = squared-padded most_coordinates g.head.m few (reduced_of g) (entry-full g s) v (c.0 ∙ q) in
      let rest = entered-told m (suc n) q vs c.1 in
      λ i. elim (test i) as (λ b. Separation) [ false ↦ tell n (square i) | true ↦ rest i ]

-- ---- what the code has found of e, in the lattice of g

module _ (e g : Entry) (s : Sound e) (t : Sound g) (same : e.head.m ≡ g.head.m) {l : Lattice} (p : LatticeOf (reduced_entry g) l) where
  abbrev vs : List Vec
  vs = map (padded most_coordinates) e.vectors

  basis : vectors_in l ≡ map (padded most_coordinates) (reduced_of g)
  basis = lattice-vectors p ∙ basis-are g t

  held : every (is_member (vectors_in l)) vs ≡ holds g e
  held = ap (λ bs. every (is_member bs) vs) (lattice-vectors p) ∙ held-vectors g t e.head.m same e.vectors (entry-basis e s).full

  told-entered : (tell : ℕ → ℤ → Separation) (other : Separation) → outside_from tell 1 (vectors_in l) vs other ≡ outside_from tell 1 (reduced_of g) e.vectors other
  told-entered tell other =
      ap (λ bs. outside_from tell 1 bs vs other) basis ∙ entered-told g t tell other e.head.m 1 same e.vectors (entry-basis e s).full

  module _ {r : Outside} (o : FirstOutside (vectors_in l) (map (padded most_coordinates) e.vectors) r) where
    pub outside-held : holds g e ≡ false
    outside-held = sym held ∙ one-no (is_member (vectors_in l)) vs r.place o.within (o.first.here o.within)

    pub outside-is : (tell : ℕ → ℤ → Separation) (other : Separation) → outside_from tell 1 (reduced_of g) e.vectors other ≡ tell (r.place + 1) r.square
    outside-is tell other =
        let position : 1 + r.place ≡ r.place + 1 = omega arith in
        sym (told-entered tell other) ∙ outside_told tell other (vectors_in l) 1 r.place vs o.within o.first.before (o.first.here o.within)
        ∙ (λ i. tell (position i) (sym o.square i))

  module _ (o : AllInside (vectors_in l) (map (padded most_coordinates) e.vectors)) where
    all : (j : ℕ) → j < length vs → not (is_member (vectors_in l) (get_or vs j [])) ≡ false
    all j k = o.none.before j k

    pub inside-held : holds g e ≡ true
    inside-held = sym held ∙ all_yes (is_member (vectors_in l)) vs all

    pub inside_is : (tell : ℕ → ℤ → Separation) (other : Separation) → outside_from tell 1 (reduced_of g) e.vectors other ≡ other
    inside_is tell other = sym (told-entered tell other) ∙ inside-told tell other (vectors_in l) 1 vs all
