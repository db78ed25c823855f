-- What is left of an entry, reduced, and that the tests on it decide whether two entries generate one lattice.
use Rattle.std.specs.Prelude.{◌≡◌, ◌≢◌, Bool, List, [], ◌∷◌, map, ℕ, zero, suc, eqb, length, take}
use Rattle.std.proofs.Math.Path.{refl, sym, ap, ap₂}
use Rattle.std.proofs.Common.{◌∙◌}
use Rattle.std.proofs.Math.Bool.{true, false, ◌&&◌, true≢false}
use borrow.Author.Tests.{eqb-true, eq-eqb, ne_eqb}
use Rattle.lattices.specs.Vector.{Vec}
use Rattle.lattices.specs.Refusal.{most_vectors, most_coordinates}
use Rattle.lattices.specs.Answer.{padded, table}
use Rattle.successive_minima.specs.Member.{is_member}
use Rattle.greedy_reduction.specs.Start.{Coordinates}
use Rattle.catalogue_rules.specs.Catalogue.{Entry, input_of}
use Rattle.fold_rules.specs.Fold.{reduced_of, holds, same_lattice}
use Rattle.integers.specs.Every.{every}
use Rattle.fold_rules.proofs.Laws.SameLattice.{Sound, entry-full}
use Rattle.fold_rules.proofs.Laws.Deciding.{entry-reduction, entry-rows, entry-member, different-m, different-d, different_answers, holds-reduced}
use Rattle.lattice_membership.specs.Known.{Left}
use Rattle.reduced_lattices.specs.Left.{left_of}

-- what the reduction of an entry leaves
abbrev pub reduced_entry : Entry → Left
reduced_entry e = left_of (input_of e)

-- what an array of them gives beyond its end
abbrev pub no_reduced : Left
no_reduced = record { d = 0; m = 0; vectors = []; squares = []; passes = 0 }

-- the reduced vectors
abbrev pub basis_in : Left → List Vec
basis_in k = take k.d k.vectors

-- the lattice of a holds every reduced vector of b
unfoldable pub held_in : Left → Left → Bool
held_in a b = every (is_member (basis_in a)) (basis_in b)

unfoldable pub same_reduced : Left → Left → Bool
same_reduced a b = eqb a.m b.m && (eqb a.d b.d && (held_in a b && held_in b a))

-- as the code decides it
module _ (a b : Left) where
  pub other-m : a.m ≢ b.m → false ≡ same_reduced a b
  unfolding same_reduced
  other-m h = sym (ap (λ p. p && (eqb a.d b.d && (held_in a b && held_in b a))) (ne_eqb _ _ h))

  pub other-d : a.m ≡ b.m → a.d ≢ b.d → false ≡ same_reduced a b
  unfolding same_reduced
  other-d e h = sym (ap₂ (λ p q. p && (q && (held_in a b && held_in b a))) (eq-eqb _ _ e) (ne_eqb _ _ h))

  pub by-held : a.m ≡ b.m → a.d ≡ b.d → (held_in a b && held_in b a) ≡ same_reduced a b
  unfolding same_reduced
  by-held e h = sym (ap₂ (λ p q. p && (q && (held_in a b && held_in b a))) (eq-eqb _ _ e) (eq-eqb _ _ h))

pub length-table : (h w : ℕ) (rows : List Vec) → length (table h w rows) ≡ h
length-table zero w rows = refl
length-table (suc h) w [] = ap suc (length-table h w [])
length-table (suc h) w (r ∷ rows) = ap suc (length-table h w rows)

module _ (e : Entry) (s : Sound e) where
  pub basis-are : basis_in (reduced_entry e) ≡ map (padded most_coordinates) (reduced_of e)
  basis-are = entry-rows e s

  pub rows-table : (reduced_entry e).vectors ≡ table most_vectors most_coordinates (reduced_of e)
  rows-table = ap (λ r. r.basis) (entry-reduction e s)

  -- the test on the rows is that of the definition
  pub held-vectors : (m : ℕ) → m ≡ e.head.m → (vs : List Vec) → Coordinates m vs
      → every (is_member (basis_in (reduced_entry e))) (map (padded most_coordinates) vs) ≡ every (is_member (reduced_of e)) vs
  held-vectors m q [] c = refl
  held-vectors m q (v ∷ vs) c =
      ap₂ ◌&&◌ (entry-member e s v (c.0 ∙ q)) (held-vectors m q vs c.1)

module _ (e f : Entry) (s : Sound e) (t : Sound f) where
  pub held-is : e.head.m ≡ f.head.m → held_in (reduced_entry e) (reduced_entry f) ≡ holds e f
  unfolding held_in
  held-is q =
      ap (every (is_member (basis_in (reduced_entry e)))) (basis-are f t)
      ∙ held-vectors e s f.head.m (sym q) (reduced_of f) (entry-full f t)
      ∙ holds-reduced e f s t q

module _ (e f : Entry) (s : Sound e) (t : Sound f) where
  same_by : (a : Bool) → eqb e.head.m f.head.m ≡ a → (b : Bool) → eqb e.head.d f.head.d ≡ b
      → (a && (b && (held_in (reduced_entry e) (reduced_entry f) && held_in (reduced_entry f) (reduced_entry e)))) ≡ same_lattice e f
  unfolding same_lattice
  same_by false p b q = sym (different-m e f s t (λ h. true≢false (sym (eq-eqb _ _ h) ∙ p)))
  same_by true p false q = sym (different-d e f s t (λ h. true≢false (sym (eq-eqb _ _ h) ∙ q)))
  same_by true p true q =
      let m = eqb-true e.head.m f.head.m p in
      ap₂ ◌&&◌ (held-is e f s t m) (held-is f e t s (sym m)) ∙ sym (ap (λ a. a && (holds e f && holds f e)) p)

  pub same-is : same_reduced (reduced_entry e) (reduced_entry f) ≡ same_lattice e f
  unfolding same_reduced
  same-is = same_by (eqb e.head.m f.head.m) refl (eqb e.head.d f.head.d) refl

-- ---- what the code asks of it: it is kept of some entry of an accepted catalogue
pub record Fair (k : Left) : Type 0 where
  pub entry : Entry
  pub sound : Sound entry
  pub is : k ≡ reduced_entry entry

pub fair-same : {a b : Left} (p : Fair a) (q : Fair b) → same_reduced a b ≡ same_lattice p.entry q.entry
fair-same p q = ap₂ same_reduced p.is q.is ∙ same-is p.entry q.entry p.sound q.sound

-- entries of one lattice have the same squared lengths
pub other-squares : {a b : Left} → Fair a → Fair b → a.squares ≢ b.squares → false ≡ same_reduced a b
other-squares p q h =
    sym (fair-same p q ∙ different_answers p.entry q.entry p.sound q.sound (λ e. h (ap (λ k. k.squares) p.is ∙ e ∙ sym (ap (λ k. k.squares) q.is))))
