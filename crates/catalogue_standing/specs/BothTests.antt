-- Membership both ways decides whether two entries are of one lattice: outside with one test, inside with the other.
use Rattle.std.specs.Prelude.{◌≡◌, refl, Bool, true, false, ◌&&◌, map}
use Rattle.std.proofs.Math.Path.{sym}
use Rattle.std.proofs.Common.{ap, ap₂, ◌∙◌, eq-eqb}
use Rattle.integers.specs.Every.{every}
use Rattle.lattices.specs.Answer.{padded}
use Rattle.lattices.specs.Refusal.{most_coordinates}
use Rattle.successive_minima.specs.Member.{is_member}
use Rattle.lattice_membership.specs.declared.Lattice.{Lattice}
use Rattle.lattice_membership.specs.Known.{vectors_in}
use Rattle.catalogue_rules.specs.Catalogue.{Entry}
use Rattle.fold_rules.specs.Fold.{holds, same_lattice}
use Rattle.fold_rules.proofs.Laws.SameLattice.{Sound, entry-basis}
use Rattle.catalogue_standing.specs.ReducedEntry.{reduced_entry, held-vectors, held-is}
use Rattle.catalogue_standing.specs.SameLattice.{LatticeOf, lattice-vectors, held_by}

module _ (f e : Entry) (t : Sound f) (s : Sound e) (m : f.head.m ≡ e.head.m) {l : Lattice} (p : LatticeOf (reduced_entry e) l) where
  -- the vectors of f as they were entered
  entered : every (is_member (vectors_in l)) (map (padded most_coordinates) f.vectors) ≡ holds e f
  entered = ap (λ vs. every (is_member vs) (map (padded most_coordinates) f.vectors)) (lattice-vectors p) ∙ held-vectors e s f.head.m m f.vectors (entry-basis f t).full

  tests : (a b : Bool) → holds f e ≡ a → holds e f ≡ b → (a && b) ≡ same_lattice f e
  unfolding same_lattice
  tests a b g h = sym (ap₂ (λ x y. x && y) (eq-eqb _ _ m) (ap₂ ◌&&◌ g h))

  pub entered-outside : every (is_member (vectors_in l)) (map (padded most_coordinates) f.vectors) ≡ false → false ≡ same_lattice f e
  entered-outside h = sym (and_false (holds f e)) ∙ tests (holds f e) false refl (sym entered ∙ h)
    where
      and_false : (b : Bool) → (b && false) ≡ false
      and_false true = refl
      and_false false = refl

  pub entered-inside : every (is_member (vectors_in l)) (map (padded most_coordinates) f.vectors) ≡ true → {k : Lattice} → LatticeOf (reduced_entry f) k
      → every (is_member (vectors_in k)) (vectors_in l) ≡ same_lattice f e
  entered-inside h {k} q = held_by q p ∙ held-is f e t s m ∙ sym (and_true (holds f e)) ∙ tests (holds f e) true refl (sym entered ∙ h)
    where
      and_true : (b : Bool) → (b && true) ≡ b
      and_true true = refl
      and_true false = refl
