-- The lattices of the entries, and that membership both ways decides whether two are one.
use Rattle.std.specs.Prelude.{◌≡◌, refl, ◌&&◌, List, [], ◌∷◌, map, ℕ, zero, suc, pos, get_or}
use Rattle.std.proofs.Common.{ap, ap₂, ◌∙◌}
use Rattle.integers.specs.Every.{every}
use Rattle.successive_minima.specs.Member.{is_member}
use Rattle.lattice_membership.specs.declared.Lattice.{Lattice}
use Rattle.lattice_membership.specs.Known.{Left, left_in, Known, vectors_in}
use Rattle.catalogue_standing.specs.ReducedEntry.{no_reduced, basis_in, Fair, held_in, same_reduced, by-held}
use Rattle.catalogue_standing.specs.Places.{first_alike, first_alike_lem}

-- l is the lattice with what is left of an entry
pub record LatticeOf (k : Left) (l : Lattice) : Type 0 where
  pub known : Known l
  pub left : left_in l ≡ k

pub lattice-vectors : {k : Left} {l : Lattice} → LatticeOf k l → vectors_in l ≡ basis_in k
lattice-vectors p = ap basis_in p.left

-- what the code asks of a lattice: it is that of some entry of an accepted catalogue
pub record FairLattice (l : Lattice) : Type 0 where
  pub known : Known l
  pub fair : Fair (left_in l)

-- what an array of them gives beyond its end
abbrev pub no_lattice : Lattice
no_lattice = record { d = 0; m = 0; vectors = []; squares = []; passes = 0; choice = []; minor = pos 0; cofactors = [] }

-- what is left of each
abbrev pub lefts_in : List Lattice → List Left
lefts_in = map left_in

pub left_at : (list : List Lattice) (k : ℕ) → get_or (lefts_in list) k no_reduced ≡ left_in (get_or list k no_lattice)
left_at [] k = refl
left_at (l ∷ list) zero = refl
left_at (l ∷ list) (suc k) = left_at list k

pub alike_of : (list : List Lattice) (places : List ℕ) (k j : ℕ) → get_or places j 0 ≡ j → first_alike (lefts_in list) places k j ≡ same_reduced (left_in (get_or list j no_lattice)) (left_in (get_or list k no_lattice))
alike_of list places k j e = first_alike_lem (lefts_in list) places k j e ∙ ap₂ same_reduced (left_at list j) (left_at list k)

-- ---- both ways

pub held_by : {a b : Left} {l k : Lattice} → LatticeOf a l → LatticeOf b k → every (is_member (vectors_in l)) (vectors_in k) ≡ held_in a b
unfolding held_in
held_by p q = ap₂ (λ vs ws. every (is_member vs) ws) (lattice-vectors p) (lattice-vectors q)

pub by_lattices : (l k : Lattice) → l.m ≡ k.m → l.d ≡ k.d → (every (is_member (vectors_in l)) (vectors_in k) && every (is_member (vectors_in k)) (vectors_in l)) ≡ same_reduced (left_in l) (left_in k)
unfolding held_in
by_lattices l k m d = by-held (left_in l) (left_in k) m d
