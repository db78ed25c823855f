-- How one lattice may be decided from the engine's answers: entries with different m, d or squared lengths of reduced vectors differ, and for
-- the others the reduced vectors are tested; filled up with zeros the test is the same (`member-padded` of greedy_reduction/specs/Membership.antt).
use Rattle.std.specs.Prelude.{◌≡◌, refl, ◌≢◌, Bool, true, false, map, ◌≤◌, length, take}
use Rattle.std.proofs.Common.{sym, ap, ◌∙◌, arith}
use Rattle.integers.specs.All.{All}
use Rattle.integers.specs.AllLaws.{all_imp}
use Rattle.lattices.specs.Vector.{Vec, N, In}
use Rattle.lattices.specs.Greedy.{reduction}
use Rattle.lattices.specs.Refusal.{most_vectors, most_coordinates}
use Rattle.lattices.specs.Laws.Refusal.{one-to}
use Rattle.lattices.specs.Laws.Answer.{table-rows}
use Rattle.lattices.specs.Answer.{padded, table, reduction_given, reduction_of}
use Rattle.successive_minima.specs.Member.{is_member}
use Rattle.successive_minima.specs.Laws.Invariants.{same_count, same-lengths}
use Rattle.greedy_reduction.specs.Moves.{row-squares}
use Rattle.greedy_reduction.specs.Lattice.{generators, generated}
use Rattle.greedy_reduction.specs.Membership.{member-padded}
use Rattle.greedy_reduction.specs.Demand.{accepted-reduction}
use Rattle.catalogue_rules.specs.Catalogue.{Entry, input_of}
use Rattle.catalogue_rules.proofs.Laws.EntriesAccepted.{is-basis}
use Rattle.fold_rules.specs.Fold.{reduced_of, holds, same_lattice}
use Rattle.integers.specs.Every.{every}
use Rattle.fold_rules.specs.Meaning.{OneLattice}
use Rattle.fold_rules.proofs.Laws.SameLattice.{Sound, entry-vectors, entry-basis, entry-lattice, entry-reduced, entry-count, entry-full, one_sym, same_not, holds-exactly, all_in, in_all}

-- the answer of the engine for an entry
pub entry-reduction : (e : Entry) → Sound e → reduction_of (input_of e) ≡ reduction_given (reduction e.vectors)
entry-reduction e s = accepted-reduction (input_of e) (is-basis e s.fits s.independent) ∙ ap (λ vs. reduction_given (reduction vs)) (entry-vectors e s)

-- its rows are the reduced vectors, and its squares their squared lengths, filled up with zeros
pub entry-rows : (e : Entry) → Sound e → take e.head.d (reduction_of (input_of e)).basis ≡ map (padded most_coordinates) (reduced_of e)
entry-rows e s =
    let count : length (reduced_of e) ≡ e.head.d = entry-count e s ∙ s.fits.count in
    ap (λ r. take e.head.d r.basis) (entry-reduction e s)
    ∙ ap (λ d. take d (table most_vectors most_coordinates (reduced_of e))) (sym count)
    ∙ table-rows most_vectors most_coordinates (reduced_of e) (omega (arith, entry-count e s, (entry-basis e s).four))

pub entry-squares : (e : Entry) → Sound e → (reduction_of (input_of e)).squares ≡ padded most_vectors (map N (reduced_of e))
entry-squares e s = ap (λ r. r.squares) (entry-reduction e s) ∙ ap (padded most_vectors) (row-squares (reduction e.vectors).rows)

-- a vector tested on those rows
pub entry-member : (e : Entry) → Sound e → (v : Vec) → length v ≡ e.head.m
    → is_member (take e.head.d (reduction_of (input_of e)).basis) (padded most_coordinates v) ≡ is_member (reduced_of e) v
entry-member e s v places =
    let m = one-to most_coordinates e.head.m s.fits.head.m in
    ap (λ l. is_member l (padded most_coordinates v)) (entry-rows e s) ∙ member-padded most_coordinates e.head.m m.1 (reduced_of e) (entry-full e s) v places

-- ---- what tells two lattices apart
module _ (e f : Entry) (s : Sound e) (t : Sound f) where
  reduced_in : OneLattice e f → All (In (reduced_of e)) (reduced_of f)
  reduced_in o = all_imp (λ v i. (entry-lattice e s v).0 ((o.lattice v).1 ((entry-lattice f t v).1 i))) (reduced_of f) (generators f.head.m (reduced_of f) (entry-full f t))

  four : length (reduced_of e) ≤ 4
  four = omega (arith, entry-count e s, (entry-basis e s).four)

module _ (e f : Entry) (s : Sound e) (t : Sound f) where
  pub one-d : OneLattice e f → e.head.d ≡ f.head.d
  one-d o = sym s.fits.count ∙ sym (entry-count e s)
      ∙ same_count (reduced_of e) (reduced_of f) (entry-reduced e s) (entry-reduced f t) (four e f s t) (four f e t s) (reduced_in e f s t o) (reduced_in f e t s (one_sym o))
      ∙ entry-count f t ∙ t.fits.count

  pub one-squares : OneLattice e f → map N (reduced_of e) ≡ map N (reduced_of f)
  one-squares o = same-lengths (reduced_of e) (reduced_of f) (entry-reduced e s) (entry-reduced f t) (four e f s t) (four f e t s) (reduced_in e f s t o) (reduced_in f e t s (one_sym o))

  pub different-m : e.head.m ≢ f.head.m → same_lattice e f ≡ false
  different-m h = same_not e f s t (λ o. h o.m)

  pub different-d : e.head.d ≢ f.head.d → same_lattice e f ≡ false
  different-d h = same_not e f s t (λ o. h (one-d o))

  pub different_squares : map N (reduced_of e) ≢ map N (reduced_of f) → same_lattice e f ≡ false
  different_squares h = same_not e f s t (λ o. h (one-squares o))

  -- as the engine answers them
  pub different_answers : (reduction_of (input_of e)).squares ≢ (reduction_of (input_of f)).squares → same_lattice e f ≡ false
  different_answers h = different_squares (λ q. h (entry-squares e s ∙ ap (padded most_vectors) q ∙ sym (entry-squares f t)))

-- ---- the tests of vectors

pub same_test : (a b : Bool) → (a ≡ true → b ≡ true) → (b ≡ true → a ≡ true) → a ≡ b
same_test true true f g = refl
same_test true false f g = sym (f refl)
same_test false true f g = g refl
same_test false false f g = refl

-- the reduced vectors instead of those entered
pub holds-reduced : (e f : Entry) → Sound e → Sound f → e.head.m ≡ f.head.m → every (is_member (reduced_of e)) (reduced_of f) ≡ holds e f
holds-reduced e f s t same =
    let B = entry-basis e s in
    let C = entry-basis f t in
    same_test (every (is_member (reduced_of e)) (reduced_of f)) (holds e f)
    (λ h. (holds-exactly e f s t same).1 (λ v i. generated e.head.m e.vectors (reduced_of f) B.full B.some (omega (arith, entry-count f t, C.some))
    (all_in e f s t same (reduced_of f) (entry-full f t) h) v ((entry-lattice f t v).0 i)))
    (λ h. in_all e f s t same (reduced_of f) (entry-full f t)
    (all_imp (λ v i. (holds-exactly e f s t same).0 h v ((entry-lattice f t v).1 i)) (reduced_of f) (generators f.head.m (reduced_of f) (entry-full f t))))
