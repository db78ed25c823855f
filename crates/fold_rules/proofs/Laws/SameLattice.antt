-- The test for one lattice is exact: for entries of accepted catalogues it says yes exactly when m is the same and the same vectors are in both lattices.
use Rattle.std.specs.Prelude.{◌≡◌, refl, ◌↔◌, Bool, true, false, List, [], ◌∷◌, eqb, length}
use Rattle.std.proofs.Common.{sym, ap, ◌∙◌, subst}
use Rattle.std.proofs.Math.Path.{ap₂}
use Rattle.std.proofs.Math.Bool.{◌&&◌}
use borrow.Author.Tests.{eqb-true, eq-eqb}
use Rattle.integers.specs.All.{All}
use Rattle.integers.specs.AllLaws.{all_imp, all_both}
use Rattle.integers.specs.Tests.{both}
use Rattle.lattices.specs.Vector.{Vec, In}
use Rattle.lattices.specs.Refusal.{basis, vectors_of}
use Rattle.successive_minima.specs.Reduced.{Reduced}
use Rattle.successive_minima.specs.Member.{is_member}
use Rattle.greedy_reduction.specs.Start.{Coordinates}
use Rattle.greedy_reduction.specs.Lattice.{generators, generated, reduced-count, reduced-full, reduction-lattice, reduction-reduced}
use Rattle.greedy_reduction.specs.Accepted.{accepted}
use Rattle.greedy_reduction.specs.Sizes.{Basis}
use Rattle.greedy_reduction.specs.Membership.{member-exactly}
use Rattle.greedy_reduction.specs.Promise.{basis-of}
use Rattle.catalogue_rules.specs.Catalogue.{Entry, coordinates, input_of}
use Rattle.catalogue_rules.specs.Form.{EntryFits, EntryIndependent, WellFormed}
use Rattle.catalogue_rules.proofs.Laws.EntriesAccepted.{vectors-back, is-basis}
use Rattle.fold_rules.specs.Fold.{reduced_of, holds, same_lattice}
use Rattle.integers.specs.Every.{every}
use Rattle.fold_rules.specs.Meaning.{OneLattice}
use Rattle.fold_rules.proofs.Laws.Standing.{Decides}

-- ---- entries of an accepted catalogue

-- what reading has checked of an entry by itself
pub record Sound (e : Entry) : Type 0 where
  pub fits : EntryFits e
  pub independent : EntryIndependent e

pub sound-entries : (es : List Entry) → WellFormed es → All Sound es
sound-entries es w = all_imp (λ e p. record { fits = p.0; independent = p.1 }) es (all_both EntryFits EntryIndependent es w.entered.fits w.independent)

-- its numbers, cut into vectors again
pub entry-vectors : (e : Entry) → Sound e → basis (input_of e) ≡ e.vectors
entry-vectors e s =
    let m = e.head.m in
    let vs = e.vectors in
    ap (λ d. vectors_of d m (coordinates vs)) (sym s.fits.count) ∙ vectors-back m vs s.fits.vectors

-- what the theorems about reductions ask of a list
pub entry-basis : (e : Entry) → Sound e → Basis e.head.m e.vectors
entry-basis e s = subst (Basis e.head.m) (entry-vectors e s) (basis-of (input_of e) (accepted (input_of e) (is-basis e s.fits s.independent)))

-- ---- a vector in the lattice of an entry

module _ (e : Entry) (s : Sound e) where
  B : Basis e.head.m e.vectors
  B = entry-basis e s

  pub entry-lattice : (v : Vec) → In e.vectors v ↔ In (reduced_of e) v
  entry-lattice v = reduction-lattice e.head.m e.vectors B.full B.some v

  pub entry-reduced : Reduced (reduced_of e)
  entry-reduced = reduction-reduced e.head.m e.vectors B.full B.some B.four B.volume

  pub entry-count : length (reduced_of e) ≡ length e.vectors
  entry-count = reduced-count e.head.m e.vectors B.full B.some

  pub entry-full : Coordinates e.head.m (reduced_of e)
  entry-full = reduced-full e.head.m e.vectors B.full B.some

-- ---- one lattice

pub one_refl : (e : Entry) → OneLattice e e
one_refl e = record { m = refl; lattice = λ v. (λ h. h, λ h. h) }

pub one_sym : {e f : Entry} → OneLattice e f → OneLattice f e
one_sym o = record { m = sym o.m; lattice = λ v. ((o.lattice v).1, (o.lattice v).0) }

pub one_trans : {e f g : Entry} → OneLattice e f → OneLattice f g → OneLattice e g
one_trans o p = record { m = o.m ∙ p.m; lattice = λ v. (λ h. (p.lattice v).0 ((o.lattice v).0 h), λ h. (o.lattice v).1 ((p.lattice v).1 h)) }

module _ (e f : Entry) (s : Sound e) (t : Sound f) (same : e.head.m ≡ f.head.m) where
  -- a list whose vectors have as many coordinates as those of e
  pub all_in : (vs : List Vec) → Coordinates f.head.m vs → every (is_member (reduced_of e)) vs ≡ true → All (In e.vectors) vs
  all_in [] c h = tt
  all_in (v ∷ vs) c h =
      let p = both (is_member (reduced_of e) v) (every (is_member (reduced_of e)) vs) h in
      ((member-exactly e.head.m e.vectors (entry-basis e s) v (c.0 ∙ sym same)).0 p.0, all_in vs c.1 p.1)

  pub in_all : (vs : List Vec) → Coordinates f.head.m vs → All (In e.vectors) vs → every (is_member (reduced_of e)) vs ≡ true
  in_all [] c h = refl
  in_all (v ∷ vs) c h = ap₂ ◌&&◌ ((member-exactly e.head.m e.vectors (entry-basis e s) v (c.0 ∙ sym same)).1 h.0) (in_all vs c.1 h.1)

  pub holds-exactly : (holds e f ≡ true) ↔ ((v : Vec) → In f.vectors v → In e.vectors v)
  holds-exactly =
      let B = entry-basis e s in
      let C = entry-basis f t in (
        λ h v i. generated e.head.m e.vectors f.vectors B.full B.some C.some (all_in f.vectors C.full h) v i,
        λ h. in_all f.vectors C.full (all_imp h f.vectors (generators f.head.m f.vectors C.full)),
      )

module _ (e f : Entry) (s : Sound e) (t : Sound f) where
  -- the test says yes exactly when both generate one lattice, with the same m
  pub same-exactly : (same_lattice e f ≡ true) ↔ OneLattice e f
  unfolding same_lattice
  same-exactly = (
    λ h. (let a = both (eqb e.head.m f.head.m) (holds e f && holds f e) h in
        let b = both (holds e f) (holds f e) a.1 in
        let m = eqb-true e.head.m f.head.m a.0 in
        record { m = m; lattice = λ v. ((holds-exactly f e t s (sym m)).0 b.1 v, (holds-exactly e f s t m).0 b.0 v) }),
    λ o. ap₂ ◌&&◌ (eq-eqb _ _ o.m) (ap₂ ◌&&◌ ((holds-exactly e f s t o.m).1 (λ v. (o.lattice v).1)) ((holds-exactly f e t s (sym o.m)).1 (λ v. (o.lattice v).0))),
  )

  pub same_not : ¬ OneLattice e f → same_lattice e f ≡ false
  same_not h = go (same_lattice e f) refl
    where
      go : (b : Bool) → same_lattice e f ≡ b → b ≡ false
      go true q = absurd (h (same-exactly.0 q))
      go false q = refl

-- so all that is proved of a test that decides an equivalence holds of it
pub one-lattice : Decides same_lattice OneLattice Sound
one-lattice = record { one_refl = one_refl; one_sym = one_sym; one_trans = one_trans; exactly = same-exactly }
