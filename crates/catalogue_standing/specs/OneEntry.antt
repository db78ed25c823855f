-- The standing entry of one entry, as the code finds it without those of the others: no entry is tested twice, and none is reduced but that one.
use Rattle.std.specs.Prelude.{◌≡◌, refl, ◌↔◌, Bool, true, false, not, cond, ◌&&◌, List, ◌∷◌, ◌++◌, map, ℕ, suc, ◌≤◌, ◌<◌, nat_abs, length, get_or, take, drop}
use Rattle.std.proofs.Common.{sym, ap, ap₂, ◌∙◌, subst, le_of_lt, arith, take-append-drop, drop-cons, get_or-take, length-take-le, eqb-true, eq-eqb}
use Rattle.std.proofs.Math.Bool.{beq}
use Rattle.std.proofs.Math.Decide.{dec_lt}
use Rattle.integers.specs.Every.{every}
use Rattle.integers.specs.All.{All}
use Rattle.integers.specs.AllLaws.{all-at, all_imp}
use Rattle.integers.specs.Tests.{both}
use Rattle.lattices.specs.Vector.{Vec, In}
use Rattle.lattices.specs.Volume.{Index, volume}
use Rattle.lattices.specs.Answer.{padded}
use Rattle.lattices.specs.Refusal.{most_coordinates}
use Rattle.lattices.specs.Laws.Refusal.{one-to}
use Rattle.successive_minima.specs.Member.{is_member}
use Rattle.greedy_reduction.specs.Start.{Coordinates}
use Rattle.lattice_minors.specs.SameLattice.{volume-padded, one-exactly}
use Rattle.lattice_membership.specs.declared.Lattice.{Lattice}
use Rattle.lattice_membership.specs.Known.{Known, vectors_in, same_size}
use Rattle.catalogue_rules.specs.Catalogue.{Entry}
use Rattle.catalogue_rules.specs.Form.{WellFormed}
use Rattle.fold_rules.specs.Fold.{reduced_of, holds, same_lattice, first_entry, first_by}
use Rattle.fold_rules.proofs.Laws.SameLattice.{Sound, sound-entries, entry-basis, entry-lattice, entry-count, entry-full, all_in, holds-exactly, one_refl, one-lattice}
use Rattle.fold_rules.proofs.Laws.Deciding.{same_test}
use Rattle.fold_rules.proofs.Laws.Adding.{first-new}
use Rattle.fold_rules.proofs.Laws.Searching.{first_found, first-none}
use Rattle.catalogue_standing.specs.ReducedEntry.{reduced_entry, basis-are, held-vectors}
use Rattle.catalogue_standing.specs.SameLattice.{LatticeOf, lattice-vectors}
use Rattle.catalogue_standing.specs.Places.{First}
use Rattle.catalogue_standing.specs.Standing.{StandsAt, checked-stands, first-stands}

-- ---- one containment and one minor

-- a lattice holds the vectors, and at the choice s their minor has the size of its own
abbrev pub generates_at : Lattice → Index → List Vec → Bool
generates_at l s vs = every (is_member (vectors_in l)) vs && same_size (volume vs s) l.minor

module _ (f e : Entry) (t : Sound f) (s : Sound e) (m : f.head.m ≡ e.head.m) (d : f.head.d ≡ e.head.d) {l : Lattice} (p : LatticeOf (reduced_entry e) l) (k : Known l) where
  -- the vectors of f as they were entered
  abbrev vs : List Vec
  vs = map (padded most_coordinates) f.vectors

  full : Coordinates f.head.m f.vectors
  full = (entry-basis f t).full

  few : f.head.m ≤ most_coordinates
  few = (one-to most_coordinates f.head.m t.fits.head.m).1

  entered : every (is_member (vectors_in l)) vs ≡ holds e f
  entered = ap (λ bs. every (is_member bs) vs) (lattice-vectors p) ∙ held-vectors e s f.head.m m f.vectors full

  minor-entered : volume vs k.index ≡ volume f.vectors k.index
  minor-entered = volume-padded most_coordinates f.head.m few f.vectors full k.index

  minor-reduced : l.minor ≡ volume (reduced_of e) k.index
  minor-reduced =
      k.at-index ∙ ap (λ bs. volume bs k.index) (lattice-vectors p ∙ basis-are e s)
      ∙ volume-padded most_coordinates e.head.m (omega (arith, few)) (reduced_of e) (entry-full e s) k.index

  count : length f.vectors ≡ length (reduced_of e)
  count = t.fits.count ∙ d ∙ sym (entry-count e s ∙ s.fits.count)

  exactly : ((v : Vec) → In (reduced_of e) v ↔ In f.vectors v)
      ↔ (All (In (reduced_of e)) f.vectors × (nat_abs (volume f.vectors k.index) ≡ nat_abs (volume (reduced_of e) k.index)))
  exactly = one-exactly e.head.m (reduced_of e) f.vectors (entry-full e s) (subst (λ n. Coordinates n f.vectors) m full)
      (omega (arith, (entry-basis e s).some, entry-count e s)) count k.index (λ z. k.nonzero (minor-reduced ∙ z))

  to : generates_at l k.index vs ≡ true → same_lattice f e ≡ true
  to h =
      let b = both (every (is_member (vectors_in l)) vs) (same_size (volume vs k.index) l.minor) h in
      let inside = all_imp (λ v. (entry-lattice e s v).0) f.vectors (all_in e f s t (sym m) f.vectors full (sym entered ∙ b.0)) in
      let sizes = ap nat_abs (sym minor-entered) ∙ eqb-true (nat_abs (volume vs k.index)) (nat_abs l.minor) b.1 ∙ ap nat_abs minor-reduced in
      let one = exactly.1 (inside, sizes) in
      (one-lattice.exactly f e t s).1 (record { m = m; lattice = λ v. (λ i. (entry-lattice e s v).1 ((one v).1 i), λ i. (one v).0 ((entry-lattice e s v).0 i)) })

  from : same_lattice f e ≡ true → generates_at l k.index vs ≡ true
  from h =
      let o = (one-lattice.exactly f e t s).0 h in
      let one = exactly.0 (λ v. (λ i. (o.lattice v).1 ((entry-lattice e s v).1 i), λ i. (entry-lattice e s v).0 ((o.lattice v).0 i))) in
      ap₂ ◌&&◌ (entered ∙ (holds-exactly e f s t (sym m)).1 (λ v. (o.lattice v).0)) (eq-eqb _ _ (ap nat_abs minor-entered ∙ one.1 ∙ sym (ap nat_abs minor-reduced)))

  -- so no second reduction is needed
  pub entered_generates : generates_at l k.index vs ≡ same_lattice f e
  entered_generates = same_test (generates_at l k.index vs) (same_lattice f e) to from

-- ---- the standing entry of one

-- f is of the lattice of e, and a draft or none
abbrev pub marked_of : Bool → Entry → Entry → Bool
marked_of draft e f = cond draft f.draft (not f.draft) && same_lattice f e

-- as the code tests it
by-mark : (b draft s : Bool) → (cond draft b (not b) && s) ≡ (beq b draft && s)
by-mark true true s = refl
by-mark true false s = refl
by-mark false true s = refl
by-mark false false s = refl

pub marked-test : (draft : Bool) (e f : Entry) {b : Bool} → beq f.draft draft ≡ b → marked_of draft e f ≡ (b && same_lattice f e)
marked-test draft e f h = by-mark f.draft draft (same_lattice f e) ∙ ap (λ b. b && same_lattice f e) h

-- how many entries are looked at for one that is no draft
abbrev pub searched : Bool → ℕ → ℕ → ℕ
searched draft k count = cond draft count k

alike-good : (e f : Entry) → marked_of false e f ≡ (same_lattice f e && not f.draft)
alike-good e f = go f.draft (same_lattice f e)
  where
    go : (d s : Bool) → (not d && s) ≡ (s && not d)
    go true true = refl
    go true false = refl
    go false true = refl
    go false false = refl

-- where all of the lattice are drafts, the tests agree
alike-draft : (e f : Entry) → (same_lattice f e && not f.draft) ≡ false → marked_of true e f ≡ same_lattice f e
alike-draft e f = go f.draft (same_lattice f e)
  where
    go : (d s : Bool) → (s && not d) ≡ false → (d && s) ≡ s
    go true s h = refl
    go false true h = sym h
    go false false h = refl

module _ (es : List Entry) (o : Entry) (w : WellFormed es) (k : ℕ) (h : k < length es) where
  abbrev at : ℕ → Entry
  at j = get_or es j o

  abbrev e : Entry
  e = at k

  sound : Sound e
  sound = all-at Sound es o (sound-entries es w) k h

  -- found among all, or among those before an entry that is no draft
  pub alike-checked : {r : ℕ} → First (λ j. marked_of false e (at j)) (length es) r → r < length es → StandsAt es o k r
  alike-checked {r} p l = checked-stands es o w k h l (λ j m. sym (alike-good e (at j)) ∙ p.before j m) (sym (alike-good e (at r)) ∙ p.here l)

  pub alike-before : e.draft ≡ false → {r : ℕ} → First (λ j. marked_of false e (at j)) k r → StandsAt es o k r
  alike-before plain {r} p = checked-stands es o w k h (omega (arith, p.within)) (λ j m. sym (alike-good e (at j)) ∙ p.before j m) (go (dec_lt r k))
    where
      go : Dec (r < k) → (same_lattice (at r) e && not (at r).draft) ≡ true
      go (yes l) = sym (alike-good e (at r)) ∙ p.here l
      go (no n) =
          let q : r ≡ k = omega (arith, p.within) in
          ap (λ i. same_lattice (at i) e && not (at i).draft) q ∙ ap₂ (λ s d. s && not d) ((one-lattice.exactly e e sound sound).1 (one_refl e)) plain

  -- found among the drafts before it, where none of the lattice is checked
  module _ {n : ℕ} (none : First (λ j. marked_of false e (at j)) (length es) n) (past_end : length es ≤ n) where
    drafts : (j : ℕ) → j < length es → (same_lattice (at j) e && not (at j).draft) ≡ false
    drafts j l = sym (alike-good e (at j)) ∙ none.before j (omega arith)

    abbrev past : List Entry
    past = take k es

    split : past ++ (e ∷ drop (suc k) es) ≡ es
    split = ap (λ l. past ++ l) (sym (drop-cons es k o h)) ∙ take-append-drop k es

    past-long : length past ≡ k
    past-long = length-take-le k es (le_of_lt h)

    first-before : first_by same_lattice es e ≡ first_entry (λ f. same_lattice f e) e past
    first-before = ap (λ l. first_by same_lattice l e) (sym split) ∙ first-new one-lattice past e (drop (suc k) es) sound

    here : (j : ℕ) → j < k → same_lattice (get_or past j o) e ≡ marked_of true e (at j)
    here j l = ap (λ f. same_lattice f e) (get_or-take k es j o l) ∙ sym (alike-draft e (at j) (drafts j (omega arith)))

    first-at : {r : ℕ} → First (λ j. marked_of true e (at j)) k r → at r ≡ first_by same_lattice es e
    first-at {r} p = go (dec_lt r k)
      where
        go : Dec (r < k) → at r ≡ first_by same_lattice es e
        go (yes l) = sym (first-before
            ∙ first_found (λ f. same_lattice f e) e o past r (omega (arith, past-long)) (λ j m. here j (omega arith) ∙ p.before j m) (here r l ∙ p.here l)
            ∙ get_or-take k es r o l)
        go (no n) =
            let q : r ≡ k = omega (arith, p.within) in
            ap at q ∙ sym (first-before ∙ first-none (λ f. same_lattice f e) e o past (λ j m. here j (omega (arith, past-long)) ∙ p.before j (omega (arith, past-long))))

    pub alike-drafts : {r : ℕ} → First (λ j. marked_of true e (at j)) k r → StandsAt es o k r
    alike-drafts p = first-stands es o w k h (omega (arith, p.within)) drafts (first-at p)
