-- What is said of two entries is true, and the first of the five that is; so one of the five always is.
use Rattle.std.specs.Prelude.{◌≡◌, refl, Bool, true, false, [], ◌∷◌, ℕ, ◌≤◌, ◌<◌, ℤ, eqb}
use Rattle.std.proofs.Common.{sym, ap, ◌∙◌, subst, inl, inr, true≢false, arith, eqb-true, eq-eqb}
use Rattle.std.proofs.Math.Decide.{dec_lt}
use Rattle.integers.specs.All.{All}
use Rattle.integers.specs.AllLaws.{all_right}
use Rattle.lattices.specs.Vector.{In}
use Rattle.greedy_reduction.specs.Start.{Coordinates}
use Rattle.catalogue_rules.specs.Catalogue.{Entry}
use Rattle.fold_rules.specs.Fold.{reduced_of, same_lattice}
use Rattle.fold_rules.specs.Meaning.{OneLattice}
use Rattle.fold_rules.proofs.Laws.SameLattice.{Sound, entry-basis, in_all, same-exactly}
use Rattle.separation_rules.specs.Separation.{Separation, same, different_m, different_d, first_outside, second_outside, rank, outside_from, outsides, separation}
use Rattle.separation_rules.specs.Meaning.{Outside, Says, Separates}
use Rattle.separation_rules.proofs.Laws.Outside.{Searched, searched}
use Rattle.separation_rules.proofs.Laws.Deciding.{by_tests, by-holds}

-- ---- none before it is true

-- a vector outside is one of the entry's
outside-not : (e f : Entry) {k : ℕ} {z : ℤ} → Outside e f k z → ¬ All (In f.vectors) e.vectors
outside-not e f o h = o.outside (all_right (In f.vectors) o.before (o.vector ∷ o.after) (subst (All (In f.vectors)) o.split h)).0

at_most : (n k : ℕ) → ¬ (k < n) → n ≤ k
at_most n k h = go (dec_lt k n)
  where
    go : Dec (k < n) → n ≤ k
    go (yes l) = absurd (h l)
    go (no m) = omega arith

-- a true one has rank n or more where those of lower rank are not true
ranked : (e f : Entry) (n : ℕ) → n ≤ 5 → (1 < n → ¬ OneLattice e f) → (2 < n → e.head.m ≡ f.head.m) → (3 < n → e.head.d ≡ f.head.d)
    → (4 < n → All (In f.vectors) e.vectors) → (x : Separation) → Says e f x → n ≤ rank x
ranked e f n h one m d inside same o = at_most n 1 (λ l. one l o)
ranked e f n h one m d inside different_m o = at_most n 2 (λ l. o (m l))
ranked e f n h one m d inside different_d o = at_most n 3 (λ l. o (d l))
ranked e f n h one m d inside (first_outside k z) o = at_most n 4 (λ l. outside-not e f o (inside l))
ranked e f n h one m d inside (second_outside k z) o = h

-- ---- the one that is given

module _ (e f : Entry) (s : Sound e) (t : Sound f) where
  record Given : Type 0 where
    is : Separation
    equal : separation e f ≡ is
    separates : Separates e f is

  not-one : same_lattice e f ≡ false → ¬ OneLattice e f
  not-one p o = true≢false (sym ((same-exactly e f s t).1 o) ∙ p)

  -- one that comes after `same`
  later : (x : Separation) → 1 < rank x → ¬ OneLattice e f → Says e f x → ((y : Separation) → Says e f y → rank x ≤ rank y) → Separates e f x
  later x h apart says first = record { says = says; first = first; one = (λ q. absurd (omega (arith, ap rank q, h)), λ o. absurd (apart o)) }

  -- where the vectors of both are inside the other lattice, both are one
  all-inside : e.head.m ≡ f.head.m → All (In f.vectors) e.vectors → All (In e.vectors) f.vectors → same_lattice e f ≡ true
  all-inside m p q = by-holds e f m (in_all e f s t m f.vectors (entry-basis f t).full q) (in_all f e t s (sym m) e.vectors (entry-basis e s).full p)

  module _ (p : same_lattice e f ≡ false) (q : eqb e.head.m f.head.m ≡ true) (r : eqb e.head.d f.head.d ≡ true) where
    m : e.head.m ≡ f.head.m
    m = eqb-true _ _ q

    d : e.head.d ≡ f.head.d
    d = eqb-true _ _ r

    apart : ¬ OneLattice e f
    apart = not-one p

    -- the search through the second entry
    abbrev rest : Separation
    rest = outside_from second_outside 1 (reduced_of e) f.vectors same

    second-given : outsides e f ≡ rest → All (In f.vectors) e.vectors → Searched f e s second_outside same f.vectors rest → Given
    second-given here inside (inl g) = absurd (true≢false (sym (all-inside m inside g.1) ∙ p))
    second-given here inside (inr g) = record {
      is = second_outside g.position g.square;
      equal = by_tests e f p q r ∙ here ∙ g.is;
      separates = later (second_outside g.position g.square) (omega arith) apart g.outside (ranked e f 5 (omega arith) (λ l. apart) (λ l. m) (λ l. d) (λ l. inside));
    }

    first-given : Searched e f t first_outside rest e.vectors (outsides e f) → Given
    first-given (inl g) = second-given g.0 g.1 (searched f e s second_outside same [] f.vectors 1 refl refl tt (subst (λ n. Coordinates n f.vectors) (sym m) (entry-basis f t).full))
    first-given (inr g) = record {
      is = first_outside g.position g.square;
      equal = by_tests e f p q r ∙ g.is;
      separates = later (first_outside g.position g.square) (omega arith) apart g.outside (ranked e f 4 (omega arith) (λ l. apart) (λ l. m) (λ l. d) (λ l. absurd (omega arith)));
    }

    by_search : Given
    by_search = first-given (searched e f t first_outside rest [] e.vectors 1 refl refl tt (subst (λ n. Coordinates n e.vectors) m (entry-basis e s).full))

  given : Given
  given = go (same_lattice e f) refl (eqb e.head.m f.head.m) refl (eqb e.head.d f.head.d) refl
    where
      go : (a : Bool) → same_lattice e f ≡ a → (b : Bool) → eqb e.head.m f.head.m ≡ b → (c : Bool) → eqb e.head.d f.head.d ≡ c → Given
      go true p b q c r =
          let o = (same-exactly e f s t).0 p in
          record {
            is = same;
            equal = by_tests e f p q r;
            separates = record {
              says = o;
              first = ranked e f 1 (omega arith) (λ l. absurd (omega arith)) (λ l. absurd (omega arith)) (λ l. absurd (omega arith)) (λ l. absurd (omega arith));
              one = (λ x. o, λ x. refl);
            };
          }
      go false p false q c r =
          let apart = not-one p in
          record {
            is = different_m;
            equal = by_tests e f p q r;
            separates = later different_m (omega arith) apart (λ h. true≢false (sym (eq-eqb _ _ h) ∙ q))
                (ranked e f 2 (omega arith) (λ l. apart) (λ l. absurd (omega arith)) (λ l. absurd (omega arith)) (λ l. absurd (omega arith)));
          }
      go false p true q false r =
          let apart = not-one p in
          record {
            is = different_d;
            equal = by_tests e f p q r;
            separates = later different_d (omega arith) apart (λ h. true≢false (sym (eq-eqb _ _ h) ∙ r))
                (ranked e f 3 (omega arith) (λ l. apart) (λ l. eqb-true _ _ q) (λ l. absurd (omega arith)) (λ l. absurd (omega arith)));
          }
      go false p true q true r = by_search p q r

  -- the one given is true, and the first that is
  pub separation-separates : Separates e f (separation e f)
  separation-separates = subst (Separates e f) (sym given.equal) given.separates

  -- so the answer needs no sixth case
  pub one_of_five : (x : Separation) × Says e f x
  one_of_five = (separation e f, separation-separates.says)
