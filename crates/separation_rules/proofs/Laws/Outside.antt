-- The search through the vectors of an entry: all are inside the other lattice, or the first outside is told.
use Rattle.std.specs.Prelude.{◌≡◌, refl, ◌⊎◌, Bool, true, false, List, [], ◌∷◌, ◌++◌, ℕ, suc, ◌≤◌, ℤ, length, ◌≤ℤ◌}
use Rattle.std.proofs.Common.{sym, ap, ◌∙◌, subst, inl, inr, ⊎_elim, true≢false, arith, length-append}
use Rattle.integers.specs.All.{All}
use Rattle.integers.specs.AllLaws.{all_snoc}
use Rattle.lattices.specs.Vector.{Vec, comb, distance, In}
use Rattle.lattices.specs.Nearest.{nearest}
use Rattle.successive_minima.specs.Member.{squared_to, is_member}
use Rattle.successive_minima.specs.Laws.NearestLaws.{nearest-least, nearest-count}
use Rattle.greedy_reduction.specs.Start.{Coordinates}
use Rattle.greedy_reduction.specs.Output.{least-N}
use Rattle.greedy_reduction.specs.Membership.{member-exactly}
use Rattle.catalogue_rules.specs.Catalogue.{Entry}
use Rattle.fold_rules.specs.Fold.{reduced_of}
use Rattle.fold_rules.proofs.Laws.SameLattice.{Sound, entry-basis, entry-lattice, entry-reduced, entry-count}
use Rattle.separation_rules.specs.Separation.{Separation, outside_from}
use Rattle.separation_rules.specs.Meaning.{Outside}

-- ---- vector by vector

module _ (tell : ℕ → ℤ → Separation) (n : ℕ) (bs : List Vec) (v : Vec) (vs : List Vec) (other : Separation) where
  pub outside-here : is_member bs v ≡ false → outside_from tell n bs (v ∷ vs) other ≡ tell n (squared_to bs v)
  outside-here q = ap (λ b. elim b as (λ b. Separation) [ false ↦ tell n (squared_to bs v) | true ↦ outside_from tell (suc n) bs vs other ]) q

  pub outside-next : is_member bs v ≡ true → outside_from tell n bs (v ∷ vs) other ≡ outside_from tell (suc n) bs vs other
  outside-next q = ap (λ b. elim b as (λ b. Separation) [ false ↦ tell n (squared_to bs v) | true ↦ outside_from tell (suc n) bs vs other ]) q

-- ---- the squared distance of a vector to the lattice of an entry

module _ (f : Entry) (t : Sound f) (v : Vec) where
  -- the nearest vector is in the lattice
  pub nearest_in : In f.vectors (comb (nearest (reduced_of f) v) (reduced_of f))
  nearest_in = (entry-lattice f t (comb (nearest (reduced_of f) v) (reduced_of f))).1 (record { coefficients = nearest (reduced_of f) v; count = nearest-count (reduced_of f) v; gives = refl })

  -- and none is nearer
  pub none_nearer : (w : Vec) → In f.vectors w → squared_to (reduced_of f) v ≤ℤ distance v w
  none_nearer w i =
      let g = (entry-lattice f t w).0 i in
      let four : length (reduced_of f) ≤ 4 = omega (arith, entry-count f t, (entry-basis f t).four) in
      subst (λ w. squared_to (reduced_of f) v ≤ℤ distance v w) g.gives (least-N (nearest-least (reduced_of f) (entry-reduced f t) four v) g.coefficients g.count)

-- ---- the first outside

module _ (e f : Entry) (t : Sound f) (tell : ℕ → ℤ → Separation) (other : Separation) where
  -- what a search gives: `other`, where all vectors are inside; or what is told of the first outside
  pub record Told (given : Separation) : Type 0 where
    pub position : ℕ
    pub square : ℤ
    pub is : given ≡ tell position square
    pub outside : Outside e f position square

  abbrev pub Searched : List Vec → Separation → Type 0
  Searched vs given = ((given ≡ other) × All (In f.vectors) vs) ⊎ Told given

  -- from the vectors behind those that are known to be inside
  pub searched : (before vs : List Vec) (n : ℕ) → e.vectors ≡ before ++ vs → n ≡ suc (length before) → All (In f.vectors) before → Coordinates f.head.m vs
      → Searched vs (outside_from tell n (reduced_of f) vs other)
  searched before [] n split counted inside c = inl (refl, tt)
  searched before (v ∷ vs) n split counted inside c =
      go (is_member (reduced_of f) v) refl
      (λ i. searched (before ++ (v ∷ [])) vs (suc n) (split ∙ joined before) (omega (arith, length-append before (v ∷ []))) (all_snoc (In f.vectors) before v inside i) c.1)
    where
      exactly : (is_member (reduced_of f) v ≡ true → In f.vectors v) × (In f.vectors v → is_member (reduced_of f) v ≡ true)
      exactly = member-exactly f.head.m f.vectors (entry-basis f t) v c.0

      joined : (l : List Vec) → l ++ (v ∷ vs) ≡ (l ++ (v ∷ [])) ++ vs
      joined [] = refl
      joined (w ∷ l) = ap (λ k. w ∷ k) (joined l)

      go : (b : Bool) → is_member (reduced_of f) v ≡ b → (In f.vectors v → Searched vs (outside_from tell (suc n) (reduced_of f) vs other))
          → Searched (v ∷ vs) (outside_from tell n (reduced_of f) (v ∷ vs) other)
      go true q more =
          let i = exactly.0 q in
          let next = outside-next tell n (reduced_of f) v vs other q in
          ⊎_elim (λ p. inl (next ∙ p.0, (i, p.1))) (λ p. inr (record { position = p.position; square = p.square; is = next ∙ p.is; outside = p.outside })) (more i)
      go false q more = inr (record {
        position = n;
        square = squared_to (reduced_of f) v;
        is = outside-here tell n (reduced_of f) v vs other q;
        outside = record {
          before = before;
          vector = v;
          after = vs;
          split = split;
          counted = counted;
          inside = inside;
          outside = λ i. true≢false (sym (exactly.1 i) ∙ q);
          nearest = comb (nearest (reduced_of f) v) (reduced_of f);
          member = nearest_in f t v;
          reached = refl;
          least = none_nearer f t v;
        };
      })
