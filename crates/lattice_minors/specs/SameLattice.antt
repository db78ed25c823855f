-- Vectors of a lattice, as many as it has generators: they generate it exactly when a minor that is not zero has the same size in both lists.
use Rattle.std.specs.Prelude.{◌≡◌, refl, ◌≢◌, ◌↔◌, true, List, [], ◌∷◌, map, ℕ, zero, suc, ◌*◌, ◌≤◌, ◌<◌, ℤ, pos, negsuc, nat_abs, ◌*ℤ◌, length, get_or, replicate}
use Rattle.std.proofs.Common.{sym, ap, ◌∙◌, le_antisymm, arith}
use Rattle.std.proofs.lemmas.List.{length-map}
use Rattle.integers.specs.Identity.{by-eq, reads}
use Rattle.integers.specs.Size.{size-mul}
use Rattle.integers.specs.All.{All}
use Rattle.integers.specs.AllLaws.{all_imp, all-places}
use Rattle.integers.specs.ListLaws.{length-⊙}
use Rattle.lattices.specs.Vector.{Vec, dot, comb, ◌⊙◌, In}
use Rattle.lattices.specs.Laws.Vector.{◌≈◌, ≈_sym, ≈_trans, ≈-⊙, ≈-nth, ≈-≡, ≈_of_≡, dot-⊙, comb-⊙, comb-≈}
use Rattle.lattices.specs.Volume.{Index, volume}
use Rattle.lattices.specs.Greedy.{units}
use Rattle.lattices.specs.Answer.{padded}
use Rattle.lattices.specs.Laws.Answer.{padded-≈}
use Rattle.exterior_algebra.specs.Dependence.{Fit}
use Rattle.greedy_reduction.specs.Kept.{wedge-nth}
use Rattle.greedy_reduction.specs.Start.{Coordinates, unit-comb, length-units, units-coordinates}
use Rattle.greedy_reduction.specs.Exactness.{comb-full, coordinates-at}
use Rattle.greedy_reduction.specs.Lattice.{comb-comb, tabled, generators, generated}
use Rattle.lattice_minors.specs.Combinations.{wedge-same, volume-comb}
use Rattle.lattice_minors.specs.Solved.{cofactors, cofactors-count, cramer-solves}

-- zeros behind the coordinates change no minor
pub volume-padded : (n m : ℕ) → m ≤ n → (vs : List Vec) → Coordinates m vs → (s : Index) → volume (map (padded n) vs) s ≡ volume vs s
volume-padded n m h [] c s = refl
volume-padded n m h (v ∷ vs) c s =
    wedge-same (padded n v) (volume vs) (volume (map (padded n) vs)) (volume-padded n m h vs c.1) s ∙ wedge-nth (padded n v) v (≈-nth (padded-≈ n v (omega (arith, c.0)))) (volume vs) s

fit_of : (d : ℕ) (t : List Vec) → Coordinates d t → Fit d t
fit_of d [] h i = omega arith
fit_of d (v ∷ t) h zero = omega (arith, h.0)
fit_of d (v ∷ t) h (suc i) = fit_of d t h.1 i

-- ---- sizes

some_size : (a : ℤ) → a ≢ pos 0 → 0 < nat_abs a
some_size (pos zero) h = absurd (h refl)
some_size (pos (suc n)) h = omega arith
some_size (negsuc n) h = omega arith

one_time : (k b : ℕ) → 0 < b → k * b ≡ b → k ≡ 1
one_time zero b h e = absurd (omega arith)
one_time (suc zero) b h e = refl
one_time (suc (suc k)) (suc b) h e = absurd (omega arith)
one_time (suc (suc k)) zero h e = absurd (omega arith)

times-≤ : (a k b : ℕ) → 0 < a → a ≡ k * b → b ≤ a
times-≤ a zero b h e = absurd (omega arith)
times-≤ a (suc k) b h e = omega arith

one-square : (k : ℤ) → nat_abs k ≡ 1 → k *ℤ k ≡ pos 1
one-square (pos n) e = ap (λ n. pos (n * n)) e
one-square (negsuc n) e = ap (λ n. pos (n * n)) e

-- ---- as many vectors of a lattice as it has generators

-- their minor is a whole multiple of that of the generators, at every choice of coordinates
multiple : (bs cs : List Vec) → length cs ≡ length bs → All (In bs) cs → (s : Index) → (k : ℤ) × (volume cs s ≡ k *ℤ volume bs s)
multiple bs cs n h s =
    let r = tabled bs cs h in (
      volume r.0 (replicate (length bs) true),
      ap (λ l. volume l s) (sym r.2) ∙ volume-comb bs r.0 (sym (length-map r.0 (λ y. comb y bs)) ∙ ap length r.2 ∙ n) s,
    )

-- where a minor that is not zero has the same size, the determinant of the coefficients is 1 or −1, so they can be solved for the generators
pub same-minor : (m : ℕ) (bs cs : List Vec) → Coordinates m bs → Coordinates m cs → 1 ≤ length bs → length cs ≡ length bs → All (In bs) cs
    → (s : Index) → volume bs s ≢ pos 0 → nat_abs (volume cs s) ≡ nat_abs (volume bs s) → All (In cs) bs
same-minor m bs cs fb fc some n h s ok e = go (tabled bs cs h)
  where
    go : (t : List (List ℤ)) × Coordinates (length bs) t × (map (λ y. comb y bs) t ≡ cs) → All (In cs) bs
    go (X, full, is) = all-places (In cs) bs [] (λ k l. record {
      coefficients = M ⊙ D k;
      count = count k;
      gives = ≈-≡ (comb (M ⊙ D k) cs) (get_or bs k []) (comb-full m (M ⊙ D k) cs fc (count k) (omega arith) ∙ sym (coordinates-at m bs fb k l)) (back k l);
    })
      where
        d : ℕ
        d = length bs

        rows : length X ≡ d
        rows = sym (length-map X (λ y. comb y bs)) ∙ ap length is ∙ n

        M : ℤ
        M = volume X (replicate d true)

        unit_at : ℕ → Vec
        unit_at k = get_or (units d) k []

        D : ℕ → List ℤ
        D k = cofactors (replicate d true) X (unit_at k) 0 (length X)

        count : (k : ℕ) → length (M ⊙ D k) ≡ length cs
        count k = length-⊙ M (D k) ∙ cofactors-count (replicate d true) X (unit_at k) 0 (length X) ∙ rows ∙ sym n

        unitary : M *ℤ M ≡ pos 1
        unitary = one-square M (one_time (nat_abs M) (nat_abs (volume bs s)) (some_size (volume bs s) ok)
            (sym (size-mul M (volume bs s)) ∙ ap nat_abs (sym (ap (λ l. volume l s) (sym is) ∙ volume-comb bs X rows s)) ∙ e))

        nonzero : M ≢ pos 0
        nonzero z = absurd (omega (arith, ap nat_abs (sym unitary ∙ ap (λ z. z *ℤ z) z)))

        back : (k : ℕ) → k < length bs → comb (M ⊙ D k) cs ≈ get_or bs k []
        back k l = ≈_trans (≈_of_≡ (ap (comb (M ⊙ D k)) (sym is))) (≈_trans (≈_sym (comb-comb (M ⊙ D k) X bs)) (≈_trans (comb-≈ bs unit-is) (unit-comb bs k l)))
          where
            unit-is : comb (M ⊙ D k) X ≈ unit_at k
            unit-is = ≈_trans (comb-⊙ M (D k) X)
                (≈_trans
                (≈-⊙ M (≈_sym (cramer-solves d X (fit_of d X full) rows nonzero (unit_at k) (omega (arith, coordinates-at d (units d) (units-coordinates d) k (omega (arith, length-units d)))))))
                (record { on = λ w. dot-⊙ M (M ⊙ unit_at k) w ∙ ap (λ z. M *ℤ z) (dot-⊙ M (unit_at k) w) ∙ once M (dot (unit_at k) w) unitary }))
              where
                once : (a z : ℤ) → a *ℤ a ≡ pos 1 → a *ℤ (a *ℤ z) ≡ z
                once a z e = by-eq (a ∷ z ∷ []) z e (search reads depth 20) (search reads depth 20) tt

-- two lists of as many vectors generate one lattice exactly when the lattice of the first holds the vectors of the second and a minor of the
-- first that is not zero has the same size in the second: one containment and one minor in the place of two containments
pub one-exactly : (m : ℕ) (bs cs : List Vec) → Coordinates m bs → Coordinates m cs → 1 ≤ length bs → length cs ≡ length bs → (s : Index) → volume bs s ≢ pos 0
    → ((v : Vec) → In bs v ↔ In cs v) ↔ (All (In bs) cs × (nat_abs (volume cs s) ≡ nat_abs (volume bs s)))
one-exactly m bs cs fb fc one n s ok = (
  λ f. (
    all_imp (λ v. (f v).1) cs (generators m cs fc),
    sizes (multiple bs cs n (all_imp (λ v. (f v).1) cs (generators m cs fc)) s) (multiple cs bs (sym n) (all_imp (λ v. (f v).0) bs (generators m bs fb)) s),
  ),
  λ g v. (
    generated m cs bs fc (omega arith) one (same-minor m bs cs fb fc one n g.0 s ok g.1) v,
    generated m bs cs fb one (omega arith) g.0 v,
  ),
)
  where
    sizes : (k : ℤ) × (volume cs s ≡ k *ℤ volume bs s) → (j : ℤ) × (volume bs s ≡ j *ℤ volume cs s) → nat_abs (volume cs s) ≡ nat_abs (volume bs s)
    sizes (k, e) (j, f) = le_antisymm down (times-≤ (nat_abs (volume cs s)) (nat_abs k) (nat_abs (volume bs s)) (positive (nat_abs (volume cs s)) refl) (ap nat_abs e ∙ size-mul k (volume bs s)))
      where
        down : nat_abs (volume cs s) ≤ nat_abs (volume bs s)
        down = times-≤ (nat_abs (volume bs s)) (nat_abs j) (nat_abs (volume cs s)) (some_size (volume bs s) ok) (ap nat_abs f ∙ size-mul j (volume cs s))

        positive : (c : ℕ) → nat_abs (volume cs s) ≡ c → 0 < c
        positive zero g = absurd (omega (arith, some_size (volume bs s) ok, ap nat_abs f ∙ size-mul j (volume cs s) ∙ ap (λ c. nat_abs j * c) g))
        positive (suc c) g = omega arith
