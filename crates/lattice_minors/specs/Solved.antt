-- Cramer's rule solves: d vectors of d coordinates with a determinant M that is not zero give M times every vector, with the cofactors as coefficients.
use Rattle.std.specs.Prelude.{◌≡◌, refl, ◌≢◌, true, List, [], ◌∷◌, ℕ, zero, suc, ◌+◌, ◌≤◌, ◌<◌, ℤ, negsuc, ◌+ℤ◌, ◌-ℤ◌, ◌*ℤ◌, replicate, ◌<ℤ◌}
use Rattle.std.proofs.Math.Path.{sym, ap, subst}
use Rattle.std.proofs.Common.{◌∙◌, ⊎_elim, arith}
use Rattle.std.proofs.Math.Decide.{dec_lt}
use Rattle.std.proofs.Math.IntN.{pos, *ℤ_comm, *ℤ-zero, +ℤ_idr}
use Rattle.std.proofs.Math.ListN.{length, get_or-eq_default}
use Rattle.std.proofs.lemmas.List.{length-replicate}
use Rattle.std.specs.Int.Signed.{<ℤ-≤ℤ_trans}
use Rattle.integers.specs.Identity.{by_ring, by-eq, reads}
use Rattle.integers.specs.Order.{zero_or_not, square-pos}
use Rattle.integers.specs.Ring.{ -ℤ-zero}
use Rattle.integers.specs.Certificate.{◌⊞◌, ◌⊠◌, lt, eq, nn-false}
use Rattle.integers.specs.ListLaws.{nth-⊙, length-⊙}
use Rattle.lattices.specs.Vector.{Vec, nth, dot, comb, ◌⊕◌, ◌⊙◌, Zero, Dependent}
use Rattle.lattices.specs.Laws.Vector.{◌≈◌, ≈-nth, ≈-Zero, Zero-≈, bilinear, dot-⊕, dot-⊙, nil-dot, comb_cons, comb-⊙, comb-≈, nth-≈}
use Rattle.lattices.specs.Volume.{Index, Form, wedge, volume, inner, squared_volume}
use Rattle.exterior_algebra.specs.Forms.{wedge-step, wedge-nil, wedge-multiple, multiple_of}
use Rattle.exterior_algebra.specs.Hadamard.{entry}
use Rattle.exterior_algebra.specs.Cramer.{put, cramer}
use Rattle.exterior_algebra.specs.Dependence.{Fit, too_many, zero_coefficient}
use Rattle.greedy_reduction.specs.Kept.{wedge-nth}
use Rattle.lattice_minors.specs.Combinations.{wedge-same}

cancel : (c a b : ℤ) → c ≢ pos 0 → c *ℤ a ≡ c *ℤ b → a ≡ b
cancel c a b h e = ⊎_elim (λ z. -ℤ-zero a b z)
    (λ (f : a -ℤ b ≢ pos 0). nn-false (c ∷ a ∷ b ∷ [])
    (lt (square-pos h) ⊠ lt (square-pos f) ⊞ lt (square-pos h) ⊞ lt (square-pos f) ⊞ eq (negsuc 0 *ℤ (c *ℤ (a -ℤ b))) e) (search reads depth 20 fits 5000) tt)
    (zero_or_not (a -ℤ b))

-- ---- a multiple, and an equal vector, in the place of vector j

wedge-scale : (k : ℤ) (v : Vec) (ω : Form) (s : Index) → wedge (k ⊙ v) ω s ≡ k *ℤ wedge v ω s
wedge-scale k v ω s =
    wedge-nth (k ⊙ v) (k ⊙ v ⊕ []) (≈-nth {u = k ⊙ v} {v = k ⊙ v ⊕ []} (record { on = λ w. sym (simp (bilinear, nil-dot) (+ℤ_idr (k *ℤ dot v w))) })) ω s
    ∙ (wedge-step k v [] ω).lin s ∙ ap (λ z. k *ℤ wedge v ω s +ℤ pos 1 *ℤ z) (wedge-nil ω s) ∙ by_ring (k ∷ wedge v ω s ∷ []) (search reads) (search reads) tt

put-scale : (j : ℕ) (k : ℤ) (v : Vec) (bs : List Vec) → j < length bs → (s : Index) → volume (put j (k ⊙ v) bs) s ≡ k *ℤ volume (put j v bs) s
put-scale j k v [] h s = absurd (omega arith)
put-scale zero k v (b ∷ bs) h s = wedge-scale k v (volume bs) s
put-scale (suc j) k v (b ∷ bs) h s = (wedge-multiple b (multiple_of k (volume (put j v bs)) (put-scale j k v bs (omega arith)))).multiple s

put-≈ : (j : ℕ) {v w : Vec} → v ≈ w → (bs : List Vec) → j < length bs → (s : Index) → volume (put j v bs) s ≡ volume (put j w bs) s
put-≈ j e [] h s = absurd (omega arith)
put-≈ zero {v} {w} e (b ∷ bs) h s = wedge-nth v w (≈-nth e) (volume bs) s
put-≈ (suc j) {v} {w} e (b ∷ bs) h s = wedge-same b (volume (put j w bs)) (volume (put j v bs)) (put-≈ j e bs (omega arith)) s

-- ---- the coefficients: the minors with v in the place of each vector

abbrev pub cofactors : Index → List Vec → Vec → ℕ → ℕ → List ℤ
cofactors s bs v j zero = []
cofactors s bs v j (suc n) = volume (put j v bs) s ∷ cofactors s bs v (suc j) n

pub cofactors-count : (s : Index) (bs : List Vec) (v : Vec) (j n : ℕ) → length (cofactors s bs v j n) ≡ n
cofactors-count s bs v j zero = refl
cofactors-count s bs v j (suc n) = ap suc (cofactors-count s bs v (suc j) n)

cofactors-at : (s : Index) (bs : List Vec) (v : Vec) (n j i k : ℕ) → k ≡ j + i → i < n → nth (cofactors s bs v j n) i ≡ volume (put k v bs) s
cofactors-at s bs v zero j i k e h = absurd (omega arith)
cofactors-at s bs v (suc n) j zero k e h = ap (λ j. volume (put j v bs) s) (omega arith)
cofactors-at s bs v (suc n) j (suc i) k e h = cofactors-at s bs v n (suc j) i k (omega arith) (omega arith)

-- ---- d vectors of d coordinates

module _ (d : ℕ) (X : List Vec) (fit : Fit d X) (count : length X ≡ d) (some : volume X (replicate d true) ≢ pos 0) (v : Vec) (short : length v ≤ d) where
  all : Index
  all = replicate d true

  M : ℤ
  M = volume X (replicate d true)

  D : List ℤ
  D = cofactors (replicate d true) X v 0 (length X)

  positive : pos 0 <ℤ squared_volume d X
  unfolding squared_volume
  positive = subst (λ n. pos 0 <ℤ inner n (volume X) (volume X)) (length-replicate d true) (<ℤ-≤ℤ_trans (square-pos some) (entry (volume X) (replicate d true)))

  fit-more : Fit d (v ∷ X)
  fit-more zero = short
  fit-more (suc i) = fit i

  -- c·v is the combination −y of X, c not zero
  record Solved : Type 0 where
    c : ℤ
    y : List ℤ
    long : length y ≡ length X
    nonzero : c ≢ pos 0
    gives : c ⊙ v ≈ comb (negsuc 0 ⊙ y) X

  solve : Dependent (v ∷ X) → Solved
  solve r = go r.coefficients r.count r.nonzero r.vanishes
    where
      go : (x : List ℤ) → length x ≡ suc (length X) → ¬ Zero x → Zero (comb x (v ∷ X)) → Solved
      go [] e n z = absurd (omega arith)
      go (c ∷ y) e n z = ⊎_elim
          (λ (h : c ≡ pos 0). absurd (n (zeros h)))
          (λ (h : c ≢ pos 0). record {
            c = c;
            y = y;
            long = omega arith;
            nonzero = h;
            gives = record { on = λ w. dot-⊙ c v w ∙ move (dot v w) (dot (comb y X) w) (vanish w) ∙ sym (dot-⊙ (negsuc 0) (comb y X) w) ∙ sym ((comb-⊙ (negsuc 0) y X).on w) };
          })
          (zero_or_not c)
        where
          vanish : (w : Vec) → c *ℤ dot v w +ℤ dot (comb y X) w ≡ pos 0
          vanish w =
              sym ((comb_cons c y v X).on w ∙ dot-⊕ (c ⊙ v) (comb y X) w ∙ ap (λ z. z +ℤ dot (comb y X) w) (dot-⊙ c v w)) ∙ (Zero-≈ (comb (c ∷ y) (v ∷ X)) z).on w ∙ nil-dot w

          move : (a b : ℤ) → c *ℤ a +ℤ b ≡ pos 0 → c *ℤ a ≡ negsuc 0 *ℤ b
          move a b h = by-eq (c ∷ a ∷ b ∷ []) (pos 1) h (search reads) (search reads) tt

          without : (a b : ℤ) → c ≡ pos 0 → c *ℤ a +ℤ b ≡ pos 0 → b ≡ pos 0
          without a b h e = by_ring (b ∷ a ∷ []) {y = pos 0 *ℤ a +ℤ b} (search reads) (search reads) tt ∙ ap (λ z. z *ℤ a +ℤ b) (sym h) ∙ e

          still : c ≡ pos 0 → Zero (comb y X)
          still h = ≈-Zero (record { on = λ w. without (dot v w) (dot (comb y X) w) h (vanish w) ∙ sym (nil-dot w) })

          zeros : c ≡ pos 0 → Zero (c ∷ y)
          zeros h zero = h
          zeros h (suc i) = at i (dec_lt i (length X))
            where
              at : (i : ℕ) → Dec (i < length X) → nth y i ≡ pos 0
              at i (yes l) = zero_coefficient d X positive y (still h) i l
              at i (no f) = get_or-eq_default y (pos 0) (omega arith)

  -- c·D_j = −y_j·M
  scaled : (r : Solved) (j : ℕ) → nth (r.c ⊙ D) j ≡ nth (M ⊙ (negsuc 0 ⊙ r.y)) j
  unfolding M D all
  scaled r j = nth-⊙ r.c D j ∙ at (dec_lt j (length X)) ∙ sym (nth-⊙ M (negsuc 0 ⊙ r.y) j)
    where
      at : Dec (j < length X) → r.c *ℤ nth D j ≡ M *ℤ nth (negsuc 0 ⊙ r.y) j
      at (yes l) =
          ap (λ z. r.c *ℤ z) (cofactors-at all X v (length X) 0 j j (omega arith) l) ∙ sym (put-scale j r.c v X l all)
          ∙ put-≈ j r.gives X l all ∙ cramer j (negsuc 0 ⊙ r.y) X l all ∙ *ℤ_comm (nth (negsuc 0 ⊙ r.y) j) M
      at (no f) =
          ap (λ z. r.c *ℤ z) (get_or-eq_default D (pos 0) (omega (arith, cofactors-count all X v 0 (length X)))) ∙ *ℤ-zero r.c
          ∙ sym (ap (λ z. M *ℤ z) (get_or-eq_default (negsuc 0 ⊙ r.y) (pos 0) (omega (arith, length-⊙ (negsuc 0) r.y, r.long))) ∙ *ℤ-zero M)

  -- M·v is the combination with the minors in which v takes the place of one vector after the other
  pub cramer-solves : volume X (replicate d true) ⊙ v ≈ comb (cofactors (replicate d true) X v 0 (length X)) X
  unfolding M D
  cramer-solves = go (solve (too_many d (v ∷ X) fit-more (omega arith)))
    where
      go : Solved → M ⊙ v ≈ comb D X
      go r = record {
        on = λ w. cancel r.c (dot (M ⊙ v) w) (dot (comb D X) w) r.nonzero
            (ap (λ z. r.c *ℤ z) (dot-⊙ M v w) ∙ swapped r.c M (dot v w) ∙ ap (λ z. M *ℤ z) (sym (dot-⊙ r.c v w) ∙ r.gives.on w) ∙ sym (dot-⊙ M (comb (negsuc 0 ⊙ r.y) X) w)
            ∙ sym ((comb-⊙ M (negsuc 0 ⊙ r.y) X).on w) ∙ sym ((comb-≈ X (nth-≈ (r.c ⊙ D) (M ⊙ (negsuc 0 ⊙ r.y)) (scaled r))).on w)
            ∙ (comb-⊙ r.c D X).on w ∙ dot-⊙ r.c (comb D X) w);
      }
        where
          swapped : (a b z : ℤ) → a *ℤ (b *ℤ z) ≡ b *ℤ (a *ℤ z)
          swapped a b z = by_ring (a ∷ b ∷ z ∷ []) (search reads) (search reads) tt
