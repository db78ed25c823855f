-- The sizes in numbers: a combination, of squared length at most r²·400,000,000, of at most four independent vectors of squared
-- length at most 400,000,000 has coefficients of at most r·20,000⁴. For a nearest vector r = 2, by `near_le`.
use Rattle.std.specs.Prelude.{◌≡◌, List, [], ◌∷◌, ℕ, zero, suc, ◌*◌, ◌≤◌, ◌<◌, ℤ, pos, negsuc, nat_abs, ◌+ℤ◌, ◌-ℤ◌, ◌*ℤ◌, length, get_or, ◌≤ℤ◌, ◌<ℤ◌}
use Rattle.std.proofs.Common.{sym, subst, le_of_suc-le-suc, not-suc-le-zero}
use Rattle.std.specs.Int.Signed.{≤ℤ_refl, le_z_yes}
use Rattle.integers.specs.Identity.{by_ring, reads}
use Rattle.integers.specs.Ring.{*ℤ_assoc, *ℤ-left_comm}
use Rattle.integers.specs.Order.{≤ℤ_trans, ≤ℤ_of_≡, pos-nonneg}
use Rattle.integers.specs.Certificate.{NN, ◌⊞◌, ◌⊠◌, nn-pos, le, eq, by_nn}
use Rattle.integers.specs.Size.{root}
use Rattle.lattices.specs.Vector.{Vec, N, nth, dot, comb, ◌⊕◌, ◌⊙◌, ◌⊖◌}
use Rattle.lattices.specs.Laws.Vector.{bilinear, dot_comm, N-⊖, N-nonneg, ◌≈◌, ≈_refl, ≈_trans, ≈-⊕, ≈-N, comb-⊕, comb-⊙}
use Rattle.lattices.specs.Volume.{squared_volume}
use Rattle.exterior_algebra.specs.Hadamard.{product, product-nonneg, *ℤ_mono_both}
use Rattle.exterior_algebra.specs.Cramer.{put, sizes}

-- every squared length is at most M (the vector beyond the end is [])
abbrev pub Short : ℤ → List Vec → Type 0
Short M bs = (i : ℕ) → N (get_or bs i []) ≤ℤ M

-- M ^ n
abbrev pub power : ℤ → ℕ → ℤ
power M zero = pos 1
power M (suc n) = M *ℤ power M n

module _ (M : ℤ) (one : pos 1 ≤ℤ M) where
  power_pos : (n : ℕ) → pos 1 ≤ℤ power M n
  power_pos zero = ≤ℤ_refl (pos 1)
  power_pos (suc n) = *ℤ_mono_both (pos-nonneg 1) (≤ℤ_trans (pos-nonneg 1) (power_pos n)) one (power_pos n)

  power-nonneg : (n : ℕ) → NN (power M n)
  power-nonneg n = ≤ℤ_trans (pos-nonneg 1) (power_pos n)

  -- a shorter list has a smaller bound
  pub product-≤ : (n : ℕ) (bs : List Vec) → length bs ≤ n → Short M bs → product bs ≤ℤ power M n
  product-≤ n [] l h = power_pos n
  product-≤ zero (b ∷ bs) l h = absurd (not-suc-le-zero l)
  product-≤ (suc n) (b ∷ bs) l h =
      *ℤ_mono_both (N-nonneg b) (power-nonneg n) (h zero) (product-≤ n bs (le_of_suc-le-suc l) (λ i. h (suc i)))

  pub product-put-≤ : (n j : ℕ) (f : ℤ) (v : Vec) (bs : List Vec) → length bs ≤ n → j < length bs → Short M bs → N v ≤ℤ (f *ℤ M)
      → product (put j v bs) ≤ℤ (f *ℤ power M n)
  product-put-≤ n j f v [] l k h b = absurd (not-suc-le-zero k)
  product-put-≤ zero j f v (c ∷ bs) l k h b = absurd (not-suc-le-zero l)
  product-put-≤ (suc n) zero f v (c ∷ bs) l k h b =
      subst (λ z. (N v *ℤ product bs) ≤ℤ z) (*ℤ_assoc f M (power M n))
      (*ℤ_mono_both (N-nonneg v) (power-nonneg n) b (product-≤ n bs (le_of_suc-le-suc l) (λ i. h (suc i))))
  product-put-≤ (suc n) (suc j) f v (c ∷ bs) l k h b =
      let ih = product-put-≤ n j f v bs (le_of_suc-le-suc l) (le_of_suc-le-suc k) (λ i. h (suc i)) b in
      subst (λ z. (N c *ℤ product (put j v bs)) ≤ℤ z) (*ℤ-left_comm M f (power M n))
      (*ℤ_mono_both (N-nonneg c) (≤ℤ_trans (product-nonneg (put j v bs)) ih) (h zero) ih)

-- ---- the numbers: r = 1 for a vector as short as the list, r = 2 for one nearest to such a vector

in_numbers : (z : ℤ) → z *ℤ z *ℤ power (pos 400000000) 4 ≡ z *ℤ pos 160000000000000000 *ℤ (z *ℤ pos 160000000000000000)
in_numbers z = by_ring (z ∷ []) (search reads depth 20) (search reads depth 20) tt

pub coefficient_≤ : (r m j : ℕ) (x : List ℤ) (bs : List Vec) → length bs ≤ 4 → Short (pos 400000000) bs → pos 0 <ℤ squared_volume m bs
    → j < length bs → N (comb x bs) ≤ℤ pos (r * r * 400000000) → nat_abs (nth x j) ≤ r * 160000000000000000
coefficient_≤ r m j x bs l h p k b = root (nth x j) (pos (r * 160000000000000000)) squares
  where
    squares : (nth x j *ℤ nth x j) ≤ℤ (pos (r * 160000000000000000) *ℤ pos (r * 160000000000000000))
    squares =
        ≤ℤ_trans (sizes m j x bs k p)
        (≤ℤ_trans (product-put-≤ (pos 400000000) (le_z_yes tt) 4 j (pos r *ℤ pos r) (comb x bs) bs l k h b) (≤ℤ_of_≡ (in_numbers (pos r))))

pub near_le : (t v : Vec) → N (t ⊖ v) ≤ℤ N t → N v ≤ℤ (pos 4 *ℤ N t)
near_le t v h =
    by_nn (N t ∷ N v ∷ dot t v ∷ N (t ⊖ v) ∷ N (pos 2 ⊙ t ⊖ v) ∷ [])
    (nn-pos 2 ⊠ le h ⊞ N-nonneg (pos 2 ⊙ t ⊖ v) ⊞ eq (pos 2) (N-⊖ t v) ⊞ eq (negsuc 0) twice)
    (search reads depth 20) (search reads depth 20) tt
  where
    twice : N (pos 2 ⊙ t ⊖ v) ≡ pos 4 *ℤ N t -ℤ pos 4 *ℤ dot t v +ℤ N v
    twice = simp (bilinear, dot_comm v t) (by_ring (N t ∷ N v ∷ dot t v ∷ []) (search reads depth 20) (search reads depth 20) tt)

-- the difference of two vectors of the lattice that are each within the limit
pub difference-≤ : (m j : ℕ) (x y : List ℤ) (bs : List Vec) → length bs ≤ 4 → Short (pos 400000000) bs → pos 0 <ℤ squared_volume m bs
    → j < length bs → N (comb x bs) ≤ℤ pos 400000000 → N (comb y bs) ≤ℤ pos 400000000 → nat_abs (nth (x ⊖ y) j) ≤ 320000000000000000
difference-≤ m j x y bs l h p k a b = coefficient_≤ 2 m j (x ⊖ y) bs l h p k (subst (λ n. n ≤ℤ pos 1600000000) (sym (≈-N combined)) (apart (comb x bs) (comb y bs) a b))
  where
    combined : comb (x ⊖ y) bs ≈ comb x bs ⊖ comb y bs
    combined = ≈_trans (comb-⊕ x (negsuc 0 ⊙ y) bs) (≈-⊕ (≈_refl {u = comb x bs}) (comb-⊙ (negsuc 0) y bs))

    apart : (u v : Vec) → N u ≤ℤ pos 400000000 → N v ≤ℤ pos 400000000 → N (u ⊖ v) ≤ℤ pos 1600000000
    apart u v a b =
        by_nn (N u ∷ N v ∷ dot u v ∷ N (u ⊖ v) ∷ N (u ⊕ v) ∷ [])
        (nn-pos 2 ⊠ le a ⊞ nn-pos 2 ⊠ le b ⊞ N-nonneg (u ⊕ v) ⊞ eq (negsuc 0) (N-⊖ u v) ⊞ eq (negsuc 0) plus)
        (search reads depth 20) (search reads depth 20) tt
      where
        plus : N (u ⊕ v) ≡ N u +ℤ pos 2 *ℤ dot u v +ℤ N v
        plus = simp (bilinear, dot_comm v u) (by_ring (N u ∷ N v ∷ dot u v ∷ []) (search reads depth 20) (search reads depth 20) tt)
