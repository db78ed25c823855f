-- The size of inner products: Cauchy–Schwarz, and what a multiple of a vector may weigh in a row of them.
use Rattle.std.specs.Prelude.{◌≡◌, [], ◌∷◌, ℕ, ◌*◌, ◌≤◌, ℤ, pos, negsuc, nat_abs, ◌-ℤ◌, ◌*ℤ◌, ◌≤ℤ◌}
use Rattle.std.proofs.Common.{sym, ap, ◌∙◌, ⊎_elim, arith}
use Rattle.integers.specs.Identity.{by_ring, reads}
use Rattle.integers.specs.Order.{≤ℤ_trans, ≤ℤ_of_≡, ≤ℤ-or-<ℤ, ≤ℤ_antisymm, *ℤ-cancel-≤}
use Rattle.integers.specs.Certificate.{◌⊞◌, ◌⊠◌, eq, by_nn, nn-pos}
use Rattle.integers.specs.Size.{root}
use Rattle.lattices.specs.Vector.{Vec, N, dot, ◌⊙◌, ◌⊖◌}
use Rattle.lattices.specs.Laws.Vector.{dot_comm, dot-⊙ʳ, bilinear, N-nonneg, definite, zero-dot}
use Rattle.exterior_algebra.specs.Hadamard.{*ℤ_mono_both}

-- N(N(v)·u − <u,v>·v) = N(v)·(N(u)·N(v) − <u,v>²)
pub schwarz : (u v : Vec) → (dot u v *ℤ dot u v) ≤ℤ (N u *ℤ N v)
schwarz u v = ⊎_elim
    (λ h. let z = definite v (≤ℤ_antisymm h (N-nonneg v)) in
    ≤ℤ_trans (≤ℤ_of_≡ (ap (λ d. d *ℤ d) (dot_comm u v ∙ zero-dot v z u))) (N-nonneg u ⊠ N-nonneg v))
    (λ h. *ℤ-cancel-≤ h (by_nn (N u ∷ N v ∷ dot u v ∷ N (N v ⊙ u ⊖ dot u v ⊙ v) ∷ []) (N-nonneg (N v ⊙ u ⊖ dot u v ⊙ v) ⊞ eq (negsuc 0) square) (search reads depth 20) (search reads depth 20) tt))
    (≤ℤ-or-<ℤ (N v) (pos 0))
  where
    square : N (N v ⊙ u ⊖ dot u v ⊙ v) ≡ N v *ℤ (N u *ℤ N v) -ℤ N v *ℤ (dot u v *ℤ dot u v)
    square = simp (bilinear, dot_comm v u) (by_ring (N u ∷ N v ∷ dot u v ∷ []) (search reads depth 20 fits 5000) (search reads depth 20 fits 5000) tt)

-- a multiple y·v of length at most A·20,000 has inner products of at most A·400,000,000 with vectors within the limit
pub product-size : (A : ℕ) (y : ℤ) (u v : Vec) → N u ≤ℤ pos 400000000 → N (y ⊙ v) ≤ℤ pos (A * A * 400000000) → nat_abs (y *ℤ dot u v) ≤ A * 400000000
product-size A y u v h k = root (y *ℤ dot u v) (pos (A * 400000000))
    (≤ℤ_trans (≤ℤ_of_≡ (ap (λ d. d *ℤ d) (sym (dot-⊙ʳ y v u)))) (≤ℤ_trans (schwarz u (y ⊙ v))
    (≤ℤ_trans (*ℤ_mono_both (N-nonneg u) (nn-pos (A * A * 400000000)) h k) (≤ℤ_of_≡ (ap pos (regroup A))))))
  where
    regroup : (A : ℕ) → 400000000 * (A * A * 400000000) ≡ A * 400000000 * (A * 400000000)
    regroup A = omega arith
