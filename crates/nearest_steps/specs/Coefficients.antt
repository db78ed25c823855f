-- The coefficients of a short combination of reduced vectors are small: x²·N(b) ≤ 4·10ᵏ·M for a combination of k vectors, of squared length
-- at most M, and each coefficient x of it with its vector b. A common factor of all squared lengths drops out.
use Rattle.std.specs.Prelude.{◌≡◌, List, [], ◌∷◌, ℕ, zero, suc, ◌≤◌, ◌<◌, ℤ, pos, negsuc, ◌+ℤ◌, ◌*ℤ◌, length, get_or, take, ◌≤ℤ◌, ◌<ℤ◌}
use Rattle.std.proofs.Common.{sym, ap₂, subst, arith, length-take, take-suc}
use Rattle.std.proofs.Math.Decide.{ℕ_discrete}
use Rattle.std.specs.Int.Signed.{le_z_yes}
use Rattle.integers.specs.Identity.{by_ring, reads}
use Rattle.integers.specs.Order.{*ℤ-cancel-≤}
use Rattle.integers.specs.Certificate.{NN, ◌⊞◌, ◌⊠◌, nn-pos, nn-sq, le, lt, eq, by_nn}
use Rattle.integers.specs.Size.{Within, root-within}
use Rattle.lattices.specs.Vector.{Vec, N, nth, dot, comb, ◌⊕◌, ◌⊙◌}
use Rattle.lattices.specs.Laws.Vector.{◌≈◌, ≈_trans, ≈_of_≡, ≈-N, bilinear, dot_comm, N-nonneg, comb_cons, comb_snoc}
use Rattle.successive_minima.specs.Reduced.{Top, Reduced}
use Rattle.successive_minima.specs.Laws.ReducedLaws.{pinned, reduced-last}
use Rattle.successive_minima.specs.Laws.Digits.{power}

tens_≥ : (k : ℕ) → pos 1 ≤ℤ power (pos 10) k
tens_≥ zero = le_z_yes tt
tens_≥ (suc k) = law (power (pos 10) k) (tens_≥ k)
  where
    law : (p : ℤ) → pos 1 ≤ℤ p → pos 1 ≤ℤ (pos 10 *ℤ p)
    law p h = by_nn (p ∷ []) (nn-pos 10 ⊠ le h ⊞ nn-pos 9) (search reads depth 8) (search reads depth 8) tt

-- what is left of a combination without its last vector
shorter-by : (q : ℤ) (b w : Vec) (M : ℤ) → N (q ⊙ b ⊕ w) ≤ℤ M → (q *ℤ q *ℤ N b) ≤ℤ (pos 4 *ℤ N (q ⊙ b ⊕ w)) → N w ≤ℤ (pos 10 *ℤ M)
shorter-by q b w M h k = by_nn (q ∷ N b ∷ N w ∷ dot b w ∷ N (q ⊙ b ⊕ w) ∷ N (w ⊕ (pos 2 *ℤ q) ⊙ b) ∷ M ∷ [])
    (N-nonneg (w ⊕ (pos 2 *ℤ q) ⊙ b) ⊞ eq (pos 1) twice ⊞ eq (negsuc 1) once ⊞ nn-pos 2 ⊠ le k ⊞ nn-pos 10 ⊠ le h)
    (search reads depth 20) (search reads depth 20) tt
  where
    twice : N w +ℤ pos 4 *ℤ q *ℤ dot b w +ℤ pos 4 *ℤ (q *ℤ q) *ℤ N b ≡ N (w ⊕ (pos 2 *ℤ q) ⊙ b)
    twice = sym (simp (bilinear, dot_comm w b) (by_ring (q ∷ N b ∷ N w ∷ dot b w ∷ []) (search reads depth 20) (search reads depth 20) tt))

    once : q *ℤ q *ℤ N b +ℤ pos 2 *ℤ q *ℤ dot b w +ℤ N w ≡ N (q ⊙ b ⊕ w)
    once = sym (simp (bilinear, dot_comm w b) (by_ring (q ∷ N b ∷ N w ∷ dot b w ∷ []) (search reads depth 20) (search reads depth 20) tt))

pub coefficient_square : (k : ℕ) (vs : List Vec) (x : List ℤ) (M : ℤ) → k ≤ length vs → k ≤ length x → k ≤ 4 → Reduced (take k vs) → N (comb (take k x) (take k vs)) ≤ℤ M
    → (j : ℕ) → j < k → (nth x j *ℤ nth x j *ℤ N (get_or vs j [])) ≤ℤ (pos 4 *ℤ power (pos 10) k *ℤ M)
coefficient_square zero vs x M lv lx l4 d h j m = absurd (omega arith)
coefficient_square (suc k) vs x M lv lx l4 d h j m = pick (ℕ_discrete j k)
    (λ n. coefficient_square k vs x (pos 10 *ℤ M) (omega arith) (omega arith) (omega arith) last.1 (shorter-by q b w M high own) j n)
  where
    q : ℤ
    q = nth x k

    b : Vec
    b = get_or vs k []

    w : Vec
    w = comb (take k x) (take k vs)

    last : Top b (take k vs) × Reduced (take k vs)
    last = reduced-last (take k vs) b (subst Reduced (take-suc vs k [] (omega arith)) d)

    opened : comb (take (suc k) x) (take (suc k) vs) ≈ q ⊙ b ⊕ w
    opened = ≈_trans (≈_of_≡ (ap₂ comb (take-suc x k (pos 0) (omega arith)) (take-suc vs k [] (omega arith))))
        (comb_snoc (take k x) (take k vs) q b (omega (arith, length-take k x, length-take k vs)))

    high : N (q ⊙ b ⊕ w) ≤ℤ M
    high = subst (λ n. n ≤ℤ M) (≈-N opened) h

    own : (q *ℤ q *ℤ N b) ≤ℤ (pos 4 *ℤ N (q ⊙ b ⊕ w))
    own = subst (λ n. (q *ℤ q *ℤ N b) ≤ℤ (pos 4 *ℤ n)) (≈-N (comb_cons q (take k x) b (take k vs))) (pinned last.0 (omega (arith, length-take k vs)) q (take k x))

    pick : Dec (j ≡ k) → (j < k → (nth x j *ℤ nth x j *ℤ N (get_or vs j [])) ≤ℤ (pos 4 *ℤ power (pos 10) k *ℤ (pos 10 *ℤ M)))
        → (nth x j *ℤ nth x j *ℤ N (get_or vs j [])) ≤ℤ (pos 4 *ℤ (pos 10 *ℤ power (pos 10) k) *ℤ M)
    pick (yes e) f = subst (λ i. (nth x i *ℤ nth x i *ℤ N (get_or vs i [])) ≤ℤ (pos 4 *ℤ (pos 10 *ℤ power (pos 10) k) *ℤ M)) (sym e)
        (law (q *ℤ q *ℤ N b) (N (q ⊙ b ⊕ w)) M (power (pos 10) k) own high (N-nonneg (q ⊙ b ⊕ w)) (tens_≥ k))
      where
        law : (a n m p : ℤ) → a ≤ℤ (pos 4 *ℤ n) → n ≤ℤ m → NN n → pos 1 ≤ℤ p → a ≤ℤ (pos 4 *ℤ (pos 10 *ℤ p) *ℤ m)
        law a n m p h i o l = by_nn (a ∷ n ∷ m ∷ p ∷ []) (le h ⊞ nn-pos 4 ⊠ le i ⊞ (nn-pos 40 ⊠ le l ⊞ nn-pos 36) ⊠ (le i ⊞ o)) (search reads depth 20) (search reads depth 20) tt
    pick (no e) f = subst (λ z. (nth x j *ℤ nth x j *ℤ N (get_or vs j [])) ≤ℤ z) (law (power (pos 10) k) M) (f (omega (arith, e)))
      where
        law : (p m : ℤ) → pos 4 *ℤ p *ℤ (pos 10 *ℤ m) ≡ pos 4 *ℤ (pos 10 *ℤ p) *ℤ m
        law p m = by_ring (p ∷ m ∷ []) (search reads depth 20) (search reads depth 20) tt

-- in numbers, for the squared lengths that occur: F is the common factor, n the squared length without it
pub coefficient_within : (F n x : ℤ) (k : ℕ) → pos 0 <ℤ F → pos 0 <ℤ n → k ≤ 4 → (x *ℤ x *ℤ (F *ℤ n)) ≤ℤ (pos 4 *ℤ power (pos 10) k *ℤ (F *ℤ pos 14400000000)) → Within 30000000 x
coefficient_within F n x k f h l s = root-within {B = 30000000} (*ℤ-cancel-≤ f (law (power (pos 10) k) (few k l) s))
  where
    few : (k : ℕ) → k ≤ 4 → power (pos 10) k ≤ℤ pos 10000
    few zero l = le_z_yes tt
    few (suc zero) l = le_z_yes tt
    few (suc (suc zero)) l = le_z_yes tt
    few (suc (suc (suc zero))) l = le_z_yes tt
    few (suc (suc (suc (suc zero)))) l = le_z_yes tt
    few (suc (suc (suc (suc (suc k))))) l = absurd (omega arith)

    law : (p : ℤ) → p ≤ℤ pos 10000 → (x *ℤ x *ℤ (F *ℤ n)) ≤ℤ (pos 4 *ℤ p *ℤ (F *ℤ pos 14400000000)) → (F *ℤ (x *ℤ x)) ≤ℤ (F *ℤ pos 900000000000000)
    law p i s = by_nn (F ∷ n ∷ x ∷ p ∷ []) (le s ⊞ nn-pos 57600000000 ⊠ (lt f ⊞ nn-pos 1) ⊠ le i ⊞ (lt f ⊞ nn-pos 1) ⊠ nn-sq x ⊠ lt h ⊞ nn-pos 324000000000000 ⊠ (lt f ⊞ nn-pos 1))
        (search reads depth 20) (search reads depth 20) tt
