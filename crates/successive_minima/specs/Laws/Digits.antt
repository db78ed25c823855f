-- Lists read as numbers in a base: a list below the list of zeros, its entries but the first smaller than the base, is a negative number.
-- So a loop whose steps lower a list (`falls`) has a measure; with base 2 and three coefficients it is 8·N(r) + 4·x + 2·y + z.
use Rattle.std.specs.Prelude.{◌≡◌, refl, ◌⊎◌, Bool, true, false, List, [], ◌∷◌, ℕ, zero, suc, ◌+◌, T, ℤ, pos, negsuc, neg_ℤ, ◌+ℤ◌, ◌-ℤ◌, ◌*ℤ◌, ◌≤ℤ◌, ◌<ℤ◌, length}
use Rattle.std.proofs.Common.{sym, ap, ap₂, ◌∙◌, inl, inr, arith}
use Rattle.std.proofs.Math.Path.{subst}
use Rattle.std.proofs.Math.Logic.{⊎_elim}
use Rattle.std.proofs.Math.IntN.{*ℤ-zero}
use Rattle.std.specs.Int.Signed.{≤ℤ_refl}
use Rattle.integers.specs.Ring.{negsuc-zero-*ℤ}
use Rattle.integers.specs.Identity.{by_ring, by-eq, reads}
use Rattle.integers.specs.Certificate.{NN, ◌⊞◌, ◌⊠◌, le, lt, nn-pos, by_nn, by-lt}
use Rattle.integers.specs.Size.{Within, within-lower, within-neg}
use Rattle.integers.specs.Lists.{nth, ◌⊕◌, ◌⊙◌, ◌⊖◌}
use Rattle.integers.specs.ListLaws.{nth-⊙, entries, length-⊙, length-⊕-same}
use Rattle.integers.specs.Lex.{Nonneg, nonneg_ext, nonneg-zeros, nonneg-below, below_true, below_false}
use Rattle.integers.specs.Below.{below}
use Rattle.lattices.specs.Vector.{Vec, N, comb, Zero}
use Rattle.successive_minima.specs.Laws.Values.{gain, change}
use Rattle.successive_minima.specs.Laws.ValueLaws.{residual-change}

-- every entry has size at most B
abbrev pub Bounded : ℕ → List ℤ → Type 0
Bounded B l = (i : ℕ) → Within B (nth l i)

pub bounded_cons : {B : ℕ} {x : ℤ} (l : List ℤ) → Within B x → Bounded B l → Bounded B (x ∷ l)
bounded_cons l h k zero = h
bounded_cons l h k (suc i) = k i

-- ---- below the list of zeros

-- as many zeros as a list has entries
abbrev pub zeros : List ℤ → List ℤ
zeros [] = []
zeros (x ∷ l) = pos 0 ∷ zeros l

zeros-nth : (l : List ℤ) (i : ℕ) → nth (zeros l) i ≡ pos 0
zeros-nth [] i = refl
zeros-nth (x ∷ l) zero = refl
zeros-nth (x ∷ l) (suc i) = zeros-nth l i

zeros-length : (l : List ℤ) → length l ≡ length (zeros l)
zeros-length [] = refl
zeros-length (x ∷ l) = ap suc (zeros-length l)

from-zeros : (l : List ℤ) (i : ℕ) → nth (l ⊖ zeros l) i ≡ nth l i
from-zeros l i = simp (entries, zeros-nth l) (by_ring (nth l i ∷ []) (search reads) (search reads) tt)

pub nonneg-not-below : (l : List ℤ) → Nonneg l → below l (zeros l) ≡ false
nonneg-not-below l p = nonneg-below l (zeros l) (nonneg_ext l (l ⊖ zeros l) (λ i. sym (from-zeros l i)) p)

pub not-below-nonneg : (l : List ℤ) → below l (zeros l) ≡ false → Nonneg l
not-below-nonneg l e = nonneg_ext (l ⊖ zeros l) l (from-zeros l) (below_false l (zeros l) (zeros-length l) e)

below-opposite : (l : List ℤ) → below l (zeros l) ≡ true → Nonneg (negsuc 0 ⊙ l)
below-opposite l e = nonneg_ext (zeros l ⊖ l) (negsuc 0 ⊙ l) opposite (below_true l (zeros l) e)
  where
    opposite : (i : ℕ) → nth (zeros l ⊖ l) i ≡ nth (negsuc 0 ⊙ l) i
    opposite i = simp (entries, zeros-nth l) (by_ring (nth l i ∷ []) (search reads) (search reads) tt)

opposite-zero : (x : ℤ) → negsuc 0 *ℤ x ≡ pos 0 → x ≡ pos 0
opposite-zero x e = by-eq (x ∷ []) (negsuc 0) e (search reads) (search reads) tt

pub zero_cons : {x : ℤ} (l : List ℤ) → x ≡ pos 0 → Zero l → Zero (x ∷ l)
zero_cons l e z zero = e
zero_cons l e z (suc i) = z i

true_not_false : {b : Bool} → b ≡ true → ¬ (b ≡ false)
true_not_false p q = subst T (sym p ∙ q) tt

-- ---- numbers

abbrev pub power : ℤ → ℕ → ℤ
power W zero = pos 1
power W (suc n) = W *ℤ power W n

-- the first entry counts most
abbrev pub number : ℤ → List ℤ → ℤ
number W [] = pos 0
number W (x ∷ l) = x *ℤ power W (length l) +ℤ number W l

pub number-⊙ : (W k : ℤ) (l : List ℤ) → number W (k ⊙ l) ≡ k *ℤ number W l
unfolding ◌⊙◌
number-⊙ W k [] = sym (*ℤ-zero k)
number-⊙ W k (x ∷ l) = ap₂ (λ n s. k *ℤ x *ℤ power W n +ℤ s) (length-⊙ k l) (number-⊙ W k l) ∙ regroup k x (power W (length l)) (number W l)
  where
    regroup : (k x p s : ℤ) → k *ℤ x *ℤ p +ℤ k *ℤ s ≡ k *ℤ (x *ℤ p +ℤ s)
    regroup k x p s = by_ring (k ∷ x ∷ p ∷ s ∷ []) (search reads) (search reads) tt

pub number-⊕ : (W : ℤ) (k l : List ℤ) → length k ≡ length l → number W (k ⊕ l) ≡ number W k +ℤ number W l
unfolding ◌⊕◌
number-⊕ W [] [] e = refl
number-⊕ W [] (y ∷ l) e = absurd (omega arith)
number-⊕ W (x ∷ k) [] e = absurd (omega arith)
number-⊕ W (x ∷ k) (y ∷ l) e =
    let d : length k ≡ length l = omega arith in
    ap₂ (λ n s. (x +ℤ y) *ℤ power W n +ℤ s) (length-⊕-same k l d) (number-⊕ W k l d)
    ∙ regroup (power W (length k)) (number W k) (number W l)
    ∙ ap (λ n. x *ℤ power W (length k) +ℤ number W k +ℤ (y *ℤ power W n +ℤ number W l)) d
  where
    regroup : (p s t : ℤ) → (x +ℤ y) *ℤ p +ℤ (s +ℤ t) ≡ x *ℤ p +ℤ s +ℤ (y *ℤ p +ℤ t)
    regroup p s t = by_ring (x ∷ y ∷ p ∷ s ∷ t ∷ []) (search reads depth 8) (search reads depth 8) tt

-- ---- the sign of a number whose digits are smaller than the base

module _ (B : ℕ) where
  -- the base
  abbrev W : ℤ
  W = pos (B + 1)

  pub power-nonneg : (n : ℕ) → NN (power W n)
  power-nonneg zero = nn-pos 1
  power-nonneg (suc n) = nn-pos (B + 1) ⊠ power-nonneg n

  digit : {x : ℤ} → Within B x → (pos 1 -ℤ W) ≤ℤ x
  digit {x} h = law (pos B) (within-lower h)
    where
      law : (C : ℤ) → neg_ℤ C ≤ℤ x → (pos 1 -ℤ (C +ℤ pos 1)) ≤ℤ x
      law C k = by_nn (C ∷ x ∷ []) (le k) (search reads) (search reads) tt

  number-lower : (l : List ℤ) → Bounded B l → (pos 1 -ℤ power W (length l)) ≤ℤ number W l
  number-lower [] h = ≤ℤ_refl (pos 0)
  number-lower (x ∷ l) h = law W (power W (length l)) (number W l) (digit (h 0)) (power-nonneg (length l)) (number-lower l (λ i. h (suc i)))
    where
      law : (W p s : ℤ) → (pos 1 -ℤ W) ≤ℤ x → NN p → (pos 1 -ℤ p) ≤ℤ s → (pos 1 -ℤ W *ℤ p) ≤ℤ (x *ℤ p +ℤ s)
      law W p s h k m = by_nn (W ∷ x ∷ p ∷ s ∷ []) (le h ⊠ k ⊞ le m) (search reads depth 8) (search reads depth 8) tt

  -- the first entry, of any size, decides unless it is 0
  leading : (x : ℤ) (l : List ℤ) → pos 0 <ℤ x → Bounded B l → pos 0 <ℤ number W (x ∷ l)
  leading x l k h = law (power W (length l)) (number W l) (power-nonneg (length l)) (number-lower l h)
    where
      law : (p s : ℤ) → NN p → (pos 1 -ℤ p) ≤ℤ s → pos 0 <ℤ (x *ℤ p +ℤ s)
      law p s m n = by-lt (x ∷ p ∷ s ∷ []) (lt k ⊠ m ⊞ le n) (search reads depth 8) (search reads depth 8) tt

  positive-or-zeros : (x : ℤ) (l : List ℤ) → Nonneg (x ∷ l) → Bounded B l → (pos 0 <ℤ number W (x ∷ l)) ⊎ Zero (x ∷ l)
  positive-or-zeros x [] (inl k) h = inl (leading x [] k h)
  positive-or-zeros x [] (inr k) h = inr (zero_cons [] k.0 (λ i. refl))
  positive-or-zeros x (y ∷ l) (inl k) h = inl (leading x (y ∷ l) k h)
  positive-or-zeros x (y ∷ l) (inr k) h =
      ⊎_elim (λ p. inl (subst (λ s. pos 0 <ℤ s) (sym (lead (power W (length (y ∷ l))) (number W (y ∷ l)))) p)) (λ z. inr (zero_cons (y ∷ l) k.0 z))
      (positive-or-zeros y l k.1 (λ i. h (suc i)))
    where
      lead : (p s : ℤ) → x *ℤ p +ℤ s ≡ s
      lead p s = rw k.0 (by_ring (p ∷ s ∷ []) (search reads) (search reads) tt)

  pub number-negative : (x : ℤ) (l : List ℤ) → below (x ∷ l) (zeros (x ∷ l)) ≡ true → Bounded B l → number W (x ∷ l) <ℤ pos 0
  unfolding ◌⊙◌
  number-negative x l e h = ⊎_elim turned flat (positive-or-zeros (negsuc 0 *ℤ x) (negsuc 0 ⊙ l) (below-opposite (x ∷ l) e) opposite)
    where
      opposite : Bounded B (negsuc 0 ⊙ l)
      opposite i = subst (Within B) (sym (nth-⊙ (negsuc 0) l i ∙ negsuc-zero-*ℤ (nth l i))) (within-neg (h i))

      law : (s : ℤ) → pos 0 <ℤ (negsuc 0 *ℤ s) → s <ℤ pos 0
      law s p = by-lt (s ∷ []) (lt p) (search reads) (search reads) tt

      turned : pos 0 <ℤ number W (negsuc 0 ⊙ (x ∷ l)) → number W (x ∷ l) <ℤ pos 0
      turned p = law (number W (x ∷ l)) (subst (λ s. pos 0 <ℤ s) (number-⊙ W (negsuc 0) (x ∷ l)) p)

      flat : Zero (negsuc 0 ⊙ (x ∷ l)) → number W (x ∷ l) <ℤ pos 0
      flat z = absurd (true_not_false e (nonneg-not-below (x ∷ l) (nonneg-zeros (x ∷ l)
          (λ i. opposite-zero (nth (x ∷ l) i) (sym (nth-⊙ (negsuc 0) (x ∷ l) i) ∙ z i)))))

  -- a step below zero with small coefficients lowers the number of the squared length and the coefficients
  pub falls : (r : Vec) (bs : List Vec) (y e : List ℤ) → length y ≡ length e → Bounded B e → below (change r bs e) (zeros (change r bs e)) ≡ true
      → number W (N (r ⊖ comb e bs) ∷ (y ⊕ e)) <ℤ number W (N r ∷ y)
  falls r bs y e l h d = subst (λ s. s <ℤ number W (N r ∷ y))
      (sym (ap (number W) (residual-change r bs y e) ∙ number-⊕ W (N r ∷ y) (change r bs e) (ap suc l)))
      (law (number W (N r ∷ y)) (number W (change r bs e)) (number-negative (gain r (comb e bs)) e d h))
    where
      law : (s t : ℤ) → t <ℤ pos 0 → (s +ℤ t) <ℤ s
      law s t k = by-lt (s ∷ t ∷ []) (lt k) (search reads) (search reads) tt
