-- Laws of the order in which lists of integers are compared from the first entry on.
use Rattle.std.specs.Prelude.{◌≡◌, refl, ◌⊎◌, Bool, true, false, List, [], ◌∷◌, ◌++◌, ℕ, zero, suc, ℤ, pos, negsuc, ◌+ℤ◌, ◌*ℤ◌, T, length, ◌<ℤ◌, ◌≤ℤ◌}
use Rattle.std.proofs.Common.{sym, ◌∙◌, ap, ap₂, subst, inl, inr, ⊎_elim, arith}
use Rattle.std.proofs.Math.IntN.{+ℤ_idl, zero-*ℤ, *ℤ-zero}
use Rattle.std.specs.Int.Signed.{lt_z, <ℤ-≤ℤ_trans, <ℤ_irrefl, clash_ℤ}
use Rattle.integers.specs.Identity.{reads, by_ring, by-eq}
use Rattle.integers.specs.Order.{≤ℤ_of_<ℤ, ≤ℤ_of_≡, ≤ℤ_antisymm, ≤ℤ-or-<ℤ, *ℤ_mono, *ℤ_mono_<, *ℤ-cancel-≤, <ℤ-lt_z, ≤ℤ-lt_z}
use Rattle.integers.specs.Certificate.{◌⊞◌, lt, by-lt}
use Rattle.integers.specs.Lists.{nth, ◌⊕◌, ◌⊙◌, ◌⊖◌}
use Rattle.integers.specs.ListLaws.{nth-⊙, entries, same}
use Rattle.integers.specs.Below.{below}

-- at or above the list of zeros: the first entry that is not 0, if there is one, is positive
abbrev pub Nonneg : List ℤ → Type 0
Nonneg [] = Unit {0}
Nonneg (x ∷ l) = (pos 0 <ℤ x) ⊎ ((x ≡ pos 0) × Nonneg l)

-- ---- the sign of the first entry

pub head-nonneg : (x : ℤ) (u : List ℤ) → Nonneg (x ∷ u) → pos 0 ≤ℤ x
head-nonneg x u (inl h) = ≤ℤ_of_<ℤ h
head-nonneg x u (inr h) = ≤ℤ_of_≡ (sym h.0)

positive-or-zero : {x : ℤ} → pos 0 ≤ℤ x → (pos 0 <ℤ x) ⊎ (x ≡ pos 0)
positive-or-zero {x} h = ⊎_elim (λ k. inr (≤ℤ_antisymm k h)) inl (≤ℤ-or-<ℤ x (pos 0))

+ℤ-positive : {x y : ℤ} → pos 0 <ℤ x → pos 0 ≤ℤ y → pos 0 <ℤ (x +ℤ y)
+ℤ-positive {x} {y} h k = by-lt (x ∷ y ∷ []) (lt h ⊞ k) (search reads) (search reads) tt

*ℤ-positive : {m x : ℤ} → pos 0 <ℤ m → pos 0 <ℤ x → pos 0 <ℤ (m *ℤ x)
*ℤ-positive {m} h k = rw (*ℤ-zero m) at (*ℤ_mono_< h k)

*ℤ-positive-cancel : {m x : ℤ} → pos 0 <ℤ m → pos 0 <ℤ (m *ℤ x) → pos 0 <ℤ x
*ℤ-positive-cancel {m} {x} h k = ⊎_elim (λ (l : x ≤ℤ pos 0). clash_ℤ k (rw (*ℤ-zero m) at (*ℤ_mono (≤ℤ_of_<ℤ h) l))) (λ l. l) (≤ℤ-or-<ℤ x (pos 0))

*ℤ-zero-cancel : {m x : ℤ} → pos 0 <ℤ m → m *ℤ x ≡ pos 0 → x ≡ pos 0
*ℤ-zero-cancel {m} h e = ≤ℤ_antisymm (*ℤ-cancel-≤ h (≤ℤ_of_≡ (e ∙ sym (*ℤ-zero m)))) (*ℤ-cancel-≤ h (≤ℤ_of_≡ (*ℤ-zero m ∙ sym e)))

-- ---- the order of two entries, as the sign of their difference

trichotomy : (x y : ℤ) → (x <ℤ y) ⊎ ((x ≡ y) ⊎ (y <ℤ x))
trichotomy x y = ⊎_elim (λ h. ⊎_elim (λ k. inr (inl (≤ℤ_antisymm h k))) inl (≤ℤ-or-<ℤ y x)) (λ h. inr (inr h)) (≤ℤ-or-<ℤ x y)

≡-difference : {x y : ℤ} → x ≡ y → x +ℤ negsuc 0 *ℤ y ≡ pos 0
≡-difference {x} {y} e = rw e (by_ring (y ∷ []) (search reads) (search reads) tt)

difference-≡ : (x y : ℤ) → x +ℤ negsuc 0 *ℤ y ≡ pos 0 → x ≡ y
difference-≡ x y e = by-eq (x ∷ y ∷ []) (pos 1) e (search reads) (search reads) tt

<ℤ-difference : {x y : ℤ} → x <ℤ y → pos 0 <ℤ (y +ℤ negsuc 0 *ℤ x)
<ℤ-difference {x} {y} h = by-lt (x ∷ y ∷ []) (lt h) (search reads) (search reads) tt

difference-<ℤ : (x y : ℤ) → pos 0 <ℤ (y +ℤ negsuc 0 *ℤ x) → x <ℤ y
difference-<ℤ x y h = by-lt (x ∷ y ∷ []) (lt h) (search reads) (search reads) tt

-- ---- laws of Nonneg

-- only the entries count, not how many zeros follow
pub nonneg_ext : (u v : List ℤ) → ((i : ℕ) → nth u i ≡ nth v i) → Nonneg u → Nonneg v
nonneg_ext u [] e p = tt
nonneg_ext [] (y ∷ v) e p = inr (sym (e zero), nonneg_ext [] v (λ i. e (suc i)) tt)
nonneg_ext (x ∷ u) (y ∷ v) e (inl h) = inl (subst (λ z. pos 0 <ℤ z) (e zero) h)
nonneg_ext (x ∷ u) (y ∷ v) e (inr h) = inr (sym (e zero) ∙ h.0, nonneg_ext u v (λ i. e (suc i)) h.1)

pub nonneg-zeros : (u : List ℤ) → ((i : ℕ) → nth u i ≡ pos 0) → Nonneg u
nonneg-zeros u e = nonneg_ext [] u (λ i. sym (e i)) tt

pub nonneg-⊕ : (u v : List ℤ) → Nonneg u → Nonneg v → Nonneg (u ⊕ v)
unfolding ◌⊕◌
nonneg-⊕ [] v p q = q
nonneg-⊕ (x ∷ u) [] p q = p
nonneg-⊕ (x ∷ u) (y ∷ v) (inl h) q = inl (+ℤ-positive h (head-nonneg y v q))
nonneg-⊕ (x ∷ u) (y ∷ v) (inr h) (inl k) = inl (rw (h.0, +ℤ_idl) k)
nonneg-⊕ (x ∷ u) (y ∷ v) (inr h) (inr k) = inr (rw (h.0, k.0), nonneg-⊕ u v h.1 k.1)

-- ---- multiples: the first entry alone, the rest alone, the whole list

pub nonneg-scale : {m : ℤ} (a : ℤ) (u : List ℤ) → pos 0 <ℤ m → Nonneg (a ∷ u) → Nonneg ((m *ℤ a) ∷ u)
nonneg-scale a u h (inl k) = inl (*ℤ-positive h k)
nonneg-scale {m} a u h (inr k) = inr (rw k.0 (*ℤ-zero m), k.1)

pub nonneg_unscale : {m : ℤ} (a : ℤ) (u : List ℤ) → pos 0 <ℤ m → Nonneg ((m *ℤ a) ∷ u) → Nonneg (a ∷ u)
nonneg_unscale a u h (inl k) = inl (*ℤ-positive-cancel h k)
nonneg_unscale a u h (inr k) = inr (*ℤ-zero-cancel h k.0, k.1)

pub nonneg_tail : (a : ℤ) (u v : List ℤ) → (Nonneg u → Nonneg v) → Nonneg (a ∷ u) → Nonneg (a ∷ v)
nonneg_tail a u v f (inl h) = inl h
nonneg_tail a u v f (inr h) = inr (h.0, f h.1)

pub nonneg-cancel : {n : ℤ} (u : List ℤ) → pos 0 <ℤ n → Nonneg (n ⊙ u) → Nonneg u
unfolding ◌⊙◌
nonneg-cancel [] h p = tt
nonneg-cancel {n} (a ∷ u) h p = nonneg_tail a (n ⊙ u) u (nonneg-cancel u h) (nonneg_unscale a (n ⊙ u) h p)

positive-⊙ : {n : ℤ} (u : List ℤ) → pos 0 <ℤ n → Nonneg u → Nonneg (n ⊙ u)
unfolding ◌⊙◌
positive-⊙ [] h p = tt
positive-⊙ {n} (a ∷ u) h p = nonneg-scale a (n ⊙ u) h (nonneg_tail a u (n ⊙ u) (positive-⊙ u h) p)

pub nonneg-⊙ : {n : ℤ} (u : List ℤ) → pos 0 ≤ℤ n → Nonneg u → Nonneg (n ⊙ u)
nonneg-⊙ {n} u h p =
    ⊎_elim (λ k. positive-⊙ u k p) (λ (e : n ≡ pos 0). nonneg-zeros (n ⊙ u) (λ i. nth-⊙ n u i ∙ rw e (zero-*ℤ (nth u i)))) (positive-or-zero h)

-- ---- a greater first entry

pub nonneg_raise : {a b : ℤ} (u : List ℤ) → a ≤ℤ b → Nonneg (a ∷ u) → Nonneg (b ∷ u)
nonneg_raise u h (inl k) = inl (<ℤ-≤ℤ_trans k h)
nonneg_raise u h (inr k) = ⊎_elim inl (λ e. inr (e, k.1)) (positive-or-zero (rw k.0 at h))

-- ---- a list or its opposite; both for zeros alone

pub nonneg-total : (u : List ℤ) → Nonneg u ⊎ Nonneg (negsuc 0 ⊙ u)
unfolding ◌⊙◌
nonneg-total [] = inl tt
nonneg-total (x ∷ u) = pick (trichotomy x (pos 0)) (nonneg-total u)
  where
    pick : (x <ℤ pos 0) ⊎ ((x ≡ pos 0) ⊎ (pos 0 <ℤ x)) → Nonneg u ⊎ Nonneg (negsuc 0 ⊙ u) → Nonneg (x ∷ u) ⊎ Nonneg (negsuc 0 ⊙ (x ∷ u))
    pick (inl h) r = inr (inl (rw (+ℤ_idl (negsuc 0 *ℤ x)) at (<ℤ-difference h)))
    pick (inr (inl e)) r = ⊎_elim (λ p. inl (inr (e, p))) (λ p. inr (inr (rw e, p))) r
    pick (inr (inr h)) r = inl (inl h)

pub nonneg-anti : (u : List ℤ) → Nonneg u → Nonneg (negsuc 0 ⊙ u) → (i : ℕ) → nth u i ≡ pos 0
unfolding ◌⊙◌
nonneg-anti [] p q i = refl
nonneg-anti (x ∷ u) (inl h) q i = absurd (<ℤ_irrefl (rw (≡-difference {x = x} refl) at (+ℤ-positive h (head-nonneg (negsuc 0 *ℤ x) (negsuc 0 ⊙ u) q))))
nonneg-anti (x ∷ u) (inr h) (inl k) i = absurd (<ℤ_irrefl (rw h.0 at k))
nonneg-anti (x ∷ u) (inr h) (inr k) zero = h.0
nonneg-anti (x ∷ u) (inr h) (inr k) (suc i) = nonneg-anti u h.1 k.1 i

-- ---- below, by the first entries

abbrev first : Bool → Bool → Bool → Bool
first s t b = elim s [ true ↦ true | false ↦ elim t [ true ↦ false | false ↦ b ] ]

pub below-< : {x y : ℤ} (k l : List ℤ) → x <ℤ y → below (x ∷ k) (y ∷ l) ≡ true
below-< {x} {y} k l h = ap (λ s. first s (lt_z y x) (below k l)) (<ℤ-lt_z h)

pub below-> : {x y : ℤ} (k l : List ℤ) → y <ℤ x → below (x ∷ k) (y ∷ l) ≡ false
below-> k l h = ap₂ (λ s t. first s t (below k l)) (≤ℤ-lt_z (≤ℤ_of_<ℤ h)) (<ℤ-lt_z h)

pub below-≡ : {x y : ℤ} (k l : List ℤ) → x ≡ y → below (x ∷ k) (y ∷ l) ≡ below k l
below-≡ k l e = ap₂ (λ s t. first s t (below k l)) (≤ℤ-lt_z (≤ℤ_of_≡ (sym e))) (≤ℤ-lt_z (≤ℤ_of_≡ e))

true-false {ℓ} : {X : Type ℓ} {b : Bool} → b ≡ true → b ≡ false → X
true-false p q = absurd (subst T (sym p ∙ q) tt)

-- ---- below is the sign of the difference. Only the first law asks for equal lengths: below gives false where a list ends

pub below_false : (k l : List ℤ) → length k ≡ length l → below k l ≡ false → Nonneg (k ⊖ l)
unfolding ◌⊕◌ ◌⊙◌
below_false [] [] e q = tt
below_false [] (y ∷ l) e q = absurd (omega arith)
below_false (x ∷ k) [] e q = absurd (omega arith)
below_false (x ∷ k) (y ∷ l) e q = ⊎_elim
    (λ h. true-false (below-< k l h) q)
    (⊎_elim (λ d. inr (≡-difference d, below_false k l (omega arith) (sym (below-≡ k l d) ∙ q))) (λ h. inl (<ℤ-difference h)))
    (trichotomy x y)

pub below_true : (k l : List ℤ) → below k l ≡ true → Nonneg (l ⊖ k)
unfolding ◌⊕◌ ◌⊙◌
below_true [] l q = true-false q refl
below_true (x ∷ k) [] q = true-false q refl
below_true (x ∷ k) (y ∷ l) q = ⊎_elim
    (λ h. inl (<ℤ-difference h))
    (⊎_elim (λ d. inr (≡-difference (sym d), below_true k l (sym (below-≡ k l d) ∙ q))) (λ h. true-false q (below-> k l h)))
    (trichotomy x y)

pub nonneg-below : (k l : List ℤ) → Nonneg (k ⊖ l) → below k l ≡ false
unfolding ◌⊕◌ ◌⊙◌
nonneg-below [] l p = refl
nonneg-below (x ∷ k) [] p = refl
nonneg-below (x ∷ k) (y ∷ l) (inl h) = below-> k l (difference-<ℤ y x h)
nonneg-below (x ∷ k) (y ∷ l) (inr h) = below-≡ k l (difference-≡ x y h.0) ∙ nonneg-below k l h.1

-- ---- so on lists of one length below is a strict linear order

pub below_irrefl : (k : List ℤ) → below k k ≡ false
below_irrefl k = nonneg-below k k (nonneg-zeros (k ⊖ k) (λ i. simp entries (≡-difference {x = nth k i} refl)))

pub below_asymm : (k l : List ℤ) → below k l ≡ true → below l k ≡ false
below_asymm k l q = nonneg-below l k (below_true k l q)

-- negative transitivity
pub below_negtrans : (a b c : List ℤ) → length a ≡ length b → length b ≡ length c → below a b ≡ false → below b c ≡ false → below a c ≡ false
below_negtrans a b c e f p q =
    nonneg-below a c (nonneg_ext ((a ⊖ b) ⊕ (b ⊖ c)) (a ⊖ c) through (nonneg-⊕ (a ⊖ b) (b ⊖ c) (below_false a b e p) (below_false b c f q)))
  where
    through : (i : ℕ) → nth ((a ⊖ b) ⊕ (b ⊖ c)) i ≡ nth (a ⊖ c) i
    through i = simp entries (by_ring (nth a i ∷ nth b i ∷ nth c i ∷ []) (search reads) (search reads) tt)

pub below_antisymm : (k l : List ℤ) → length k ≡ length l → below k l ≡ false → below l k ≡ false → k ≡ l
below_antisymm k l e p q = same e (λ i. difference-≡ (nth k i) (nth l i) (simp entries at (nonneg-anti (k ⊖ l) (below_false k l e p) opposite i)))
  where
    turned : (i : ℕ) → nth (l ⊖ k) i ≡ nth (negsuc 0 ⊙ (k ⊖ l)) i
    turned i = simp entries (by_ring (nth k i ∷ nth l i ∷ []) (search reads) (search reads) tt)

    opposite : Nonneg (negsuc 0 ⊙ (k ⊖ l))
    opposite = nonneg_ext (l ⊖ k) (negsuc 0 ⊙ (k ⊖ l)) turned (below_false l k (sym e) q)

-- a last entry that both lists share does not count
pub below_last : (k l : List ℤ) (j : ℤ) → length k ≡ length l → below (k ++ (j ∷ [])) (l ++ (j ∷ [])) ≡ below k l
below_last [] [] j e = below_irrefl (j ∷ [])
below_last [] (y ∷ l) j e = absurd (omega arith)
below_last (x ∷ k) [] j e = absurd (omega arith)
below_last (x ∷ k) (y ∷ l) j e = ap (first (lt_z x y) (lt_z y x)) (below_last k l j (omega arith))
