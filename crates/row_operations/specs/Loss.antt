-- A row that loses a combination of other rows, one multiple after the other.
use Rattle.std.specs.Prelude.{◌≡◌, refl, List, [], ◌∷◌, ℕ, zero, suc, ◌+◌, ◌*◌, ◌≤◌, ◌<◌, ℤ, pos, negsuc, nat_abs, ◌*ℤ◌, length, get_or, take}
use Rattle.std.proofs.Common.{sym, ap, ap₂, ◌∙◌, arith}
use Rattle.std.proofs.Math.IntN.{+ℤ_assoc, *ℤ-zero, zero-*ℤ}
use Rattle.integers.specs.Ring.{*ℤ-+ℤ, negsuc-zero-*ℤ}
use Rattle.integers.specs.Size.{Within, within-mul, load, size-add, size-sub}
use Rattle.integers.specs.ListLaws.{entries}
use Rattle.integers.specs.Identity.{by_ring, reads}
use Rattle.lattices.specs.Vector.{nth, comb, ◌⊕◌, ◌⊙◌, ◌⊖◌}

-- ---- sums and multiples of lists, as equations of lists

⊕-nil : (u : List ℤ) → u ⊕ [] ≡ u
unfolding ◌⊕◌
⊕-nil [] = refl
⊕-nil (x ∷ u) = refl

⊕_assoc : (u v w : List ℤ) → (u ⊕ v) ⊕ w ≡ u ⊕ (v ⊕ w)
unfolding ◌⊕◌
⊕_assoc [] v w = refl
⊕_assoc (x ∷ u) [] w = refl
⊕_assoc (x ∷ u) (y ∷ v) [] = refl
⊕_assoc (x ∷ u) (y ∷ v) (z ∷ w) = ap₂ ◌∷◌ (+ℤ_assoc x y z) (⊕_assoc u v w)

⊙-⊕ : (k : ℤ) (u v : List ℤ) → k ⊙ (u ⊕ v) ≡ k ⊙ u ⊕ k ⊙ v
unfolding ◌⊕◌ ◌⊙◌
⊙-⊕ k [] v = refl
⊙-⊕ k (x ∷ u) [] = refl
⊙-⊕ k (x ∷ u) (y ∷ v) = ap₂ ◌∷◌ (*ℤ-+ℤ k x y) (⊙-⊕ k u v)

-- a multiple by 0 changes nothing
pub ⊖-nothing : (a b : List ℤ) → length b ≤ length a → a ⊖ pos 0 ⊙ b ≡ a
unfolding ◌⊕◌ ◌⊙◌
⊖-nothing a [] h = ⊕-nil a
⊖-nothing [] (y ∷ b) h = absurd (omega arith)
⊖-nothing (x ∷ a) (y ∷ b) h = ap₂ ◌∷◌ (by_ring (x ∷ y ∷ []) (search reads) (search reads) tt) (⊖-nothing a b (omega arith))

-- ---- one more row

comb-suc : (j : ℕ) (x : List ℤ) (t : List (List ℤ)) → j < length x → j < length t → comb (take (suc j) x) (take (suc j) t) ≡ comb (take j x) (take j t) ⊕ nth x j ⊙ get_or t j []
unfolding comb ◌⊕◌
comb-suc j [] t h k = absurd (omega arith)
comb-suc j (y ∷ x) [] h k = absurd (omega arith)
comb-suc zero (y ∷ x) (r ∷ t) h k = ⊕-nil (y ⊙ r)
comb-suc (suc j) (y ∷ x) (r ∷ t) h k =
    ap (λ s. y ⊙ r ⊕ s) (comb-suc j x t (omega arith) (omega arith)) ∙ sym (⊕_assoc (y ⊙ r) (comb (take j x) (take j t)) (nth x j ⊙ get_or t j []))

⊖-⊕ : (a u v : List ℤ) → a ⊖ (u ⊕ v) ≡ (a ⊖ u) ⊖ v
⊖-⊕ a u v = ap (λ s. a ⊕ s) (⊙-⊕ (negsuc 0) u v) ∙ sym (⊕_assoc a (negsuc 0 ⊙ u) (negsuc 0 ⊙ v))

-- ---- sizes

pub size-comb : (x : List ℤ) (t : List (List ℤ)) (i : ℕ) → nat_abs (nth (comb x t) i) ≤ load x t i
unfolding comb load
size-comb [] t i = omega arith
size-comb (y ∷ x) [] i = omega arith
size-comb (y ∷ x) (r ∷ t) i = simp entries (omega (arith, size-add (y *ℤ nth r i) (nth (comb x t) i), size-comb x t i))

load_below : (j k : ℕ) (x : List ℤ) (t : List (List ℤ)) (i : ℕ) → j < k → load (take j x) (take j t) i + nat_abs (nth x j *ℤ nth (get_or t j []) i) ≤ load (take k x) (take k t) i
unfolding load
load_below j zero x t i h = absurd (omega arith)
load_below zero (suc k) [] t i h = simp zero-*ℤ (omega arith)
load_below zero (suc k) (y ∷ x) [] i h = simp *ℤ-zero (omega arith)
load_below zero (suc k) (y ∷ x) (r ∷ t) i h = omega arith
load_below (suc j) (suc k) [] t i h = simp zero-*ℤ (omega arith)
load_below (suc j) (suc k) (y ∷ x) [] i h = simp *ℤ-zero (omega arith)
load_below (suc j) (suc k) (y ∷ x) (r ∷ t) i h = omega (arith, load_below j k x t i (omega arith))

-- ---- what is left of a after j of the rows

module _ (x : List ℤ) (t : List (List ℤ)) (a : List ℤ) where
  abbrev pub left : ℕ → List ℤ
  left j = a ⊖ comb (take j x) (take j t)

  pub left-none : left zero ≡ a
  unfolding comb ◌⊙◌
  left-none = ⊕-nil a

  pub left-suc : (j : ℕ) → j < length x → j < length t → left j ⊖ nth x j ⊙ get_or t j [] ≡ left (suc j)
  left-suc j h l = sym (ap (λ s. a ⊖ s) (comb-suc j x t h l) ∙ ⊖-⊕ a (comb (take j x) (take j t)) (nth x j ⊙ get_or t j []))

  pub left-room : (k j i : ℕ) → j < k → nat_abs (nth (left j) i) + nat_abs (nth x j *ℤ nth (get_or t j []) i) ≤ nat_abs (nth a i) + load (take k x) (take k t) i
  left-room k j i h =
      simp (entries, negsuc-zero-*ℤ) (omega (arith, size-sub (nth a i) (nth (comb (take j x) (take j t)) i), size-comb (take j x) (take j t) i, load_below j k x t i h))

  pub left-size : (j i : ℕ) → nat_abs (nth (left j) i) ≤ nat_abs (nth a i) + load (take j x) (take j t) i
  left-size j i = simp (entries, negsuc-zero-*ℤ) (omega (arith, size-sub (nth a i) (nth (comb (take j x) (take j t)) i), size-comb (take j x) (take j t) i))

-- d products of bounded size
pub load-most : {A B : ℕ} (d : ℕ) (x : List ℤ) (t : List (List ℤ)) (i : ℕ) → ((k : ℕ) → Within A (nth x k)) → ((k : ℕ) → Within B (nth (get_or t k []) i)) → load (take d x) (take d t) i ≤ d * (A * B)
unfolding load
load-most zero x t i f g = omega arith
load-most (suc d) [] t i f g = omega arith
load-most (suc d) (y ∷ x) [] i f g = omega arith
load-most (suc d) (y ∷ x) (r ∷ t) i f g = omega (arith, (within-mul (f 0) (g 0)).within, load-most d x t i (λ k. f (suc k)) (λ k. g (suc k)))
