-- Laws of lists of integers added entry by entry.
use Rattle.std.specs.Prelude.{◌≡◌, refl, List, [], ◌∷◌, ◌++◌, ℕ, zero, suc, max, ℤ, pos, negsuc, ◌+ℤ◌, ◌*ℤ◌, length, replicate}
use Rattle.std.proofs.Common.{sym, ap, ap₂, ◌∙◌, arith}
use Rattle.std.proofs.Math.IntN.{+ℤ_idl, +ℤ_idr, *ℤ-zero}
use Rattle.integers.specs.Lists.{nth, ◌⊕◌, ◌⊙◌, ◌⊖◌}

-- ---- entries, with no word on lengths

pub nth-⊕ : (u v : List ℤ) (i : ℕ) → nth (u ⊕ v) i ≡ nth u i +ℤ nth v i
unfolding ◌⊕◌
nth-⊕ [] v i = sym (+ℤ_idl (nth v i))
nth-⊕ (x ∷ u) [] i = sym (+ℤ_idr (nth (x ∷ u) i))
nth-⊕ (x ∷ u) (y ∷ v) zero = refl
nth-⊕ (x ∷ u) (y ∷ v) (suc i) = nth-⊕ u v i

pub nth-⊙ : (k : ℤ) (v : List ℤ) (i : ℕ) → nth (k ⊙ v) i ≡ k *ℤ nth v i
unfolding ◌⊙◌
nth-⊙ k [] i = sym (*ℤ-zero k)
nth-⊙ k (x ∷ v) zero = refl
nth-⊙ k (x ∷ v) (suc i) = nth-⊙ k v i

-- entry by entry a difference is a ring expression in the entries: what is left is for `by_ring`
pub ruleset entries = (nth-⊕, nth-⊙)

-- the entry behind the last; those before it are List·getD-append of the library
pub nth_last : (u : List ℤ) (j : ℤ) → nth (u ++ (j ∷ [])) (length u) ≡ j
nth_last [] j = refl
nth_last (x ∷ u) j = nth_last u j

-- a list of zeros
pub nth-replicate : (n i : ℕ) → nth (replicate n (pos 0)) i ≡ pos 0
nth-replicate zero i = refl
nth-replicate (suc n) zero = refl
nth-replicate (suc n) (suc i) = nth-replicate n i

-- ---- lengths

pub length-⊕ : (u v : List ℤ) → length (u ⊕ v) ≡ max (length u) (length v)
unfolding ◌⊕◌
length-⊕ [] v = omega arith
length-⊕ (x ∷ u) [] = omega arith
length-⊕ (x ∷ u) (y ∷ v) = omega (arith, length-⊕ u v)

pub length-⊙ : (k : ℤ) (v : List ℤ) → length (k ⊙ v) ≡ length v
unfolding ◌⊙◌
length-⊙ k [] = refl
length-⊙ k (x ∷ v) = ap suc (length-⊙ k v)

pub length-⊕-same : (u v : List ℤ) → length u ≡ length v → length (u ⊕ v) ≡ length u
length-⊕-same u v e = omega (arith, length-⊕ u v)

pub length-⊖-same : (u v : List ℤ) → length u ≡ length v → length (u ⊖ v) ≡ length u
length-⊖-same u v e = length-⊕-same u (negsuc 0 ⊙ v) (e ∙ sym (length-⊙ (negsuc 0) v))

-- ---- extensionality

pub same : {u v : List ℤ} → length u ≡ length v → ((i : ℕ) → nth u i ≡ nth v i) → u ≡ v
same {u = []} {v = []} e f = refl
same {u = []} {v = y ∷ v} e f = absurd (omega arith)
same {u = x ∷ u} {v = []} e f = absurd (omega arith)
same {u = x ∷ u} {v = y ∷ v} e f = ap₂ ◌∷◌ (f zero) (same (omega arith) (λ i. f (suc i)))
