-- The rounded solution: rows of the Gram matrix taken away one after the other, what fits on the way, and what the squared length changes by.
use Rattle.std.specs.Prelude.{replicate, set, ◌≡◌, List, [], ◌∷◌, ℕ, ◌+◌, ◌*◌, ◌≤◌, ◌<◌, ℤ, pos, negsuc, nat_abs, ◌+ℤ◌, ◌*ℤ◌, length, get_or, take}
use Rattle.std.proofs.Common.{sym, ap, ◌∙◌, subst, arith}
use Rattle.std.proofs.Math.Decide.{ℕ_discrete}
use Rattle.std.proofs.Common.{get_or-set_same, get_or-set_other}
use Rattle.integers.specs.Identity.{by_ring, reads}
use Rattle.integers.specs.Size.{Within, load, within-le, within-add, within-mul, size-mul}
use Rattle.integers.specs.ListLaws.{same, entries, length-⊙, nth-replicate}
use Rattle.lattices.specs.Vector.{nth, comb, ◌⊕◌, ◌⊖◌, ◌⊙◌}
use Rattle.lattices.specs.Laws.Vector.{◌≈◌, ≈_refl, ≈_trans, ≈_of_≡, ≈_sym, ≈-⊕, ≈-⊙}
use Rattle.row_operations.specs.Loss.{left-size, load-most}
use Rattle.row_operations.specs.Minus.{room}
use Rattle.successive_minima.specs.Laws.Digits.{Bounded}
use Rattle.nearest_steps.specs.Numbers.{moved}
use Rattle.nearest_steps.specs.State.{comb-front}

-- what a combination of d rows takes from a place
pub combination-room : (d : ℕ) (e : List ℤ) (t : List (List ℤ)) (i : ℕ) → d ≤ 4 → Bounded 32768 e → ((i j : ℕ) → Within 400000000 (nth (get_or t i []) j)) → load (take d e) (take d t) i ≤ 52428800000000
combination-room d e t i h b g = omega (arith, load-most {A = 32768} {B = 400000000} d e t i b (λ k. g k i))

-- a combination of the first d rows is taken away: what is left, where the coefficients from d on are 0, and its size
pub combination-left : (d : ℕ) (t : List (List ℤ)) (e r : List ℤ) {s : List ℤ} → d ≤ 4 → ((j : ℕ) → d ≤ j → nth e j ≡ pos 0) → Bounded 32768 e → ((i j : ℕ) → Within 400000000 (nth (get_or t i []) j)) → Bounded 2000000000 r
    → s ≡ r ⊖ comb (take d e) (take d t) → (s ≈ moved t r e) × Bounded 60000000000000 s
combination-left d t e r {s} h z b g f p = (
  ≈_trans (≈_of_≡ p) (≈-⊕ ≈_refl (≈-⊙ (negsuc 0) (≈_sym (comb-front d e t z)))),
  λ i. subst (Within 60000000000000) (ap (λ l. nth l i) (sym p)) (record { within = omega (arith, left-size e t r d i, combination-room d e t i h b g, (f i).within) }),
)

-- ---- the rounded solution, number by number

pub rounded-none : (d : ℕ) → Bounded 32768 (replicate 4 (pos 0)) × ((j : ℕ) → d ≤ j → nth (replicate 4 (pos 0)) j ≡ pos 0)
rounded-none d = (λ i. subst (Within 32768) (sym (nth-replicate 4 i)) (record { within = omega arith }), λ j h. nth-replicate 4 j)

pub rounded-next : (e : List ℤ) (i : ℕ) (v : ℤ) → i < length e → Bounded 32768 e → ((j : ℕ) → i ≤ j → nth e j ≡ pos 0) → Within 32768 v → Bounded 32768 (set e i v) × ((j : ℕ) → i + 1 ≤ j → nth (set e i v) j ≡ pos 0)
rounded-next e i v h b z w = (λ j. at j (ℕ_discrete j i), λ j l. get_or-set_other e i j v (pos 0) (λ q. omega arith) ∙ z j (omega arith))
  where
    at : (j : ℕ) → Dec (j ≡ i) → Within 32768 (nth (set e i v) j)
    at j (yes q) = rw q (subst (Within 32768) (sym (get_or-set_same e i v (pos 0) h)) w)
    at j (no q) = subst (Within 32768) (sym (get_or-set_other e i j v (pos 0) q)) (b j)

-- ---- the sum of two lists, as what `lose` leaves of one when the other is taken −1 times

pub sum_is : (x e : List ℤ) → x ⊖ negsuc 0 ⊙ e ≡ x ⊕ e
sum_is x e = ap (λ l. x ⊕ l) (same (length-⊙ (negsuc 0) (negsuc 0 ⊙ e) ∙ length-⊙ (negsuc 0) e) (λ i. simp entries (by_ring (nth e i ∷ []) (search reads) (search reads) tt)))

pub sum_room : (x e : List ℤ) → ((i : ℕ) → nat_abs (nth x i) + nat_abs (nth e i) ≤ room) → (i : ℕ) → nat_abs (nth x i) + nat_abs (negsuc 0 *ℤ nth e i) ≤ room
sum_room x e h i = omega (arith, h i, size-mul (negsuc 0) (nth e i))

pub list-room : (x e : List ℤ) → Bounded 30000000 x → Bounded 30000000 e → (i : ℕ) → nat_abs (nth x i) + nat_abs (nth e i) ≤ room
list-room x e h k i = omega (arith, (h i).within, (k i).within)

-- ---- what the products of a step fit in

pub step_room : (r s : List ℤ) → Bounded 2000000000 r → Bounded 60000000000000 s → (i : ℕ) → nat_abs (nth r i) + nat_abs (nth s i) ≤ room
step_room r s f h i = omega (arith, (f i).within, (h i).within)

pub step-products : (A B C : ℕ) (e r s : List ℤ) → A * (B + C) ≤ 2000000000000000000 → Bounded A e → Bounded B r → Bounded C s → (i : ℕ) → Within 2000000000000000000 (nth e i *ℤ (nth r i +ℤ nth s i))
step-products A B C e r s h f g k i = within-le h (within-mul (f i) (within-add (g i) (k i)))
