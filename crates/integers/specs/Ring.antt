-- ℤ is a commutative ring: the laws that lib.IntN leaves out, and cancellation of sums.
use Rattle.std.specs.Prelude.{◌≡◌, zero, suc, ℤ, pos, negsuc, neg_ℤ, ◌+ℤ◌, ◌-ℤ◌, ◌*ℤ◌}
use Rattle.std.proofs.Common.{sym, ◌∙◌, ap, ap₂}
use Rattle.std.proofs.Math.IntN.{suc_ℤ, pred_ℤ, one, suc_ℤ-+ℤ, pred_ℤ-+ℤ, +ℤ_idl, +ℤ_assoc, +ℤ_comm, +ℤ_invr, +ℤ_invl, suc_ℤ-*ℤ, pred_ℤ-*ℤ, zero-*ℤ, *ℤ_comm, *ℤ-one}

-- induction by successor and predecessor; unlike ℤ-ind its steps hold at every integer, so no proof looks at a sign
pub sucℤ-predℤ-ind {ℓ} : (P : ℤ → Type ℓ) → P (pos zero) → ((k : ℤ) → P k → P (suc_ℤ k)) → ((k : ℤ) → P k → P (pred_ℤ k)) → (k : ℤ) → P k
sucℤ-predℤ-ind P z s p (pos zero) = z
sucℤ-predℤ-ind P z s p (pos (suc n)) = s (pos n) (sucℤ-predℤ-ind P z s p (pos n))
sucℤ-predℤ-ind P z s p (negsuc zero) = p (pos zero) z
sucℤ-predℤ-ind P z s p (negsuc (suc n)) = p (negsuc n) (sucℤ-predℤ-ind P z s p (negsuc n))

-- ---- sums
pub +ℤ-left_comm : (a b c : ℤ) → a +ℤ (b +ℤ c) ≡ b +ℤ (a +ℤ c)
+ℤ-left_comm a b c = sym (+ℤ_assoc a b c) ∙ ap (λ x. x +ℤ c) (+ℤ_comm a b) ∙ +ℤ_assoc b a c

pub ruleset +ℤ-ac = (+ℤ_assoc, +ℤ_comm, +ℤ-left_comm)

pub +ℤ-cancel-l : (a : ℤ) {b c : ℤ} → a +ℤ b ≡ a +ℤ c → b ≡ c
+ℤ-cancel-l a {b} {c} h = sym (back b) ∙ ap (λ x. neg_ℤ a +ℤ x) h ∙ back c
  where
    back : (x : ℤ) → neg_ℤ a +ℤ (a +ℤ x) ≡ x
    back x = sym (+ℤ_assoc (neg_ℤ a) a x) ∙ ap (λ y. y +ℤ x) (+ℤ_invl a) ∙ +ℤ_idl x

pub +ℤ-cancel-r : {a b : ℤ} (c : ℤ) → a +ℤ c ≡ b +ℤ c → a ≡ b
+ℤ-cancel-r {a} {b} c h = +ℤ-cancel-l c (+ℤ_comm c a ∙ h ∙ +ℤ_comm b c)

-- Int.sub_eq_zero, one way: the other is +ℤ_invr
pub -ℤ-zero : (a b : ℤ) → a -ℤ b ≡ pos 0 → a ≡ b
-ℤ-zero a b h = +ℤ-cancel-r (neg_ℤ b) (h ∙ sym (+ℤ_invr b))

-- ---- distributivity
pub +ℤ-*ℤ : (a b c : ℤ) → (a +ℤ b) *ℤ c ≡ a *ℤ c +ℤ b *ℤ c
+ℤ-*ℤ a b c = sucℤ-predℤ-ind (λ x. (x +ℤ b) *ℤ c ≡ x *ℤ c +ℤ b *ℤ c)
    (simp (+ℤ_idl, zero-*ℤ))
    (λ k ih. simp (suc_ℤ-+ℤ, suc_ℤ-*ℤ, ih) (simp +ℤ-ac))
    (λ k ih. simp (pred_ℤ-+ℤ, pred_ℤ-*ℤ, ih) (simp +ℤ-ac))
    a

pub *ℤ-+ℤ : (a b c : ℤ) → a *ℤ (b +ℤ c) ≡ a *ℤ b +ℤ a *ℤ c
*ℤ-+ℤ a b c = *ℤ_comm a (b +ℤ c) ∙ +ℤ-*ℤ b c a ∙ ap₂ ◌+ℤ◌ (*ℤ_comm b a) (*ℤ_comm c a)

-- ---- negation and difference of products
pub negℤ-*ℤ : (a b : ℤ) → neg_ℤ a *ℤ b ≡ neg_ℤ (a *ℤ b)
negℤ-*ℤ a b = +ℤ-cancel-r (a *ℤ b) (sym (+ℤ-*ℤ (neg_ℤ a) a b) ∙ ap (λ x. x *ℤ b) (+ℤ_invl a) ∙ zero-*ℤ b ∙ sym (+ℤ_invl (a *ℤ b)))

-- ---- products
pub *ℤ_assoc : (a b c : ℤ) → (a *ℤ b) *ℤ c ≡ a *ℤ (b *ℤ c)
*ℤ_assoc a b c = sucℤ-predℤ-ind (λ x. (x *ℤ b) *ℤ c ≡ x *ℤ (b *ℤ c))
    (simp zero-*ℤ)
    (λ k ih. simp (suc_ℤ-*ℤ, +ℤ-*ℤ, ih))
    (λ k ih. simp (pred_ℤ-*ℤ, +ℤ-*ℤ, negℤ-*ℤ, ih))
    a

pub *ℤ-left_comm : (a b c : ℤ) → a *ℤ (b *ℤ c) ≡ b *ℤ (a *ℤ c)
*ℤ-left_comm a b c = sym (*ℤ_assoc a b c) ∙ ap (λ x. x *ℤ c) (*ℤ_comm a b) ∙ *ℤ_assoc b a c

pub ruleset *ℤ-ac = (*ℤ_assoc, *ℤ_comm, *ℤ-left_comm)

-- lib.IntN's *ℤ-one speaks of the shut name `one`; these of the numerals 1 and −1
pub *ℤ-pos-one : (k : ℤ) → k *ℤ pos 1 ≡ k
unfolding one
*ℤ-pos-one k = *ℤ-one k

pub pos-one-*ℤ : (k : ℤ) → pos 1 *ℤ k ≡ k
pos-one-*ℤ k = *ℤ_comm (pos 1) k ∙ *ℤ-pos-one k

pub negsuc-zero-*ℤ : (k : ℤ) → negsuc 0 *ℤ k ≡ neg_ℤ k
negsuc-zero-*ℤ k = negℤ-*ℤ (pos 1) k ∙ ap neg_ℤ (pos-one-*ℤ k)
