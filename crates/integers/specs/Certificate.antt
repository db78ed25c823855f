-- Inequalities by certificates: a term whose type computes a nonnegative polynomial z (`◌⊞◌`, `◌⊠◌`, `nn-sq`, `le`, `lt`),
-- and a check that the claimed difference is z (`by_nn`, `by-lt`, `nn_ring`, `nn-false`). Find z on paper and write it down.
use Rattle.std.specs.Prelude.{◌≡◌, List, T, ℤ, pos, negsuc, neg_ℤ, ◌+ℤ◌, ◌-ℤ◌, ◌*ℤ◌, ◌≤ℤ◌, ◌<ℤ◌}
use Rattle.std.proofs.Common.{sym, ap, ◌∙◌, subst, subst₂}
use Rattle.std.proofs.Math.IntN.{+ℤ_idl, +ℤ_invr, -ℤ-+ℤ_cancel, *ℤ-zero}
use Rattle.std.specs.Int.Signed.{≤ℤ_refl}
use Rattle.integers.specs.Polynomial.{const, ◌:-◌, norm, is_nil}
use Rattle.integers.specs.Identity.{Is, is-neg, tree, by_ring}
use Rattle.integers.specs.Order.{+ℤ_mono, *ℤ-nonneg, *ℤ-cancel-≤, ≤ℤ_of_≡, add-one-≤ℤ, <ℤ_of_add-one}
pub use Rattle.integers.specs.Order.{square-nonneg as nn-sq, pos-nonneg as nn-pos}

abbrev pub NN : ℤ → Type 0
NN z = pos 0 ≤ℤ z

-- ---- the parts of a certificate

infixl 6 ◌⊞◌
pub ◌⊞◌ : {x y : ℤ} → NN x → NN y → NN (x +ℤ y)
h ⊞ k = +ℤ_mono h k

infixl 7 ◌⊠◌
pub ◌⊠◌ : {x y : ℤ} → NN x → NN y → NN (x *ℤ y)
h ⊠ k = *ℤ-nonneg h k

pub le : {a b : ℤ} → a ≤ℤ b → NN (b -ℤ a)
le {a} {b} h = subst (λ z. z ≤ℤ (b -ℤ a)) (+ℤ_invr a) (+ℤ_mono h (≤ℤ_refl (neg_ℤ a)))

pub lt : {a b : ℤ} → a <ℤ b → NN (b -ℤ (a +ℤ pos 1))
lt h = le (add-one-≤ℤ h)

-- an equation, with a coefficient of any sign
pub eq : {l r : ℤ} (c : ℤ) → l ≡ r → NN (c *ℤ (l -ℤ r))
eq {l} {r} c h = ≤ℤ_of_≡ (sym (ap (λ z. c *ℤ (z -ℤ r)) h ∙ ap (λ z. c *ℤ z) (+ℤ_invr r) ∙ *ℤ-zero c))

pub nn_cancel : {n x : ℤ} → pos 0 <ℤ n → NN (n *ℤ x) → NN x
nn_cancel {n} {x} h k = *ℤ-cancel-≤ h (subst (λ z. z ≤ℤ (n *ℤ x)) (sym (*ℤ-zero n)) k)

-- `search positivity` proves that sums of products of squares, numerals and hypotheses are not negative
pub ruleset positivity = (nn-sq, nn-pos, ◌⊞◌, ◌⊠◌)

-- ---- conclusions

pub le_of_nn : (a b : ℤ) → NN (b -ℤ a) → a ≤ℤ b
le_of_nn a b h = subst₂ ◌≤ℤ◌ (+ℤ_idl a) (-ℤ-+ℤ_cancel b a) (+ℤ_mono h (≤ℤ_refl a))

pub nn_ring : (ρ : List ℤ) {w z : ℤ} → NN z → (p : Is ρ w) (q : Is ρ z) → T (is_nil (norm (tree p :- tree q))) → NN w
nn_ring ρ h p q t = subst NN (sym (by_ring ρ p q t)) h

pub by_nn : (ρ : List ℤ) {a b z : ℤ} → NN z → (p : Is ρ (b -ℤ a)) (q : Is ρ z) → T (is_nil (norm (tree p :- tree q))) → a ≤ℤ b
by_nn ρ {a} {b} h p q t = le_of_nn a b (nn_ring ρ h p q t)

pub by-lt : (ρ : List ℤ) {a b z : ℤ} → NN z → (p : Is ρ (b -ℤ (a +ℤ pos 1))) (q : Is ρ z) → T (is_nil (norm (tree p :- tree q))) → a <ℤ b
by-lt ρ h p q t = <ℤ_of_add-one (by_nn ρ h p q t)

-- a certificate of −1 refutes its hypotheses
pub nn-false {ℓ} : {X : Type ℓ} (ρ : List ℤ) {z : ℤ} → NN z → (q : Is ρ z) → T (is_nil (norm (const (negsuc 0) :- tree q))) → X
nn-false ρ h q t = absurd (nn_ring ρ h (is-neg 0) q t).le
