-- How each part of the crate is used, in one line each.
use Rattle.std.specs.Prelude.{◌≡◌, [], ◌∷◌, ℕ, ℤ, pos, ◌+ℤ◌, ◌-ℤ◌, ◌*ℤ◌, ◌≤ℤ◌, ◌<ℤ◌}
use Rattle.std.proofs.Common.{arith, SFits}
use Rattle.std.specs.Int.{w64}
use Rattle.integers.specs.Identity.{by_ring, by-eq, reads}
use Rattle.integers.specs.Certificate.{NN, ◌⊞◌, ◌⊠◌, nn-sq, nn-pos, le, lt, eq, positivity, by_nn, by-lt, nn-false}
use Rattle.integers.specs.Linear.{to_n, to_n-<, to_n-≡, from_n-<, from_n-≡}
use Rattle.integers.specs.Size.{Within, within-sub, within-mul, fits-within}
use Rattle.integers.specs.Division.{up, quot, rest, quot-rest, rest-nonneg}

-- ---- identities: by-ring takes the atoms, and `search` reads the two sides
square_of_sum : (a b : ℤ) → (a +ℤ b) *ℤ (a +ℤ b) ≡ a *ℤ a +ℤ pos 2 *ℤ a *ℤ b +ℤ b *ℤ b
square_of_sum a b = by_ring (a ∷ b ∷ []) (search reads) (search reads) tt

square_of_four : (a b c d : ℤ) → (a +ℤ b +ℤ c +ℤ d) *ℤ (a +ℤ b +ℤ c +ℤ d) ≡ a *ℤ a +ℤ b *ℤ b +ℤ c *ℤ c +ℤ d *ℤ d +ℤ pos 2 *ℤ (a *ℤ b +ℤ a *ℤ c +ℤ a *ℤ d +ℤ b *ℤ c +ℤ b *ℤ d +ℤ c *ℤ d)
square_of_four a b c d = by_ring (a ∷ b ∷ c ∷ d ∷ []) (search reads depth 20) (search reads depth 20) tt

difference_of_squares : (a b : ℤ) → a *ℤ a -ℤ b *ℤ b ≡ (a -ℤ b) *ℤ (a +ℤ b)
difference_of_squares a b = by_ring (a ∷ b ∷ []) (search reads) (search reads) tt

lagrange : (a b c d x y z w : ℤ) → (a *ℤ a +ℤ b *ℤ b +ℤ c *ℤ c +ℤ d *ℤ d) *ℤ (x *ℤ x +ℤ y *ℤ y +ℤ z *ℤ z +ℤ w *ℤ w) -ℤ (a *ℤ x +ℤ b *ℤ y +ℤ c *ℤ z +ℤ d *ℤ w) *ℤ (a *ℤ x +ℤ b *ℤ y +ℤ c *ℤ z +ℤ d *ℤ w) ≡ (a *ℤ y -ℤ b *ℤ x) *ℤ (a *ℤ y -ℤ b *ℤ x) +ℤ (a *ℤ z -ℤ c *ℤ x) *ℤ (a *ℤ z -ℤ c *ℤ x) +ℤ (a *ℤ w -ℤ d *ℤ x) *ℤ (a *ℤ w -ℤ d *ℤ x) +ℤ (b *ℤ z -ℤ c *ℤ y) *ℤ (b *ℤ z -ℤ c *ℤ y) +ℤ (b *ℤ w -ℤ d *ℤ y) *ℤ (b *ℤ w -ℤ d *ℤ y) +ℤ (c *ℤ w -ℤ d *ℤ z) *ℤ (c *ℤ w -ℤ d *ℤ z)
lagrange a b c d x y z w = by_ring (a ∷ b ∷ c ∷ d ∷ x ∷ y ∷ z ∷ w ∷ []) (search reads depth 20 fits 5000) (search reads depth 20 fits 5000) tt

-- atoms that are calls of a function of which nothing is known
square_of_values : (f : ℤ → ℤ → ℤ) (u v : ℤ) → (f u v -ℤ f v u) *ℤ (f u v -ℤ f v u) ≡ f u v *ℤ f u v -ℤ pos 2 *ℤ f u v *ℤ f v u +ℤ f v u *ℤ f v u
square_of_values f u v = by_ring (f u v ∷ f v u ∷ []) (search reads depth 20) (search reads depth 20) tt

-- ---- from an equation: x − y is a multiple of l − r
cube_from-square : (x : ℤ) → x *ℤ x ≡ x +ℤ pos 1 → x *ℤ x *ℤ x ≡ pos 2 *ℤ x +ℤ pos 1
cube_from-square x h = by-eq (x ∷ []) (x +ℤ pos 1) h (search reads depth 20) (search reads depth 20) tt

-- ---- inequalities: the certificate's type is a polynomial that is not negative, and the claimed difference is checked to be it
twice-product : (a b : ℤ) → (pos 2 *ℤ a *ℤ b) ≤ℤ (a *ℤ a +ℤ b *ℤ b)
twice-product a b = by_nn (a ∷ b ∷ []) (nn-sq (a -ℤ b)) (search reads) (search reads) tt

-- hypotheses enter by `le` and `lt`, and may be multiplied
square_increases : (a b : ℤ) → NN a → a <ℤ b → (a *ℤ a) <ℤ (b *ℤ b)
square_increases a b h k = by-lt (a ∷ b ∷ []) (lt k ⊠ (lt k ⊞ nn-pos 2 ⊠ h ⊞ nn-pos 2) ⊞ nn-pos 2 ⊠ h) (search reads) (search reads depth 20) tt

-- for vectors u, v of squared lengths A ≤ B with ⟨u, v⟩ = −c and 2c ≤ A: no pu + qv with p, q ≠ 0 is shorter than u + v
reduced-bound : (A B c p q : ℤ) → NN c → (pos 2 *ℤ c) ≤ℤ A → A ≤ℤ B → NN (p *ℤ p -ℤ pos 1) → NN (q *ℤ q -ℤ pos 1) → (A +ℤ B -ℤ pos 2 *ℤ c) ≤ℤ (p *ℤ p *ℤ A +ℤ q *ℤ q *ℤ B -ℤ pos 2 *ℤ p *ℤ q *ℤ c)
reduced-bound A B c p q n h k P Q =
    by_nn (A ∷ B ∷ c ∷ p ∷ q ∷ []) (n ⊠ (P ⊞ Q ⊞ nn-sq (p -ℤ q)) ⊞ le h ⊠ (P ⊞ Q) ⊞ le k ⊠ Q) (search reads depth 20) (search reads depth 20) tt

-- an equation enters by `eq`, with any coefficient
from_equation : (a b s : ℤ) → a +ℤ b ≡ s → (pos 4 *ℤ a *ℤ b) ≤ℤ (s *ℤ s)
from_equation a b s e = by_nn (a ∷ b ∷ s ∷ []) (nn-sq (a -ℤ b) ⊞ eq (pos 0 -ℤ (a +ℤ b +ℤ s)) e) (search reads depth 20) (search reads depth 20) tt

-- a certificate of −1 refutes
no_integer_between : (x : ℤ) → pos 0 <ℤ x → ¬ (x <ℤ pos 1)
no_integer_between x h k = nn-false (x ∷ []) (lt h ⊞ lt k) (search reads depth 20) tt

not_negative : (x y z : ℤ) → NN z → NN (x *ℤ x *ℤ z +ℤ (y *ℤ y +ℤ pos 3))
not_negative x y z h = search positivity

-- ---- linear goals without a certificate: `omega` finds it; each hypothesis is carried over by `to_n`
chain : (a b c d : ℤ) → (a +ℤ pos 2 *ℤ b) ≤ℤ c → (c -ℤ b) <ℤ d → (a +ℤ b) <ℤ d
chain a b c d h k =
    let ρ = a ∷ b ∷ c ∷ d ∷ [] in
    from_n-< ρ (search reads) (search reads) (omega (arith, to_n ρ (search reads) (search reads) h, to_n-< ρ (search reads) (search reads) k))

sum-is-difference : (x y s : ℤ) → x +ℤ y ≡ s → x -ℤ y ≡ s → y ≡ pos 0
sum-is-difference x y s h k =
    let ρ = x ∷ y ∷ s ∷ [] in
    from_n-≡ ρ (search reads) (search reads) (omega (arith, to_n-≡ ρ (search reads) (search reads) h, to_n-≡ ρ (search reads) (search reads) k))

-- ---- floor division: quotient and remainder are atoms
quotient_bound : (k : ℕ) (w : ℤ) → (quot k w *ℤ up k) ≤ℤ w
quotient_bound k w = by_nn (quot k w ∷ up k ∷ rest k w ∷ w ∷ []) (rest-nonneg k w ⊞ eq (pos 1) (quot-rest k w)) (search reads) (search reads depth 20) tt

-- ---- overflow: bounds are carried along the expression, and the last comparison computes
determinant_fits : (a b c d : ℤ) → Within 1000000000 a → Within 1000000000 b → Within 1000000000 c → Within 1000000000 d → SFits w64 (a *ℤ d -ℤ b *ℤ c)
determinant_fits a b c d ha hb hc hd = fits-within (within-sub (within-mul ha hd) (within-mul hb hc)) tt
