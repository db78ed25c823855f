-- Hadamard's inequality: the squared volume of a list is at most the product of its squared lengths. So is the square of each minor,
-- of each term and of each partial sum of a minor's expansion: a program that expands them stays within that size.
use Rattle.std.specs.Prelude.{◌≡◌, refl, Bool, true, false, List, [], ◌∷◌, ℕ, zero, suc, ℤ, pos, ◌+ℤ◌, ◌*ℤ◌, length, ◌≤ℤ◌}
use Rattle.std.proofs.Common.{ap₂, subst}
use Rattle.std.specs.Int.Signed.{≤ℤ_refl}
use Rattle.integers.specs.Identity.{by_ring, reads}
use Rattle.integers.specs.Order.{≤ℤ_trans, ≤ℤ_of_≡, *ℤ_mono, pos-nonneg}
use Rattle.integers.specs.Certificate.{NN, ◌⊞◌, ◌⊠◌, nn-sq, le, by_nn}
use Rattle.lattices.specs.Vector.{Vec, N, dot}
use Rattle.lattices.specs.Laws.Vector.{N-nonneg}
use Rattle.lattices.specs.Volume.{Index, Form, head, rest, unit, wedge, volume, inner, squared_volume}
use Rattle.exterior_algebra.specs.Forms.{half, inner-zero}
use Rattle.exterior_algebra.specs.Exterior.{inner-nonneg, wedge-bound}

-- the product of the squared lengths
abbrev pub product : List Vec → ℤ
product [] = pos 1
product (b ∷ bs) = N b *ℤ product bs

pub product-nonneg : (bs : List Vec) → NN (product bs)
product-nonneg [] = pos-nonneg 1
product-nonneg (b ∷ bs) = N-nonneg b ⊠ product-nonneg bs

pub inner-unit : (m : ℕ) → inner m unit unit ≡ pos 1
inner-unit zero = refl
inner-unit (suc m) = ap₂ ◌+ℤ◌ (inner-unit m) (inner-zero m (half true unit) (half true unit) (λ s e. refl))

pub hadamard : (m : ℕ) (bs : List Vec) → squared_volume m bs ≤ℤ product bs
unfolding squared_volume
hadamard m [] = ≤ℤ_of_≡ (inner-unit m)
hadamard m (b ∷ bs) = ≤ℤ_trans (wedge-bound m b (volume bs)) (*ℤ_mono (N-nonneg b) (hadamard m bs))

-- ---- one entry

≤ℤ-add-r : {x y : ℤ} → NN y → x ≤ℤ (x +ℤ y)
≤ℤ-add-r {x} {y} h = by_nn (x ∷ y ∷ []) h (search reads) (search reads) tt

≤ℤ-add-l : {x y : ℤ} → NN y → x ≤ℤ (y +ℤ x)
≤ℤ-add-l {x} {y} h = by_nn (x ∷ y ∷ []) h (search reads) (search reads) tt

half-≤ : (c : Bool) (m : ℕ) (f : Form) → inner m (half c f) (half c f) ≤ℤ inner (suc m) f f
half-≤ false m f = ≤ℤ-add-r (inner-nonneg m (half true f))
half-≤ true m f = ≤ℤ-add-l (inner-nonneg m (half false f))

pub entry : (f : Form) (s : Index) → (f s *ℤ f s) ≤ℤ inner (length s) f f
entry f [] = ≤ℤ_refl (f [] *ℤ f [])
entry f (c ∷ s) = ≤ℤ_trans (entry (half c f) s) (half-≤ c (length s) f)

pub minor : (bs : List Vec) (s : Index) → (volume bs s *ℤ volume bs s) ≤ℤ product bs
unfolding squared_volume
minor bs s = ≤ℤ_trans (entry (volume bs) s) (hadamard (length s) bs)

-- ---- the parts of an entry of a product, by the recursion of `wedge`

pub wedge-entry : (a : Vec) (ω : Form) (s : Index) → (wedge a ω s *ℤ wedge a ω s) ≤ℤ (N a *ℤ inner (length s) ω ω)
wedge-entry a ω s = ≤ℤ_trans (entry (wedge a ω) s) (wedge-bound (length s) a ω)

pub rest-≤ : (a : Vec) → N (rest a) ≤ℤ N a
unfolding dot
rest-≤ [] = ≤ℤ_refl (pos 0)
rest-≤ (x ∷ a) = ≤ℤ-add-l (nn-sq x)

pub head-≤ : (a : Vec) → (head a *ℤ head a) ≤ℤ N a
unfolding dot
head-≤ [] = ≤ℤ_refl (pos 0)
head-≤ (x ∷ a) = ≤ℤ-add-r (N-nonneg a)

pub *ℤ_mono_both : {a b c d : ℤ} → NN a → NN d → a ≤ℤ b → c ≤ℤ d → (a *ℤ c) ≤ℤ (b *ℤ d)
*ℤ_mono_both {a} {b} {c} {d} p q h k = by_nn (a ∷ b ∷ c ∷ d ∷ []) (le h ⊠ q ⊞ p ⊠ le k) (search reads depth 20) (search reads depth 20) tt

-- the bound of `wedge-entry` does not grow on the way into the recursion
pub descend : (c : Bool) (a : Vec) (ω : Form) (m : ℕ) → (N (rest a) *ℤ inner m (half c ω) (half c ω)) ≤ℤ (N a *ℤ inner (suc m) ω ω)
descend c a ω m = *ℤ_mono_both (N-nonneg (rest a)) (inner-nonneg (suc m) ω) (rest-≤ a) (half-≤ c m ω)

-- the partial sum that is subtracted
pub partial : (a : Vec) (ω : Form) (s : Index) → (wedge (rest a) (half true ω) s *ℤ wedge (rest a) (half true ω) s) ≤ℤ (N a *ℤ inner (suc (length s)) ω ω)
partial a ω s = ≤ℤ_trans (wedge-entry (rest a) (half true ω) s) (descend true a ω (length s))

-- the product that it is subtracted from
pub term : (a : Vec) (ω : Form) (s : Index) → ((head a *ℤ ω (false ∷ s)) *ℤ (head a *ℤ ω (false ∷ s))) ≤ℤ (N a *ℤ inner (suc (length s)) ω ω)
term a ω s =
    subst (λ z. z ≤ℤ (N a *ℤ inner (suc (length s)) ω ω)) (regroup (head a) (ω (false ∷ s)))
    (*ℤ_mono_both (nn-sq (head a)) (inner-nonneg (suc (length s)) ω) (head-≤ a) (entry ω (false ∷ s)))
  where
    regroup : (x y : ℤ) → x *ℤ x *ℤ (y *ℤ y) ≡ x *ℤ y *ℤ (x *ℤ y)
    regroup x y = by_ring (x ∷ y ∷ []) (search reads depth 20) (search reads depth 20) tt
