-- The laws of the exterior product: the contraction is its adjoint, both together are a multiplication by the inner product
-- (Clifford's relation), and two exterior products change sign when exchanged. Hence |a ∧ ω| ≤ |a|·|ω|.
use Rattle.std.specs.Prelude.{◌≡◌, refl, true, false, [], ◌∷◌, ℕ, zero, suc, ℤ, pos, negsuc, neg_ℤ, ◌+ℤ◌, ◌-ℤ◌, ◌*ℤ◌, length, ◌≤ℤ◌}
use Rattle.std.proofs.Common.{sym, ap, ap₂, ◌∙◌}
use Rattle.std.proofs.Math.IntN.{pos-ne-negsuc}
use Rattle.integers.specs.Identity.{by_ring, reads}
use Rattle.integers.specs.Ring.{negsuc-zero-*ℤ}
use Rattle.integers.specs.Order.{+ℤ_mono_r}
use Rattle.integers.specs.Certificate.{NN, ◌⊞◌, ◌⊠◌, nn-sq, le, eq, by_nn}
use Rattle.lattices.specs.Vector.{Vec, N, dot}
use Rattle.lattices.specs.Laws.Vector.{N-nonneg}
use Rattle.lattices.specs.Volume.{Index, Form, head, rest, wedge, inner}
use Rattle.exterior_algebra.specs.Forms.{half, contract, dot_on, Lin, wedge-lin, contract-lin, inner-lin, inner-linˡ, inner-on, inner_comm, Multiple, multiple_of, wedge-multiple, inner-scale}

-- ---- the halves of a product and of a contraction, as combinations

wedge_true : (a : Vec) (ω : Form) → Lin (head a) (half false ω) (negsuc 0) (wedge (rest a) (half true ω)) (half true (wedge a ω))
wedge_true a ω =
    record { lin = λ s. by_ring (head a ∷ ω (false ∷ s) ∷ wedge (rest a) (half true ω) s ∷ []) (search reads) (search reads) tt }

contract_false : (a : Vec) (ω : Form) → Lin (pos 1) (contract (rest a) (half false ω)) (head a) (half true ω) (half false (contract a ω))
contract_false a ω =
    record { lin = λ s. by_ring (contract (rest a) (half false ω) s ∷ head a ∷ ω (true ∷ s) ∷ []) (search reads) (search reads) tt }

contract_true : (a : Vec) (ω : Form) → Multiple (negsuc 0) (contract (rest a) (half true ω)) (half true (contract a ω))
contract_true a ω = record { multiple = λ s. sym (negsuc-zero-*ℤ (contract (rest a) (half true ω) s)) }

-- ---- adjoint

pub adjoint : (m : ℕ) (a : Vec) (ω η : Form) → inner m (wedge a ω) η ≡ inner m ω (contract a η)
adjoint zero a ω η = by_ring (η [] ∷ ω [] ∷ []) (search reads) (search reads) tt
adjoint (suc m) a ω η =
    ap₂ ◌+ℤ◌ (adjoint m (rest a) (half false ω) (half false η)) (inner-linˡ m (half true η) (wedge_true a ω))
    ∙ ap (λ z. x +ℤ (head a *ℤ y +ℤ negsuc 0 *ℤ z)) (adjoint m (rest a) (half true ω) (half true η))
    ∙ regroup (head a) x y (inner m (half true ω) (contract (rest a) (half true η)))
    ∙ sym (ap₂ ◌+ℤ◌ (inner-lin m (half false ω) (contract_false a η)) (inner-scale m (half true ω) (contract_true a η)))
  where
    x : ℤ
    x = inner m (half false ω) (contract (rest a) (half false η))

    y : ℤ
    y = inner m (half false ω) (half true η)

    regroup : (c x y z : ℤ) → x +ℤ (c *ℤ y +ℤ negsuc 0 *ℤ z) ≡ (pos 1 *ℤ x +ℤ c *ℤ y) +ℤ negsuc 0 *ℤ z
    regroup c x y z = by_ring (c ∷ x ∷ y ∷ z ∷ []) (search reads depth 20) (search reads depth 20) tt

pub adjointʳ : (m : ℕ) (a : Vec) (χ ω : Form) → inner m χ (wedge a ω) ≡ inner m (contract a χ) ω
adjointʳ m a χ ω = inner_comm m χ (wedge a ω) ∙ adjoint m a ω χ ∙ inner_comm m ω (contract a χ)

-- ---- Clifford's relation

collect : (x y c : ℤ) → y *ℤ c +ℤ x *ℤ c ≡ (x +ℤ y) *ℤ c
collect x y c = by_ring (x ∷ y ∷ c ∷ []) (search reads depth 20) (search reads depth 20) tt

pub clifford : (a b : Vec) (ω : Form) (s : Index) → contract a (wedge b ω) s +ℤ wedge b (contract a ω) s ≡ dot_on (length s) a b *ℤ ω s
clifford a b ω [] = by_ring (ω [] ∷ []) (search reads) (search reads) tt
clifford a b ω (false ∷ s) =
    ap (λ z. (u +ℤ head a *ℤ (head b *ℤ ω (false ∷ s) -ℤ v)) +ℤ z) ((wedge-lin (rest b) (contract_false a ω)).lin s)
    ∙ regroup (head a) (head b) (ω (false ∷ s)) u v (wedge (rest b) (contract (rest a) (half false ω)) s)
    ∙ ap (λ z. z +ℤ head a *ℤ head b *ℤ ω (false ∷ s)) (clifford (rest a) (rest b) (half false ω) s)
    ∙ collect (head a *ℤ head b) (dot_on (length s) (rest a) (rest b)) (ω (false ∷ s))
  where
    u : ℤ
    u = contract (rest a) (wedge (rest b) (half false ω)) s

    v : ℤ
    v = wedge (rest b) (half true ω) s

    regroup : (a b c u v w : ℤ) → (u +ℤ a *ℤ (b *ℤ c -ℤ v)) +ℤ (pos 1 *ℤ w +ℤ a *ℤ v) ≡ (u +ℤ w) +ℤ a *ℤ b *ℤ c
    regroup a b c u v w = by_ring (a ∷ b ∷ c ∷ u ∷ v ∷ w ∷ []) (search reads depth 20) (search reads depth 20) tt
clifford a b ω (true ∷ s) =
    ap (λ z. neg_ℤ z +ℤ wedge b (contract a ω) (true ∷ s)) ((contract-lin (rest a) (wedge_true b ω)).lin s)
    ∙ ap (λ z. neg_ℤ (head b *ℤ v +ℤ negsuc 0 *ℤ u) +ℤ (head b *ℤ (v +ℤ head a *ℤ ω (true ∷ s)) -ℤ z)) ((wedge-multiple (rest b) (contract_true a ω)).multiple s)
    ∙ regroup (head a) (head b) (ω (true ∷ s)) u v (wedge (rest b) (contract (rest a) (half true ω)) s)
    ∙ ap (λ z. z +ℤ head a *ℤ head b *ℤ ω (true ∷ s)) (clifford (rest a) (rest b) (half true ω) s)
    ∙ collect (head a *ℤ head b) (dot_on (length s) (rest a) (rest b)) (ω (true ∷ s))
  where
    u : ℤ
    u = contract (rest a) (wedge (rest b) (half true ω)) s

    v : ℤ
    v = contract (rest a) (half false ω) s

    regroup : (a b c u v w : ℤ) → neg_ℤ (b *ℤ v +ℤ negsuc 0 *ℤ u) +ℤ (b *ℤ (v +ℤ a *ℤ c) -ℤ negsuc 0 *ℤ w) ≡ (u +ℤ w) +ℤ a *ℤ b *ℤ c
    regroup a b c u v w = by_ring (a ∷ b ∷ c ∷ u ∷ v ∷ w ∷ []) (search reads depth 20) (search reads depth 20) tt

-- the same under the inner product with a form
pub clifford-inner : (m : ℕ) (a b : Vec) (χ ω : Form) → inner m χ (contract a (wedge b ω)) +ℤ inner m χ (wedge b (contract a ω)) ≡ dot_on m a b *ℤ inner m χ ω
clifford-inner m a b χ ω =
    by_ring (x ∷ y ∷ []) (search reads depth 20) (search reads depth 20) tt
    ∙ sym (inner-lin m χ sum)
    ∙ inner-on m χ both (λ s. dot_on m a b *ℤ ω s) (λ s e. clifford a b ω s ∙ ap (λ n. dot_on n a b *ℤ ω s) e)
    ∙ inner-scale m χ (multiple_of (dot_on m a b) ω (λ s. refl))
  where
    x : ℤ
    x = inner m χ (contract a (wedge b ω))

    y : ℤ
    y = inner m χ (wedge b (contract a ω))

    both : Form
    both s = contract a (wedge b ω) s +ℤ wedge b (contract a ω) s

    sum : Lin (pos 1) (contract a (wedge b ω)) (pos 1) (wedge b (contract a ω)) both
    sum = record { lin = λ s. by_ring (contract a (wedge b ω) s ∷ wedge b (contract a ω) s ∷ []) (search reads) (search reads) tt }

pub pythagoras : (m : ℕ) (a : Vec) (ω : Form) → inner m (wedge a ω) (wedge a ω) +ℤ inner m (contract a ω) (contract a ω) ≡ dot_on m a a *ℤ inner m ω ω
pythagoras m a ω =
    ap₂ ◌+ℤ◌ (adjoint m a ω (wedge a ω)) (sym (adjointʳ m a ω (contract a ω))) ∙ clifford-inner m a a ω ω

-- ---- the bound

pub inner-nonneg : (m : ℕ) (f : Form) → NN (inner m f f)
inner-nonneg zero f = nn-sq (f [])
inner-nonneg (suc m) f = inner-nonneg m (half false f) ⊞ inner-nonneg m (half true f)

pub dot_on-≤ : (m : ℕ) (a : Vec) → dot_on m a a ≤ℤ N a
unfolding dot
dot_on-≤ zero a = N-nonneg a
dot_on-≤ (suc m) [] = +ℤ_mono_r (pos 0) (dot_on-≤ m [])
dot_on-≤ (suc m) (x ∷ a) = +ℤ_mono_r (x *ℤ x) (dot_on-≤ m a)

pub wedge-bound : (m : ℕ) (a : Vec) (ω : Form) → inner m (wedge a ω) (wedge a ω) ≤ℤ (N a *ℤ inner m ω ω)
wedge-bound m a ω =
    by_nn (N a ∷ dot_on m a a ∷ inner m ω ω ∷ inner m (wedge a ω) (wedge a ω) ∷ inner m (contract a ω) (contract a ω) ∷ [])
    (le (dot_on-≤ m a) ⊠ inner-nonneg m ω ⊞ inner-nonneg m (contract a ω) ⊞ eq (negsuc 0) (pythagoras m a ω))
    (search reads depth 20) (search reads depth 20) tt

-- ---- exchange

pub anti : (a b : Vec) (ω : Form) (s : Index) → wedge a (wedge b ω) s ≡ neg_ℤ (wedge b (wedge a ω) s)
anti a b ω [] = refl
anti a b ω (false ∷ s) = anti (rest a) (rest b) (half false ω) s
anti a b ω (true ∷ s) =
    ap (λ z. head a *ℤ x -ℤ z) ((wedge-lin (rest a) (wedge_true b ω)).lin s)
    ∙ ap (λ z. head a *ℤ x -ℤ (head b *ℤ y +ℤ negsuc 0 *ℤ z)) (anti (rest a) (rest b) (half true ω) s)
    ∙ regroup (head a) (head b) x y (wedge (rest b) (wedge (rest a) (half true ω)) s)
    ∙ ap (λ z. neg_ℤ (head b *ℤ y -ℤ z)) (sym ((wedge-lin (rest b) (wedge_true a ω)).lin s))
  where
    x : ℤ
    x = wedge (rest b) (half false ω) s

    y : ℤ
    y = wedge (rest a) (half false ω) s

    regroup : (a b x y z : ℤ) → a *ℤ x -ℤ (b *ℤ y +ℤ negsuc 0 *ℤ neg_ℤ z) ≡ neg_ℤ (b *ℤ y -ℤ (a *ℤ x +ℤ negsuc 0 *ℤ z))
    regroup a b x y z = by_ring (a ∷ b ∷ x ∷ y ∷ z ∷ []) (search reads depth 20) (search reads depth 20) tt

zero_of_opposite : (x : ℤ) → x ≡ neg_ℤ x → x ≡ pos 0
zero_of_opposite (pos zero) e = refl
zero_of_opposite (pos (suc n)) e = absurd (pos-ne-negsuc (suc n) n e)
zero_of_opposite (negsuc n) e = absurd (pos-ne-negsuc (suc n) n (sym e))

pub square : (a : Vec) (ω : Form) (s : Index) → wedge a (wedge a ω) s ≡ pos 0
square a ω s = zero_of_opposite (wedge a (wedge a ω) s) (anti a a ω s)
