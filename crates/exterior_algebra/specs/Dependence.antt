-- A list is dependent exactly when its volume is zero, so `is_dependent` decides `Dependent`; more vectors than coordinates are
-- dependent. The coefficients of a dependent list are computed, by contraction of its volume.
use Rattle.std.specs.Prelude.{◌≡◌, refl, ◌≢◌, ◌↔◌, ◌⊎◌, true, false, List, [], ◌∷◌, ℕ, zero, suc, ◌≤◌, ◌<◌, ℤ, pos, negsuc, neg_ℤ, ◌+ℤ◌, ◌-ℤ◌, ◌*ℤ◌, length, get_or, ◌≤ℤ◌, ◌<ℤ◌}
use Rattle.std.proofs.Common.{sym, ap, ap₂, ◌∙◌, inl, inr, zero-le, suc-le-suc, le_of_suc-le-suc, not-suc-le-zero, arith}
use Rattle.std.proofs.Math.Decide.{dec_lt}
use Rattle.std.proofs.Math.IntN.{*ℤ-zero, zero-*ℤ}
use Rattle.std.proofs.Math.ListN.{get_or-eq_default}
use Rattle.std.specs.Int.Signed.{le_z}
use Rattle.integers.specs.Identity.{by_ring, by-eq, reads}
use Rattle.integers.specs.Order.{≤ℤ_trans, ≤ℤ_of_≡, ≤ℤ_antisymm, ≤ℤ-or-<ℤ, zero_or_not, zero_of_square, le_z_true, le_z_false, ≤ℤ-le_z, <ℤ-le_z}
use Rattle.integers.specs.Certificate.{NN}
use Rattle.integers.specs.ListLaws.{length-⊕, length-⊙}
use Rattle.lattices.specs.Vector.{Vec, N, nth, dot, comb, ◌⊙◌, Zero, Dependent, Independent}
use Rattle.lattices.specs.Laws.Vector.{definite, N-zero}
use Rattle.lattices.specs.Volume.{Index, Form, head, rest, unit, wedge, volume, inner, squared_volume, is_dependent}
use Rattle.exterior_algebra.specs.Forms.{half, contract, dot_on, dot_on-step, dot_on-nil, Lin, contract-lin, inner-linˡ, inner-zero}
use Rattle.exterior_algebra.specs.Exterior.{adjoint, adjointʳ, clifford-inner, inner-nonneg}
use Rattle.exterior_algebra.specs.Hadamard.{inner-unit, entry, product}
use Rattle.exterior_algebra.specs.Cramer.{put, sizes}
use Rattle.exterior_algebra.specs.Minors.{marks, marks-≤}

-- every vector has at most m coordinates (the one beyond the end is [])
abbrev pub Fit : ℕ → List Vec → Type 0
Fit m bs = (i : ℕ) → length (get_or bs i []) ≤ m

pub squared_volume-nonneg : (m : ℕ) (bs : List Vec) → NN (squared_volume m bs)
unfolding squared_volume
squared_volume-nonneg m bs = inner-nonneg m (volume bs)

-- ---- what has square zero is zero

inner-definite : (m : ℕ) (η ω : Form) → inner m ω ω ≡ pos 0 → inner m η ω ≡ pos 0
inner-definite m η ω e = inner-zero m η ω (λ s l. zero_of_square (ω s) (≤ℤ_trans (entry ω s) (≤ℤ_of_≡ (ap (λ n. inner n ω ω) l ∙ e))))

-- ---- a volume of zero gives coefficients

-- the coefficients of the contraction of the volume by a form
coefficients_of : ℕ → Form → List Vec → List ℤ
coefficients_of m χ [] = []
coefficients_of m χ (b ∷ bs) = inner m χ (volume bs) ∷ coefficients_of m (λ s. neg_ℤ (contract b χ s)) bs

count_of : (m : ℕ) (χ : Form) (bs : List Vec) → length (coefficients_of m χ bs) ≡ length bs
unfolding coefficients_of
count_of m χ [] = refl
count_of m χ (b ∷ bs) = ap suc (count_of m (λ s. neg_ℤ (contract b χ s)) bs)

contract-zero : (a : Vec) (ω : Form) → ((s : Index) → ω s ≡ pos 0) → (s : Index) → contract a ω s ≡ pos 0
contract-zero a ω p s = (contract-lin a zeros).lin s ∙ by_ring (contract a ω s ∷ []) (search reads depth 20) (search reads depth 20) tt
  where
    zeros : Lin (pos 0) ω (pos 0) ω ω
    zeros = record { lin = λ t. p t ∙ by_ring (ω t ∷ []) (search reads depth 20) (search reads depth 20) tt }

contract-unit : (a : Vec) (s : Index) → contract a unit s ≡ pos 0
contract-unit a [] = refl
contract-unit a (false ∷ s) = ap₂ ◌+ℤ◌ (contract-unit (rest a) s) (*ℤ-zero (head a))
contract-unit a (true ∷ s) = ap neg_ℤ (contract-zero (rest a) (half true unit) (λ t. refl) s)

-- Clifford's relation with the second term moved to the other side
peel : (m : ℕ) (χ : Form) (w b : Vec) (ω : Form)
    → inner m χ (contract w (wedge b ω)) ≡ inner m χ ω *ℤ dot_on m w b +ℤ inner m (λ s. neg_ℤ (contract b χ s)) (contract w ω)
peel m χ w b ω =
    by-eq (inner m χ (contract w (wedge b ω)) ∷ y ∷ c ∷ d ∷ []) (pos 1) (clifford-inner m w b χ ω) (search reads depth 20) (search reads depth 20) tt
    ∙ ap (λ z. c *ℤ d +ℤ (negsuc 0 *ℤ z +ℤ pos 0 *ℤ z)) (adjointʳ m b χ (contract w ω))
    ∙ ap (λ z. c *ℤ d +ℤ z) (sym (inner-linˡ m (contract w ω) opposite))
  where
    y : ℤ
    y = inner m χ (wedge b (contract w ω))

    c : ℤ
    c = inner m χ ω

    d : ℤ
    d = dot_on m w b

    opposite : Lin (negsuc 0) (contract b χ) (pos 0) (contract b χ) (λ s. neg_ℤ (contract b χ s))
    opposite = record { lin = λ s. by_ring (contract b χ s ∷ []) (search reads) (search reads) tt }

expand : (m : ℕ) (χ : Form) (w : Vec) (bs : List Vec) → inner m χ (contract w (volume bs)) ≡ dot_on m w (comb (coefficients_of m χ bs) bs)
unfolding coefficients_of comb
expand m χ w [] = inner-zero m χ (contract w unit) (λ s e. contract-unit w s) ∙ sym (dot_on-nil m w)
expand m χ w (b ∷ bs) =
    peel m χ w b (volume bs)
    ∙ ap (λ z. inner m χ (volume bs) *ℤ dot_on m w b +ℤ z) (expand m (λ s. neg_ℤ (contract b χ s)) w bs)
    ∙ sym (dot_on-step m w (inner m χ (volume bs)) b (comb (coefficients_of m (λ s. neg_ℤ (contract b χ s)) bs) bs))

-- coefficients whose combination is orthogonal to every vector over m coordinates
record Relation (m : ℕ) (bs : List Vec) : Type 0 where
  coefficients : List ℤ
  count : length coefficients ≡ length bs
  nonzero : ¬ Zero coefficients
  orthogonal : (w : Vec) → dot_on m w (comb coefficients bs) ≡ pos 0

relation : (m : ℕ) (bs : List Vec) → squared_volume m bs ≡ pos 0 → Relation m bs
unfolding squared_volume comb coefficients_of
relation m [] e = absurd (≤ℤ_of_≡ (sym (inner-unit m) ∙ e)).le
relation m (b ∷ bs) e = pick (zero_or_not (squared_volume m bs)) (relation m bs)
  where
    beyond : (w : Vec) → dot_on m w (comb (coefficients_of m (volume bs) (b ∷ bs)) (b ∷ bs)) ≡ pos 0
    beyond w =
        sym (expand m (volume bs) w (b ∷ bs))
        ∙ sym (adjoint m w (volume bs) (volume (b ∷ bs)))
        ∙ inner-definite m (wedge w (volume bs)) (volume (b ∷ bs)) e

    longer : Relation m bs → Relation m (b ∷ bs)
    longer r =
        record {
          coefficients = pos 0 ∷ r.coefficients;
          count = ap suc r.count;
          nonzero = λ z. r.nonzero (λ i. z (suc i));
          orthogonal = λ w. dot_on-step m w (pos 0) b (comb r.coefficients bs) ∙ ap₂ ◌+ℤ◌ (zero-*ℤ (dot_on m w b)) (r.orthogonal w);
        }

    pick : (squared_volume m bs ≡ pos 0) ⊎ (squared_volume m bs ≢ pos 0) → (squared_volume m bs ≡ pos 0 → Relation m bs) → Relation m (b ∷ bs)
    pick (inl z) r = longer (r z)
    pick (inr f) r =
        record {
          coefficients = coefficients_of m (volume bs) (b ∷ bs);
          count = count_of m (volume bs) (b ∷ bs);
          nonzero = λ z. f (z zero);
          orthogonal = beyond;
        }

-- ---- vectors of at most m coordinates are seen whole

pub fit-comb : (m : ℕ) (x : List ℤ) (bs : List Vec) → Fit m bs → length (comb x bs) ≤ m
unfolding comb
fit-comb m [] bs h = zero-le
fit-comb m (x ∷ xs) [] h = zero-le
fit-comb m (x ∷ xs) (b ∷ bs) h =
    omega (arith, length-⊕ (x ⊙ b) (comb xs bs), length-⊙ x b, h zero, fit-comb m xs bs (λ i. h (suc i)))

dot_on-whole : (m : ℕ) (u : Vec) → length u ≤ m → dot_on m u u ≡ N u
unfolding dot
dot_on-whole zero [] h = refl
dot_on-whole zero (x ∷ u) h = absurd (not-suc-le-zero h)
dot_on-whole (suc m) [] h = ap (λ z. pos 0 +ℤ z) (dot_on-whole m [] zero-le)
dot_on-whole (suc m) (x ∷ u) h = ap (λ z. x *ℤ x +ℤ z) (dot_on-whole m u (le_of_suc-le-suc h))

pub dependent_of_zero : (m : ℕ) (bs : List Vec) → Fit m bs → squared_volume m bs ≡ pos 0 → Dependent bs
dependent_of_zero m bs h e = seen (relation m bs e)
  where
    seen : Relation m bs → Dependent bs
    seen r =
        let v = comb r.coefficients bs in
        record {
          coefficients = r.coefficients;
          count = r.count;
          nonzero = r.nonzero;
          vanishes = definite v (sym (dot_on-whole m v (fit-comb m r.coefficients bs h)) ∙ r.orthogonal v);
        }

-- ---- a positive volume allows no other coefficients than zeros

product-zero : (j : ℕ) (v : Vec) (bs : List Vec) → j < length bs → N v ≡ pos 0 → product (put j v bs) ≡ pos 0
product-zero j v [] h e = absurd (not-suc-le-zero h)
product-zero zero v (b ∷ bs) h e = ap (λ z. z *ℤ product bs) e ∙ zero-*ℤ (product bs)
product-zero (suc j) v (b ∷ bs) h e = ap (λ z. N b *ℤ z) (product-zero j v bs (le_of_suc-le-suc h) e) ∙ *ℤ-zero (N b)

pub zero_coefficient : (m : ℕ) (bs : List Vec) → pos 0 <ℤ squared_volume m bs → (x : List ℤ) → Zero (comb x bs) → (j : ℕ) → j < length bs → nth x j ≡ pos 0
zero_coefficient m bs p x z j h =
    zero_of_square (nth x j) (≤ℤ_trans (sizes m j x bs h p) (≤ℤ_of_≡ (product-zero j (comb x bs) bs h (N-zero (comb x bs) z))))

pub independent_of_positive : (m : ℕ) (bs : List Vec) → pos 0 <ℤ squared_volume m bs → Independent bs
independent_of_positive m bs p d = d.nonzero (λ j. pick j (dec_lt j (length bs)))
  where
    pick : (j : ℕ) → Dec (j < length bs) → nth d.coefficients j ≡ pos 0
    pick j (yes h) = zero_coefficient m bs p d.coefficients d.vanishes j h
    pick j (no f) = get_or-eq_default d.coefficients (pos 0) (omega (arith, d.count))

-- ---- the test

pub dependent_exactly : (m : ℕ) (bs : List Vec) → Fit m bs → (is_dependent m bs ≡ true) ↔ Dependent bs
unfolding is_dependent
dependent_exactly m bs h =
    (λ e. dependent_of_zero m bs h (≤ℤ_antisymm (le_z_true e) (squared_volume-nonneg m bs)), λ d. pick d (≤ℤ-or-<ℤ (squared_volume m bs) (pos 0)))
  where
    pick : Dependent bs → (squared_volume m bs ≤ℤ pos 0) ⊎ (pos 0 <ℤ squared_volume m bs) → le_z (squared_volume m bs) (pos 0) ≡ true
    pick d (inl l) = ≤ℤ-le_z l
    pick d (inr p) = absurd (independent_of_positive m bs p d)

pub independent-exactly : (m : ℕ) (bs : List Vec) → Fit m bs → (is_dependent m bs ≡ false) ↔ Independent bs
unfolding is_dependent
independent-exactly m bs h =
    (λ e. independent_of_positive m bs (le_z_false e), λ f. pick f (≤ℤ-or-<ℤ (squared_volume m bs) (pos 0)))
  where
    pick : Independent bs → (squared_volume m bs ≤ℤ pos 0) ⊎ (pos 0 <ℤ squared_volume m bs) → le_z (squared_volume m bs) (pos 0) ≡ false
    pick f (inl l) = absurd (f (dependent_of_zero m bs h (≤ℤ_antisymm l (squared_volume-nonneg m bs))))
    pick f (inr p) = <ℤ-le_z p

-- ---- more vectors than coordinates

-- each exterior product needs one more coordinate
wedge-few : (k : ℕ) (a : Vec) (ω : Form) → ((t : Index) → marks t < k → ω t ≡ pos 0) → (s : Index) → marks s < suc k → wedge a ω s ≡ pos 0
wedge-few k a ω p [] h = refl
wedge-few k a ω p (false ∷ s) h = wedge-few k (rest a) (half false ω) (λ t. p (false ∷ t)) s h
wedge-few zero a ω p (true ∷ s) h = absurd (not-suc-le-zero (le_of_suc-le-suc h))
wedge-few (suc k) a ω p (true ∷ s) h =
    ap (λ x. head a *ℤ x -ℤ wedge (rest a) (half true ω) s) (p (false ∷ s) (le_of_suc-le-suc h))
    ∙ ap (λ y. head a *ℤ pos 0 -ℤ y) (wedge-few k (rest a) (half true ω) (λ t l. p (true ∷ t) (suc-le-suc l)) s (le_of_suc-le-suc h))
    ∙ by_ring (head a ∷ []) (search reads) (search reads) tt

volume-few : (bs : List Vec) (s : Index) → marks s < length bs → volume bs s ≡ pos 0
volume-few [] s h = absurd (not-suc-le-zero h)
volume-few (b ∷ bs) s h = wedge-few (length bs) b (volume bs) (volume-few bs) s h

pub too_many : (m : ℕ) (bs : List Vec) → Fit m bs → m < length bs → Dependent bs
unfolding squared_volume
too_many m bs f h = dependent_of_zero m bs f (inner-zero m (volume bs) (volume bs) (λ s e. volume-few bs s (omega (arith, marks-≤ s, e, h))))
