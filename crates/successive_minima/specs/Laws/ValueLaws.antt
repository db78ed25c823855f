-- Laws of the change of value, over any number of vectors: how it adds, and that a list is of least value exactly when no change
-- from it is below zero. Distance and tie rule are one order here, so one argument proves both.
use Rattle.std.specs.Prelude.{◌≡◌, false, ℕ, zero, suc, ℤ, pos, negsuc, ◌+ℤ◌, ◌-ℤ◌, ◌*ℤ◌, ◌≤ℤ◌, length}
use Rattle.std.proofs.Common.{sym, ap, ap₂, ◌∙◌, arith}
use mathlib.Core.List.{List, [], ◌∷◌, tail}
use Rattle.integers.specs.Identity.{by_ring, reads}
use Rattle.integers.specs.Certificate.{NN, by_nn, nn-pos, ◌⊠◌}
use Rattle.integers.specs.Lists.{nth}
use Rattle.integers.specs.ListLaws.{entries, same, length-⊕, length-⊕-same, length-⊖-same}
use Rattle.integers.specs.Lex.{Nonneg, nonneg_ext, nonneg-⊕, nonneg_raise, nonneg-below, below_false, below_antisymm}
use Rattle.integers.specs.Below.{below}
use Rattle.lattices.specs.Vector.{Vec, N, Zero, dot, ◌⊕◌, ◌⊖◌, comb}
use Rattle.lattices.specs.Laws.Vector.{◌≈◌, ≈_refl, ≈_trans, ≈-dot, ≈-N, ≈-⊕, ≈-⊙, dot_comm, bilinear, zero-dot, against, comb-dot, comb-⊕}
use Rattle.lattices.specs.Nearest.{value}
use Rattle.successive_minima.specs.Laws.Values.{Least, gain, change}

-- ---- squared lengths

pub gain-≈ : (r : Vec) {u v : Vec} → u ≈ v → gain r u ≡ gain r v
unfolding gain
gain-≈ r e = ap₂ (λ n p. n -ℤ pos 2 *ℤ p) (≈-N e) (≈-dot e ≈_refl)

pub gain-is : (r u : Vec) → N (r ⊖ u) ≡ N r +ℤ gain r u
unfolding gain
gain-is r u = simp (bilinear, dot_comm r u) (by_ring (N r ∷ N u ∷ dot u r ∷ []) (search reads depth 20) (search reads depth 20) tt)

pub gain-⊕ : (r u v : Vec) → gain r (u ⊕ v) ≡ gain r u +ℤ gain r v +ℤ pos 2 *ℤ dot u v
unfolding gain
gain-⊕ r u v = simp (bilinear, dot_comm v u) (by_ring (N u ∷ N v ∷ dot u v ∷ dot u r ∷ dot v r ∷ []) (search reads depth 20) (search reads depth 20) tt)

-- to subtract a sum is to subtract one part, then the other
pub gain_shift : (r u v : Vec) → gain r (u ⊕ v) ≡ gain r u +ℤ gain (r ⊖ u) v
unfolding gain
gain_shift r u v = simp (bilinear, dot_comm v u) (by_ring (N u ∷ N v ∷ dot u v ∷ dot u r ∷ dot v r ∷ []) (search reads depth 20) (search reads depth 20) tt)

-- ---- the change of value

-- the residual at a sum is what the second part leaves of the residual at the first
pub residual-⊕ : (bs : List Vec) (t : Vec) (y x : List ℤ) → t ⊖ comb (y ⊕ x) bs ≈ (t ⊖ comb y bs) ⊖ comb x bs
residual-⊕ bs t y x = ≈_trans (≈-⊕ ≈_refl (≈-⊙ (negsuc 0) (comb-⊕ y x bs))) (regroup (comb y bs) (comb x bs))
  where
    regroup : (u v : Vec) → t ⊖ (u ⊕ v) ≈ (t ⊖ u) ⊖ v
    regroup u v = record { on = λ w. simp bilinear (by_ring (dot t w ∷ dot u w ∷ dot v w ∷ []) (search reads depth 8) (search reads depth 8) tt) }

-- the residual first, its squared length before the coefficients
pub residual-change : (r : Vec) (bs : List Vec) (y x : List ℤ) → (N (r ⊖ comb x bs) ∷ (y ⊕ x)) ≡ (N r ∷ y) ⊕ change r bs x
unfolding ◌⊕◌
residual-change r bs y x = ap (λ n. n ∷ (y ⊕ x)) (gain-is r (comb x bs))

-- in two steps: the second from the residual that the first leaves
pub change_shift : (r : Vec) (bs : List Vec) (x e : List ℤ) → change r bs (x ⊕ e) ≡ change r bs x ⊕ change (r ⊖ comb x bs) bs e
unfolding ◌⊕◌
change_shift r bs x e = ap (λ g. g ∷ (x ⊕ e)) (gain-≈ r (comb-⊕ x e bs) ∙ gain_shift r (comb x bs) (comb e bs))

-- the value of a sum, in the words of the residual at its first part
pub value-⊕ : (bs : List Vec) (t : Vec) (y x : List ℤ) → value bs t (y ⊕ x) ≡ value bs t y ⊕ change (t ⊖ comb y bs) bs x
unfolding ◌⊕◌
value-⊕ bs t y x = ap (λ n. n ∷ (y ⊕ x)) (≈-N (residual-⊕ bs t y x) ∙ gain-is (t ⊖ comb y bs) (comb x bs))

-- entry by entry, what the value changes by
pub value-change : (bs : List Vec) (t : Vec) (y x : List ℤ) (i : ℕ) → nth (value bs t (y ⊕ x) ⊖ value bs t y) i ≡ nth (change (t ⊖ comb y bs) bs x) i
value-change bs t y x i = rw (value-⊕ bs t y x) (simp entries (back (nth (value bs t y) i) (nth (change (t ⊖ comb y bs) bs x) i)))
  where
    back : (a b : ℤ) → a +ℤ b +ℤ negsuc 0 *ℤ a ≡ b
    back a b = by_ring (a ∷ b ∷ []) (search reads) (search reads) tt

-- the list of zeros changes nothing
pub change-zero : (r : Vec) (bs : List Vec) (e : List ℤ) → Zero e → Zero (change r bs e)
unfolding gain dot
change-zero r bs e z zero = gain-≈ r still
  where
    still : comb e bs ≈ []
    still = record { on = λ w. comb-dot e bs w ∙ zero-dot e z (against bs w) }
change-zero r bs e z (suc i) = z i

-- both from one residual: enough that the two vectors do not point apart
pub change-⊕ : (r : Vec) (bs : List Vec) (x e : List ℤ) → NN (dot (comb x bs) (comb e bs))
    → Nonneg (change r bs x) → Nonneg (change r bs e) → Nonneg (change r bs (x ⊕ e))
unfolding ◌⊕◌
change-⊕ r bs x e h p q = nonneg_raise (x ⊕ e) higher (nonneg-⊕ (change r bs x) (change r bs e) p q)
  where
    higher : (gain r (comb x bs) +ℤ gain r (comb e bs)) ≤ℤ gain r (comb (x ⊕ e) bs)
    higher = rw (gain-≈ r (comb-⊕ x e bs), gain-⊕ r (comb x bs) (comb e bs))
        (by_nn (gain r (comb x bs) ∷ gain r (comb e bs) ∷ dot (comb x bs) (comb e bs) ∷ []) (nn-pos 2 ⊠ h) (search reads depth 20) (search reads depth 20) tt)

-- ---- least values

-- no change from y is below zero: y has the least value
pub least_of : (bs : List Vec) (t : Vec) (y : List ℤ) → length y ≡ length bs
    → ((x : List ℤ) → length x ≡ length bs → Nonneg (change (t ⊖ comb y bs) bs x)) → Least bs t y
least_of bs t y l f = record { count = l; least = at }
  where
    back : (x : List ℤ) → length x ≡ length bs → y ⊕ (x ⊖ y) ≡ x
    back x k = same (omega (arith, length-⊖-same x y (k ∙ sym l), length-⊕ y (x ⊖ y)))
        (λ i. simp entries (by_ring (nth x i ∷ nth y i ∷ []) (search reads) (search reads) tt))

    at : (x : List ℤ) → length x ≡ length bs → below (value bs t x) (value bs t y) ≡ false
    at x k = nonneg-below (value bs t x) (value bs t y) (rw (back x k) at (nonneg_ext (change (t ⊖ comb y bs) bs (x ⊖ y)) (value bs t (y ⊕ (x ⊖ y)) ⊖ value bs t y)
        (λ i. sym (value-change bs t y (x ⊖ y) i)) (f (x ⊖ y) (length-⊖-same x y (k ∙ sym l) ∙ k))))

pub least-is : (bs : List Vec) (t : Vec) (y : List ℤ) → Least bs t y → (x : List ℤ) → length x ≡ length bs → Nonneg (change (t ⊖ comb y bs) bs x)
least-is bs t y L x k = nonneg_ext (value bs t (y ⊕ x) ⊖ value bs t y) (change (t ⊖ comb y bs) bs x) (value-change bs t y x)
    (below_false (value bs t (y ⊕ x)) (value bs t y) (ap suc longer) (L.least (y ⊕ x) (longer ∙ L.count)))
  where
    longer : length (y ⊕ x) ≡ length y
    longer = length-⊕-same y x (L.count ∙ sym k)

-- only one list has it
pub least-only : (bs : List Vec) (t : Vec) (x y : List ℤ) → Least bs t x → Least bs t y → x ≡ y
least-only bs t x y p q = ap tail (below_antisymm (value bs t x) (value bs t y) (ap suc (p.count ∙ sym q.count))
    (q.least x p.count) (p.least y q.count))
