-- Membership: the nearest lattice vector leaves nothing of v exactly when v, but for trailing zeros, is a combination with whole coefficients.
use Rattle.std.specs.Prelude.{◌≡◌, ◌⊎◌, true, List, [], ◌∷◌, ◌≤◌, ℤ, pos, negsuc, ◌+ℤ◌, ◌*ℤ◌, length, ◌≤ℤ◌, ◌<ℤ◌}
use Rattle.std.proofs.Common.{sym, ◌∙◌, subst, inl, inr}
use Rattle.std.proofs.lemmas.Bool.{false≢true}
use Rattle.integers.specs.Identity.{by_ring, by-eq, reads}
use Rattle.integers.specs.Order.{≤ℤ-or-<ℤ, ≤ℤ_antisymm, le_z_true, ≤ℤ-le_z}
use Rattle.integers.specs.Lex.{below-<}
use Rattle.lattices.specs.Vector.{Vec, N, In, dot, comb, ◌⊙◌, ◌⊖◌, distance}
use Rattle.lattices.specs.Laws.Vector.{◌≈◌, ≈_sym, ≈-≡, ≈_of_≡, ≈-⊕, ≈_refl, ≈-N, bilinear, zero-dot, definite, N-nonneg}
use Rattle.lattices.specs.Nearest.{nearest}
use Rattle.successive_minima.specs.Member.{is_member, Member}
use Rattle.successive_minima.specs.Reduced.{Reduced}
use Rattle.successive_minima.specs.Laws.NearestLaws.{nearest-least, nearest-count}

-- ---- a difference of squared length 0

difference-zero : (v w : Vec) → N (v ⊖ w) ≡ pos 0 → w ≈ v
difference-zero v w e = record { on = λ u. law (dot v u) (dot w u) (sym (simp bilinear) ∙ zero-dot (v ⊖ w) (definite (v ⊖ w) e) u) }
  where
    law : (a b : ℤ) → a +ℤ negsuc 0 *ℤ b ≡ pos 0 → b ≡ a
    law a b h = by-eq (a ∷ b ∷ []) (negsuc 0) h (search reads) (search reads) tt

zero-difference : (v w : Vec) → w ≈ v → N (v ⊖ w) ≡ pos 0
zero-difference v w e = ≈-N (≈-⊕ (≈_sym e) (≈_refl {u = negsuc 0 ⊙ w})) ∙ simp bilinear (by_ring (N w ∷ []) (search reads depth 8) (search reads depth 8) tt)

-- ---- the test is exact

pub member_is : (bs : List Vec) (v : Vec) → is_member bs v ≡ true → Member bs v
unfolding is_member
member_is bs v e = record {
  coefficients = nearest bs v;
  count = nearest-count bs v;
  gives = difference-zero v (comb (nearest bs v) bs) (≤ℤ_antisymm (le_z_true e) (N-nonneg (v ⊖ comb (nearest bs v) bs)));
}

pub is_member_lem : (bs : List Vec) → Reduced bs → length bs ≤ 4 → (v : Vec) → Member bs v → is_member bs v ≡ true
unfolding is_member
is_member_lem bs d h v m = ≤ℤ-le_z (pick (≤ℤ-or-<ℤ (distance v (comb (nearest bs v) bs)) (distance v (comb m.coefficients bs))))
  where
    zero-there : distance v (comb m.coefficients bs) ≡ pos 0
    zero-there = zero-difference v (comb m.coefficients bs) m.gives

    pick : (distance v (comb (nearest bs v) bs) ≤ℤ distance v (comb m.coefficients bs)) ⊎ (distance v (comb m.coefficients bs) <ℤ distance v (comb (nearest bs v) bs))
        → distance v (comb (nearest bs v) bs) ≤ℤ pos 0
    pick (inl k) = subst (λ n. distance v (comb (nearest bs v) bs) ≤ℤ n) zero-there k
    pick (inr k) = absurd (false≢true (sym ((nearest-least bs d h v).least m.coefficients m.count) ∙ below-< m.coefficients (nearest bs v) k))

-- where the lengths agree, that is being in the lattice
pub member_in : (bs : List Vec) (v : Vec) (m : Member bs v) → length (comb m.coefficients bs) ≡ length v → In bs v
member_in bs v m e = record { coefficients = m.coefficients; count = m.count; gives = ≈-≡ (comb m.coefficients bs) v e m.gives }

pub in_member : (bs : List Vec) (v : Vec) → In bs v → Member bs v
in_member bs v i = record { coefficients = i.coefficients; count = i.count; gives = ≈_of_≡ i.gives }
