-- The projection of a vector away from a list: a positive multiple of the vector and a combination of the list whose sum is orthogonal to the list.
use Rattle.std.specs.Prelude.{◌≡◌, refl, List, [], ◌∷◌, suc, ℤ, pos, neg_ℤ, ◌+ℤ◌, ◌-ℤ◌, ◌*ℤ◌, ◌≤ℤ◌, ◌<ℤ◌, length}
use Rattle.std.proofs.Common.{sym, ap, ap₂, ◌∙◌, subst, ⊎_elim}
use Rattle.std.proofs.Math.IntN.{*ℤ-zero, +ℤ_invr}
use Rattle.std.specs.Int.Signed.{lt_z_yes}
use Rattle.integers.specs.All.{All}
use Rattle.integers.specs.AllLaws.{all_imp}
use Rattle.integers.specs.Identity.{by_ring, by-eq, reads}
use Rattle.integers.specs.Order.{≤ℤ_of_≡, ≤ℤ_antisymm, ≤ℤ-or-<ℤ, *ℤ-cancel-≤, *ℤ_mono_<}
use Rattle.integers.specs.ListLaws.{length-⊕-same, length-⊙}
use Rattle.lattices.specs.Vector.{Vec, N, dot, comb, ◌⊕◌, ◌⊙◌}
use Rattle.lattices.specs.Laws.Vector.{dot_comm, dot-nil, dot-⊕, dot-⊙, dot-⊕ʳ, dot-⊙ʳ, bilinear, against, N-nonneg, comb-dot, comb_cons, ◌≈◌, ≈_refl, ≈_trans, ≈-⊕, zero-dot, definite}

-- v is orthogonal to each vector of the list
abbrev pub Orthogonal : Vec → List Vec → Type 0
Orthogonal v = All (λ b. dot v b ≡ pos 0)

pub orthogonal-comb : (v : Vec) (z : List ℤ) (bs : List Vec) → Orthogonal v bs → dot v (comb z bs) ≡ pos 0
unfolding comb
orthogonal-comb v [] bs o = dot-nil v
orthogonal-comb v (z ∷ zs) [] o = dot-nil v
orthogonal-comb v (z ∷ zs) (b ∷ bs) o = simp (bilinear, o.0, orthogonal-comb v zs bs o.1, *ℤ-zero)

-- factor·t + comb coefficients bs is orthogonal to bs
pub record Projection (bs : List Vec) (t : Vec) : Type 0 where
  pub factor : ℤ
  pub positive : pos 0 <ℤ factor
  pub coefficients : List ℤ
  pub count : length coefficients ≡ length bs
  pub orthogonal : Orthogonal (factor ⊙ t ⊕ comb coefficients bs) bs

pub *ℤ-pos : {a b : ℤ} → pos 0 <ℤ a → pos 0 <ℤ b → pos 0 <ℤ (a *ℤ b)
*ℤ-pos {a} {b} h k = subst (λ z. z <ℤ (a *ℤ b)) (*ℤ-zero a) (*ℤ_mono_< h k)

zero_of_multiple : {n x : ℤ} → pos 0 <ℤ n → n *ℤ x ≡ pos 0 → x ≡ pos 0
zero_of_multiple {n} {x} h e = ≤ℤ_antisymm (*ℤ-cancel-≤ h (≤ℤ_of_≡ (e ∙ sym (*ℤ-zero n)))) (*ℤ-cancel-≤ h (≤ℤ_of_≡ (*ℤ-zero n ∙ sym e)))

-- what is orthogonal to the list and to the projection of c is orthogonal to c
reach : (c v : Vec) (bs : List Vec) (q : Projection bs c) → Orthogonal v bs → dot v (q.factor ⊙ c ⊕ comb q.coefficients bs) ≡ pos 0 → dot v c ≡ pos 0
reach c v bs q o e = zero_of_multiple q.positive
    (by-eq (q.factor ∷ dot v c ∷ dot v (comb q.coefficients bs) ∷ dot v (q.factor ⊙ c ⊕ comb q.coefficients bs) ∷ []) (pos 1) whole
    (search reads depth 20) (search reads depth 20) tt)
  where
    whole : q.factor *ℤ dot v c +ℤ (dot v (q.factor ⊙ c ⊕ comb q.coefficients bs) -ℤ dot v (q.factor ⊙ c ⊕ comb q.coefficients bs)) ≡ pos 0
    whole = ap (λ z. q.factor *ℤ dot v c +ℤ z) (+ℤ_invr (dot v (q.factor ⊙ c ⊕ comb q.coefficients bs)) ∙ sym (orthogonal-comb v q.coefficients bs o))
        ∙ sym (dot-⊕ʳ (q.factor ⊙ c) (comb q.coefficients bs) v ∙ ap (λ z. z +ℤ dot v (comb q.coefficients bs)) (dot-⊙ʳ q.factor c v)) ∙ e

module _ (c t : Vec) (bs : List Vec) (p : Projection bs t) (q : Projection bs c) where
  abbrev v : Vec
  v = p.factor ⊙ t ⊕ comb p.coefficients bs

  abbrev u : Vec
  u = q.factor ⊙ c ⊕ comb q.coefficients bs

  -- a·v + k·u, as a multiple of t and a combination of c and the list
  joined : (a k : ℤ) → (a *ℤ p.factor) ⊙ t ⊕ comb ((k *ℤ q.factor) ∷ (a ⊙ p.coefficients ⊕ k ⊙ q.coefficients)) (c ∷ bs) ≈ a ⊙ v ⊕ k ⊙ u
  joined a k = ≈_trans (≈-⊕ ≈_refl (comb_cons (k *ℤ q.factor) (a ⊙ p.coefficients ⊕ k ⊙ q.coefficients) c bs)) (record {
    on = λ w. simp (bilinear, comb-dot)
        (by_ring (a ∷ k ∷ p.factor ∷ q.factor ∷ dot t w ∷ dot c w ∷ dot p.coefficients (against bs w) ∷ dot q.coefficients (against bs w) ∷ []) (search reads depth 20) (search reads depth 20) tt);
  })

  one_more : (a k : ℤ) → pos 0 <ℤ a → dot (a ⊙ v ⊕ k ⊙ u) u ≡ pos 0 → Projection (c ∷ bs) t
  one_more a k h e = record {
    factor = a *ℤ p.factor;
    positive = *ℤ-pos h p.positive;
    coefficients = (k *ℤ q.factor) ∷ (a ⊙ p.coefficients ⊕ k ⊙ q.coefficients);
    count = ap suc (length-⊕-same (a ⊙ p.coefficients) (k ⊙ q.coefficients) (length-⊙ a p.coefficients ∙ p.count ∙ sym q.count ∙ sym (length-⊙ k q.coefficients)) ∙ length-⊙ a p.coefficients ∙ p.count);
    orthogonal = ((joined a k).on c ∙ reach c (a ⊙ v ⊕ k ⊙ u) bs q below e, all_imp (λ b f. (joined a k).on b ∙ f) bs below);
  }
    where
      below : Orthogonal (a ⊙ v ⊕ k ⊙ u) bs
      below = both bs p.orthogonal q.orthogonal
        where
          both : (cs : List Vec) → Orthogonal v cs → Orthogonal u cs → Orthogonal (a ⊙ v ⊕ k ⊙ u) cs
          both [] f g = tt
          both (b ∷ cs) f g = (dot-split b ∙ ap₂ (λ x y. a *ℤ x +ℤ k *ℤ y) f.0 g.0 ∙ by_ring (a ∷ k ∷ []) (search reads) (search reads) tt, both cs f.1 g.1)
            where
              dot-split : (b : Vec) → dot (a ⊙ v ⊕ k ⊙ u) b ≡ a *ℤ dot v b +ℤ k *ℤ dot u b
              dot-split b = simp bilinear

  step : Projection (c ∷ bs) t
  step = ⊎_elim flat steep (≤ℤ-or-<ℤ (N u) (pos 0))
    where
      flat : N u ≤ℤ pos 0 → Projection (c ∷ bs) t
      flat h = one_more (pos 1) (pos 0) (lt_z_yes tt) (dot_comm (pos 1 ⊙ v ⊕ pos 0 ⊙ u) u ∙ zero-dot u (definite u (≤ℤ_antisymm h (N-nonneg u))) (pos 1 ⊙ v ⊕ pos 0 ⊙ u))

      steep : pos 0 <ℤ N u → Projection (c ∷ bs) t
      steep h = one_more (N u) (neg_ℤ (dot v u)) h (split ∙ cancel (N u) (dot v u))
        where
          split : dot (N u ⊙ v ⊕ neg_ℤ (dot v u) ⊙ u) u ≡ N u *ℤ dot v u +ℤ neg_ℤ (dot v u) *ℤ N u
          split = rw (dot-⊕ (N u ⊙ v) (neg_ℤ (dot v u) ⊙ u) u, dot-⊙ (N u) v u, dot-⊙ (neg_ℤ (dot v u)) u u) refl

          cancel : (a k : ℤ) → a *ℤ k +ℤ neg_ℤ k *ℤ a ≡ pos 0
          cancel a k = by_ring (a ∷ k ∷ []) (search reads) (search reads) tt

pub project : (bs : List Vec) (t : Vec) → Projection bs t
project [] t = record { factor = pos 1; positive = lt_z_yes tt; coefficients = []; count = refl; orthogonal = tt }
project (c ∷ bs) t = step c t bs (project bs t) (project bs c)
