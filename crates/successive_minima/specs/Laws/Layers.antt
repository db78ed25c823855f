-- Nearest among four reduced vectors by layers of the last: if no list with a last coefficient from −2 to 2 lies below, none at all does.
-- Coefficient lists stand shortest vector first, so a layer is x ++ (j ∷ []) with j fixed.
use Rattle.std.specs.Prelude.{◌≡◌, refl, List, [], ◌∷◌, ◌++◌, ℕ, zero, suc, ◌≤◌, ℤ, pos, nat_abs, ◌+ℤ◌, ◌-ℤ◌, ◌*ℤ◌, ◌≤ℤ◌, length}
use Rattle.std.proofs.Common.{sym, ◌∙◌, subst, arith}
use Rattle.std.proofs.Math.IntN.{+ℤ_idr}
use Rattle.std.specs.Int.Signed.{lt_z_yes}
use Rattle.lattices.specs.Answer.{padded}
use Rattle.lattices.specs.Laws.Answer.{length-padded}
use Rattle.integers.specs.Identity.{by_ring, reads}
use Rattle.integers.specs.Order.{*ℤ-cancel-≤}
use Rattle.integers.specs.Certificate.{◌⊞◌, ◌⊠◌, nn-pos, le, nn_ring, by_nn}
use Rattle.integers.specs.Division.{up, up_pos}
use Rattle.integers.specs.ListLaws.{length-⊖-same}
use Rattle.integers.specs.Lex.{Nonneg, nonneg-⊕, nonneg_raise, nonneg_unscale}
use Rattle.lattices.specs.Vector.{Vec, N, dot, comb, ◌⊕◌, ◌⊙◌, ◌⊖◌}
use Rattle.lattices.specs.Laws.Vector.{bilinear, N-nonneg, comb-dot, unit, ◌≈◌, ≈_refl, ≈_sym, ≈_trans, ≈-⊕, ≈-N, comb_snoc}
use Rattle.successive_minima.specs.Laws.Values.{gain, change}
use Rattle.successive_minima.specs.Laws.ValueLaws.{gain-≈, gain_shift}
use Rattle.successive_minima.specs.Laws.Rounding.{≤-up, loss, loss-bound, dent-third, Above, nonneg-≈, above-≈, round}
use Rattle.successive_minima.specs.Reduced.{Top}
use Rattle.integers.specs.Sign.{Sign, by_sign}
use Rattle.successive_minima.specs.Laws.ReducedLaws.{sign-⊙, rounded}
use Rattle.successive_minima.specs.Laws.Snoc.{snoc_≈, units_from, comb-units, comb-fit, fit-units}

-- no list whose last coefficient is j has a value below
abbrev pub Layer : Vec → List Vec → Vec → ℤ → Type 0
Layer r vs b j = (z : List ℤ) → length z ≡ length vs → Nonneg (change r (vs ++ (b ∷ [])) (z ++ (j ∷ [])))

-- ---- all layers from the five between −2 and 2
-- from n = 3 on three vectors below b lose at most n·(n − 1)·N(b)
loss-third : {b : Vec} {vs : List Vec} → Top b vs → length vs ≤ 3 → (k : ℕ) → pos 3 ≤ℤ up k → (w : List ℤ) → loss k w vs ≤ℤ (up k *ℤ (up k -ℤ pos 1) *ℤ N b)
loss-third {b} {vs} t l k h w = *ℤ-cancel-≤ {c = pos 3} (lt_z_yes tt)
    (loss-bound (pos 3) k 3 (λ w. dent-third k w h) (nn_ring (up k ∷ []) ((le h ⊞ nn-pos 3) ⊠ (le h ⊞ nn-pos 2)) (search reads depth 20) (search reads depth 20) tt) (N-nonneg b) w vs t.longest l)

-- so (n − 1)·N(y) covers what rounding lost, and the rounded value is at most n times the value
covered : (r b : Vec) (k : ℕ) (y : Vec) (S : ℤ) → pos 3 ≤ℤ up k → (up k *ℤ up k *ℤ N b) ≤ℤ (N y +ℤ S) → S ≤ℤ (up k *ℤ (up k -ℤ pos 1) *ℤ N b) → (gain (up k ⊙ r) y +ℤ (S +ℤ up k *ℤ up k *ℤ pos 0)) ≤ℤ (up k *ℤ gain r y)
unfolding gain
covered r b k y S h p q = simp bilinear
    (by_nn (up k ∷ N y ∷ dot y r ∷ S ∷ N b ∷ []) ((le h ⊞ nn-pos 2) ⊠ le p ⊞ (le h ⊞ nn-pos 3) ⊠ le q) (search reads depth 20 fits 5000) (search reads depth 20 fits 5000) tt)

module _ (r : Vec) (vs : List Vec) (b : Vec) where
  -- the layers ±1 as rounding takes them: with lists of any length, and tie lists built from unit lists
  near : (s : ℤ) → Layer r vs b s → (z : List ℤ) → Above r (pos 0) (s ⊙ b ⊕ comb z vs) (s ⊙ unit (length vs) ⊕ comb z (units_from 0 (length vs)))
  near s f z = above-≈
      (≈_trans (comb_snoc x vs s b (length-padded (length vs) z)) (≈-⊕ ≈_refl (comb-fit (length vs) z vs refl)))
      (≈_trans (snoc_≈ x s (length-padded (length vs) z)) (≈-⊕ ≈_refl (fit-units (length vs) z)))
      (record { nonneg = rw (+ℤ_idr (gain r (comb (x ++ (s ∷ [])) (vs ++ (b ∷ []))))) (f x (length-padded (length vs) z)) })
    where
      x : List ℤ
      x = padded (length vs) z

  -- the layers ±n with n ≥ 3 follow from ±1
  far : Top b vs → length vs ≤ 3 → (k : ℕ) (s x : ℤ) → Sign s → x ≡ s *ℤ up k → pos 3 ≤ℤ up k → Layer r vs b s → Layer r vs b x
  far t l k s x e g h f w m = nonneg_unscale (gain r y) (w ++ (x ∷ [])) (up_pos k)
      (nonneg_raise (w ++ (x ∷ [])) (covered r b k y (loss k w vs) h high (loss-third t l k h w)) lost.nonneg)
    where
      y : Vec
      y = comb (w ++ (x ∷ [])) (vs ++ (b ∷ []))

      point : up k ⊙ (s ⊙ b) ⊕ comb w vs ≈ y
      point = ≈_trans (≈-⊕ (sign-⊙ (up k) s b g) ≈_refl) (≈_sym (comb_snoc w vs x b m))

      high : (up k *ℤ up k *ℤ N b) ≤ℤ (N y +ℤ loss k w vs)
      high = subst (λ n. (up k *ℤ up k *ℤ N b) ≤ℤ (n +ℤ loss k w vs)) (≈-N point) (rounded t k s e w)

      lost : Above (up k ⊙ r) (loss k w vs +ℤ up k *ℤ up k *ℤ pos 0) y (w ++ (x ∷ []))
      lost = above-≈ point
          (≈_trans (≈-⊕ (sign-⊙ (up k) s (unit (length vs)) g) (comb-units w (length vs) m)) (≈_sym (snoc_≈ w x m)))
          (round k r (pos 0) w vs (units_from 0 (length vs)) (s ⊙ b) (s ⊙ unit (length vs)) (near s f))

pub layers : (r : Vec) {b : Vec} {vs : List Vec} → Top b vs → length vs ≤ 3 → ((j : ℤ) → nat_abs j ≤ 2 → Layer r vs b j) → (j : ℤ) → Layer r vs b j
layers r {b} {vs} t l f = by_sign (Layer r vs b) (f (pos 0) (omega arith)) beyond
  where
    beyond : (k : ℕ) (s x : ℤ) → Sign s → x ≡ s *ℤ up k → nat_abs x ≡ suc k → Layer r vs b x
    beyond zero s x e g n = f x (omega arith)
    beyond (suc zero) s x e g n = f x (omega arith)
    beyond (suc (suc k)) s x e g n = far r vs b t l (suc (suc k)) s x e g (≤-up 3 (suc (suc k)) (omega arith)) (f s (omega (arith, e.size)))

-- ---- one layer from a search below it
replace : (c w z : Vec) → (c ⊕ w) ⊕ (z ⊖ w) ≈ c ⊕ z
replace c w z = record { on = λ v. simp bilinear (by_ring (dot c v ∷ dot w v ∷ dot z v ∷ []) (search reads depth 20) (search reads depth 20) tt) }

nonneg-sum : (a c : ℤ) (u v : List ℤ) → Nonneg (a ∷ u) → Nonneg (c ∷ v) → Nonneg ((a +ℤ c) ∷ (u ⊕ v))
unfolding ◌⊕◌
nonneg-sum a c u v p q = nonneg-⊕ (a ∷ u) (c ∷ v) p q

-- if w is not below on the layer j, and no list of the vectors below b lies below from there, the whole layer is not below
pub layer-by_search : (r : Vec) (vs : List Vec) (b : Vec) (j : ℤ) (w : List ℤ) → length w ≡ length vs → Nonneg (change r (vs ++ (b ∷ [])) (w ++ (j ∷ []))) → ((e : List ℤ) → length e ≡ length vs → Nonneg (change (r ⊖ comb (w ++ (j ∷ [])) (vs ++ (b ∷ []))) vs e)) → Layer r vs b j
layer-by_search r vs b j w l p f z m =
    nonneg-≈ ((w ++ (j ∷ [])) ⊕ (z ⊖ w)) (z ++ (j ∷ [])) (sym (gain_shift r y d) ∙ gain-≈ r point) list
    (nonneg-sum (gain r y) (gain (r ⊖ y) d) (w ++ (j ∷ [])) (z ⊖ w) p (f (z ⊖ w) (length-⊖-same z w (m ∙ sym l) ∙ m)))
  where
    y : Vec
    y = comb (w ++ (j ∷ [])) (vs ++ (b ∷ []))

    d : Vec
    d = comb (z ⊖ w) vs

    point : y ⊕ d ≈ comb (z ++ (j ∷ [])) (vs ++ (b ∷ []))
    point = ≈_trans (≈-⊕ (comb_snoc w vs j b l) (record { on = λ v. simp (comb-dot, bilinear) }))
        (≈_trans (replace (j ⊙ b) (comb w vs) (comb z vs)) (≈_sym (comb_snoc z vs j b m)))

    list : (w ++ (j ∷ [])) ⊕ (z ⊖ w) ≈ z ++ (j ∷ [])
    list = ≈_trans (≈-⊕ (snoc_≈ w j l) ≈_refl) (≈_trans (replace (j ⊙ unit (length vs)) w z) (≈_sym (snoc_≈ z j m)))
