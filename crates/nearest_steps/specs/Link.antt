-- Numbers and vectors: what holds of the numbers because they are inner products, up to the factor F.
use Rattle.std.specs.Prelude.{◌≡◌, refl, Bool, true, false, List, [], ◌∷◌, ℕ, zero, suc, ℤ, negsuc, ◌+ℤ◌, ◌-ℤ◌, ◌*ℤ◌, get_or, ◌<ℤ◌}
use Rattle.std.proofs.Math.Path.{sym, ap, ap₂}
use Rattle.std.proofs.Common.{◌∙◌}
use Rattle.std.proofs.Math.IntN.{pos}
use Rattle.integers.specs.Identity.{by_ring, reads}
use Rattle.integers.specs.Order.{≤ℤ_of_≡, ≤ℤ_antisymm, *ℤ-cancel-≤}
use Rattle.integers.specs.ListLaws.{nth-⊙, entries}
use Rattle.integers.specs.Lex.{nonneg_ext, nonneg-scale, nonneg_unscale}
use Rattle.lattices.specs.Vector.{Vec, nth, dot, comb, ◌⊕◌, ◌⊙◌, ◌⊖◌}
use Rattle.lattices.specs.Laws.Vector.{◌≈◌, ≈_refl, ≈-dot, ≈-nth, ≈-⊕, nth-≈, bilinear, dot_comm, dot-⊙ʳ, comb-dot, comb-⊕, against}
use Rattle.successive_minima.specs.Laws.Values.{gain}
use Rattle.successive_minima.specs.Laws.ValueLaws.{gain-≈, gain_shift}
use Rattle.successive_minima.specs.Laws.Digits.{nonneg-not-below, not-below-nonneg}
use Rattle.successive_minima.specs.Laws.Table.{improves}
use Rattle.nearest_steps.specs.Meant.{Products, Gram}
use Rattle.nearest_steps.specs.Numbers.{moved, gain_of, negative, improves_of}

-- ---- a positive factor

pub cancel : {F a b : ℤ} → pos 0 <ℤ F → F *ℤ a ≡ F *ℤ b → a ≡ b
cancel h e = ≤ℤ_antisymm (*ℤ-cancel-≤ h (≤ℤ_of_≡ e)) (*ℤ-cancel-≤ h (≤ℤ_of_≡ (sym e)))

-- it does not change whether a list is below zero
negative-scale : {F : ℤ} → pos 0 <ℤ F → (n : ℤ) (e : List ℤ) → negative ((F *ℤ n) ∷ e) ≡ negative (n ∷ e)
negative-scale {F} h n e = pick (negative ((F *ℤ n) ∷ e)) (negative (n ∷ e)) refl refl
  where
    pick : (a b : Bool) → negative ((F *ℤ n) ∷ e) ≡ a → negative (n ∷ e) ≡ b → a ≡ b
    pick true true p q = refl
    pick false false p q = refl
    pick true false p q = sym p ∙ nonneg-not-below ((F *ℤ n) ∷ e) (nonneg-scale n e h (not-below-nonneg (n ∷ e) q))
    pick false true p q = sym (sym q ∙ nonneg-not-below (n ∷ e) (nonneg_unscale n e h (not-below-nonneg ((F *ℤ n) ∷ e) p)))

-- nor do zeros behind
pub negative_ext : (k l : List ℤ) → ((i : ℕ) → nth k i ≡ nth l i) → negative k ≡ negative l
negative_ext k l h = pick (negative k) (negative l) refl refl
  where
    pick : (a b : Bool) → negative k ≡ a → negative l ≡ b → a ≡ b
    pick true true p q = refl
    pick false false p q = refl
    pick true false p q = sym p ∙ nonneg-not-below k (nonneg_ext l k (λ i. sym (h i)) (not-below-nonneg l q))
    pick false true p q = sym (sym q ∙ nonneg-not-below l (nonneg_ext k l h (not-below-nonneg k p)))

-- ---- entries of a list of inner products and of a combination

pub nth-against : (bs : List Vec) (w : Vec) (i : ℕ) → nth (against bs w) i ≡ dot (get_or bs i []) w
unfolding dot
nth-against [] w i = refl
nth-against (b ∷ bs) w zero = refl
nth-against (b ∷ bs) w (suc i) = nth-against bs w i

-- place j of every row
pub column : ℕ → List (List ℤ) → List ℤ
column j [] = []
column j (r ∷ g) = nth r j ∷ column j g

pub nth-column : (j : ℕ) (g : List (List ℤ)) (i : ℕ) → nth (column j g) i ≡ nth (get_or g i []) j
unfolding column
nth-column j [] i = refl
nth-column j (r ∷ g) zero = refl
nth-column j (r ∷ g) (suc i) = nth-column j g i

pub nth-comb : (e : List ℤ) (g : List (List ℤ)) (j : ℕ) → nth (comb e g) j ≡ dot e (column j g)
unfolding comb column dot
nth-comb [] g j = refl
nth-comb (x ∷ e) [] j = refl
nth-comb (x ∷ e) (r ∷ g) j = simp entries (ap (λ z. x *ℤ nth r j +ℤ z) (nth-comb e g j))

module _ (F : ℤ) (vs : List Vec) where
  pub products-≈ : {u v : Vec} {r s : List ℤ} → u ≈ v → r ≈ s → Products F vs u r → Products F vs v s
  products-≈ e f p = record { at = λ j. ap (λ z. F *ℤ z) (sym (≈-nth f j)) ∙ p.at j ∙ ≈-dot (≈_refl {u = get_or vs j []}) e }

  pub products-dot : (v : Vec) (r e : List ℤ) → Products F vs v r → F *ℤ dot e r ≡ dot (comb e vs) v
  products-dot v r e p = sym (dot-⊙ʳ F r e) ∙ ≈-dot (≈_refl {u = e}) (nth-≈ (F ⊙ r) (against vs v) (λ j. nth-⊙ F r j ∙ p.at j ∙ sym (nth-against vs v j))) ∙ sym (comb-dot e vs v)

  module _ (g : List (List ℤ)) (q : Gram F vs g) where
    -- a combination of the rows of g belongs to the combination of the vectors
    pub products-comb : (e : List ℤ) → Products F vs (comb e vs) (comb e g)
    products-comb e = record {
      at = λ j. ap (λ z. F *ℤ z) (nth-comb e g j) ∙ sym (dot-⊙ʳ F (column j g) e)
          ∙ ≈-dot (≈_refl {u = e}) (nth-≈ (F ⊙ column j g) (against vs (get_or vs j [])) (λ i. nth-⊙ F (column j g) i ∙ ap (λ z. F *ℤ z) (nth-column j g i)
          ∙ (q.row i).at j ∙ dot_comm (get_or vs j []) (get_or vs i []) ∙ sym (nth-against vs (get_or vs j []) i)))
          ∙ sym (comb-dot e vs (get_or vs j [])) ∙ dot_comm (comb e vs) (get_or vs j []);
    }

    module _ (v : Vec) (r : List ℤ) (p : Products F vs v r) where
      pub products-moved : (e : List ℤ) → Products F vs (v ⊖ comb e vs) (moved g r e)
      products-moved e = record { at = λ j. simp entries (split (nth r j) (nth (comb e g) j)) ∙ ap₂ (λ a b. a +ℤ negsuc 0 *ℤ b) (p.at j) ((products-comb e).at j) ∙ sym (simp bilinear) }
        where
          split : (a b : ℤ) → F *ℤ (a +ℤ negsuc 0 *ℤ b) ≡ F *ℤ a +ℤ negsuc 0 *ℤ (F *ℤ b)
          split a b = by_ring (F ∷ a ∷ b ∷ []) (search reads depth 8) (search reads depth 8) tt

      -- what a step changes
      pub gain-of : (e : List ℤ) → F *ℤ gain_of g r e ≡ gain v (comb e vs)
      unfolding gain_of gain
      gain-of e = split (dot e (comb e g)) (dot e r) ∙ ap₂ (λ a b. a -ℤ pos 2 *ℤ b) (products-dot (comb e vs) (comb e g) e (products-comb e)) (products-dot v r e p)
        where
          split : (a b : ℤ) → F *ℤ (a -ℤ pos 2 *ℤ b) ≡ F *ℤ a -ℤ pos 2 *ℤ (F *ℤ b)
          split a b = by_ring (F ∷ a ∷ b ∷ []) (search reads depth 8) (search reads depth 8) tt

      module _ (h : pos 0 <ℤ F) where
        -- the test in numbers is the test in vectors
        pub improves-is : (e : List ℤ) → improves_of g r e ≡ improves v vs e
        unfolding improves_of
        improves-is e = sym (negative-scale h (gain_of g r e) e) ∙ ap (λ n. negative (n ∷ e)) (gain-of e)

-- ---- two steps

module _ (F : ℤ) (vs : List Vec) (g : List (List ℤ)) (q : Gram F vs g) (h : pos 0 <ℤ F) where
  pub gain-sum : (v : Vec) (r e f : List ℤ) → Products F vs v r → gain_of g r (e ⊕ f) ≡ gain_of g r e +ℤ gain_of g (moved g r e) f
  gain-sum v r e f p = cancel h (gain-of F vs g q v r p (e ⊕ f) ∙ gain-≈ v (comb-⊕ e f vs) ∙ gain_shift v (comb e vs) (comb f vs)
      ∙ ap₂ ◌+ℤ◌ (sym (gain-of F vs g q v r p e)) (sym (gain-of F vs g q (v ⊖ comb e vs) (moved g r e) (products-moved F vs g q v r p e) f))
      ∙ sym (split (gain_of g r e) (gain_of g (moved g r e) f)))
    where
      split : (a b : ℤ) → F *ℤ (a +ℤ b) ≡ F *ℤ a +ℤ F *ℤ b
      split a b = by_ring (F ∷ a ∷ b ∷ []) (search reads depth 8) (search reads depth 8) tt

  -- the table is its own mirror image
  pub mirrored : (i j : ℕ) → nth (get_or g i []) j ≡ nth (get_or g j []) i
  mirrored i j = cancel h ((q.row i).at j ∙ dot_comm (get_or vs j []) (get_or vs i []) ∙ sym ((q.row j).at i))

pub gain-residual : (g : List (List ℤ)) {r s : List ℤ} (e : List ℤ) → r ≈ s → gain_of g r e ≡ gain_of g s e
unfolding gain_of
gain-residual g e p = ap (λ z. dot e (comb e g) -ℤ pos 2 *ℤ z) (≈-dot (≈_refl {u = e}) p)

pub moved-≈ : (g : List (List ℤ)) {r s : List ℤ} (e : List ℤ) → r ≈ s → moved g r e ≈ moved g s e
moved-≈ g e p = ≈-⊕ p ≈_refl

pub moved-moved : (g : List (List ℤ)) (r e f : List ℤ) → moved g (moved g r e) f ≈ moved g r (e ⊕ f)
moved-moved g r e f = record { on = λ w. simp (bilinear, comb-dot) (by_ring (dot r w ∷ dot e (against g w) ∷ dot f (against g w) ∷ []) (search reads depth 8) (search reads depth 8) tt) }
