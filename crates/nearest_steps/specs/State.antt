-- The search on its way: r and x were reached from r₀ and zeros by steps that did not raise the value. Then the numbers mean the same vectors
-- with what is left of the target, sizes are bounded, a step to a smaller value lowers a measure, and where no list of the table improves,
-- x is the nearest.
use Rattle.std.specs.Prelude.{◌≡◌, refl, Bool, true, false, List, [], ◌∷◌, ℕ, zero, suc, ◌+◌, ◌*◌, ◌≤◌, ◌<◌, ℤ, pos, negsuc, neg_ℤ, nat_abs, ◌+ℤ◌, ◌-ℤ◌, ◌*ℤ◌, length, get_or, take, replicate, ◌≤ℤ◌, ◌<ℤ◌}
use Rattle.std.proofs.Math.Path.{sym}
use Rattle.std.proofs.Common.{ap, ◌∙◌, subst, inr, ⊎_elim, arith, ltb→lt, length-take, get_or-take}
use Rattle.std.proofs.Math.Decide.{dec_lt}
use Rattle.std.proofs.lemmas.List.{length-replicate}
use Rattle.std.specs.Int.Signed.{le_z_yes}
use Rattle.integers.specs.Identity.{by_ring, reads}
use Rattle.integers.specs.Order.{≤ℤ_trans, ≤ℤ-or-<ℤ, *ℤ-cancel-≤}
use Rattle.integers.specs.Certificate.{NN, ◌⊞◌, ◌⊠◌, le, lt, eq, nn-pos, nn_ring, nn-false, by_nn, by-lt}
use Rattle.integers.specs.Size.{Within, within-lower, within_of_bounds}
use Rattle.integers.specs.ListLaws.{same, nth-replicate, nth-⊕, length-⊕-same}
use Rattle.lattices.specs.Vector.{Vec, N, nth, dot, comb, ◌⊕◌, ◌⊖◌}
use Rattle.lattices.specs.Laws.Vector.{◌≈◌, ≈_refl, ≈_sym, ≈-N, ≈-⊕, bilinear, dot_comm, nil-dot, zero-dot, against, comb-dot, N-nonneg}
use Rattle.exterior_algebra.specs.Sizes.{near_le}
use Rattle.successive_minima.specs.Laws.Values.{gain}
use Rattle.successive_minima.specs.Laws.ValueLaws.{gain-is}
use Rattle.successive_minima.specs.Laws.Digits.{Bounded, power, power-nonneg, number}
use Rattle.nearest_steps.specs.Meant.{Meant, Known}
use Rattle.nearest_steps.specs.Numbers.{moved, gain_of, improves_of, Sized}
use Rattle.nearest_steps.specs.Link.{products-≈, products-moved, gain-of}
use Rattle.nearest_steps.specs.Steps.{steps}
use Rattle.nearest_steps.specs.Coefficients.{coefficient_square, coefficient_within}
use Rattle.nearest_steps.specs.Moves.{base, fall, Moved, fall-sum, fall-residual, moved_then}
use Rattle.nearest_steps.specs.Positive.{reduced-positive}

-- none of the first n lists of the table improves
abbrev pub None : ℕ → List (List ℤ) → List ℤ → Type 0
None n g r = (i : ℕ) → i < n → improves_of g r (get_or steps i []) ≡ false

-- ---- the vectors in front

-- coefficients that are zero from place k on take the first k vectors only
pub comb-front : (k : ℕ) (x : List ℤ) (vs : List Vec) → ((j : ℕ) → k ≤ j → nth x j ≡ pos 0) → comb x vs ≈ comb (take k x) (take k vs)
unfolding comb
comb-front zero x vs z = record { on = λ w. comb-dot x vs w ∙ zero-dot x (λ j. z j (omega arith)) (against vs w) ∙ sym (nil-dot w) }
comb-front (suc k) [] vs z = ≈_refl
comb-front (suc k) (q ∷ x) [] z = ≈_refl
comb-front (suc k) (q ∷ x) (v ∷ vs) z = ≈-⊕ ≈_refl (comb-front k x vs (λ j h. z (suc j) (omega arith)))

-- ---- inner products, up to the factor: 2|<u, v>| ≤ N u + N v

scaled-within : (A B : ℕ) {C : ℕ} (F z : ℤ) (u v : Vec) → pos 0 <ℤ F → A + B ≡ 2 * C → N u ≤ℤ (F *ℤ pos A) → N v ≤ℤ (F *ℤ pos B) → F *ℤ z ≡ dot u v → Within C z
scaled-within A B {C} F z u v f s h k e = within_of_bounds lower upper
  where
    minus : N (u ⊖ v) ≡ N u +ℤ N v -ℤ pos 2 *ℤ dot u v
    minus = simp (bilinear, dot_comm v u) (by_ring (N u ∷ N v ∷ dot u v ∷ []) (search reads depth 20) (search reads depth 20) tt)

    plus : N (u ⊕ v) ≡ N u +ℤ N v +ℤ pos 2 *ℤ dot u v
    plus = simp (bilinear, dot_comm v u) (by_ring (N u ∷ N v ∷ dot u v ∷ []) (search reads depth 20) (search reads depth 20) tt)

    law : (a b c d n m y : ℤ) → a +ℤ b ≡ pos 2 *ℤ c → n ≤ℤ (F *ℤ a) → m ≤ℤ (F *ℤ b) → NN (n +ℤ m -ℤ pos 2 *ℤ d) → F *ℤ y ≡ d → y ≤ℤ c
    law a b c d n m y s h k p e = *ℤ-cancel-≤ {c = pos 2 *ℤ F} (by-lt (F ∷ []) (lt f ⊞ lt f ⊞ nn-pos 1) (search reads depth 8) (search reads depth 8) tt)
        (by_nn (a ∷ b ∷ c ∷ d ∷ n ∷ m ∷ y ∷ F ∷ []) (le h ⊞ le k ⊞ p ⊞ eq (neg_ℤ F) s ⊞ eq (negsuc 1) e) (search reads depth 20 fits 5000) (search reads depth 20 fits 5000) tt)

    upper : z ≤ℤ pos C
    upper = law (pos A) (pos B) (pos C) (dot u v) (N u) (N v) z (ap pos s) h k (subst NN minus (N-nonneg (u ⊖ v))) e

    lower : neg_ℤ (pos C) ≤ℤ z
    lower = flip (pos C) z (law (pos A) (pos B) (pos C) (neg_ℤ (dot u v)) (N u) (N v) (neg_ℤ z) (ap pos s) h k
        (nn_ring (N u ∷ N v ∷ dot u v ∷ N (u ⊕ v) ∷ []) (N-nonneg (u ⊕ v) ⊞ eq (negsuc 0) plus) (search reads depth 20) (search reads depth 20) tt) (opposite ∙ ap neg_ℤ e))
      where
        opposite : F *ℤ neg_ℤ z ≡ neg_ℤ (F *ℤ z)
        opposite = by_ring (F ∷ z ∷ []) (search reads) (search reads) tt

        flip : (c d : ℤ) → neg_ℤ d ≤ℤ c → neg_ℤ c ≤ℤ d
        flip c d l = by_nn (c ∷ d ∷ []) (le l) (search reads) (search reads) tt

-- ---- what the numbers mean

module _ {F : ℤ} {k : ℕ} {vs : List Vec} {t : Vec} {g : List (List ℤ)} {r : List ℤ} (m : Meant F k vs t g r) where
  pub sized : Sized g r
  sized = record {
    gram = λ i j. scaled-within 400000000 400000000 F (nth (get_or g i []) j) (get_or vs j []) (get_or vs i []) m.positive refl (m.short j) (m.short i) ((m.gram.row i).at j);
    products = λ j. scaled-within 400000000 3600000000 F (nth r j) (get_or vs j []) t m.positive refl (m.short j) m.target (m.products.at j);
  }

  count-front : length (take k vs) ≡ k
  count-front = omega (arith, length-take k vs, m.enough)

  pub diagonal : (i : ℕ) → i < k → pos 0 <ℤ nth (get_or g i []) i
  diagonal i h = ⊎_elim (λ (l : nth (get_or g i []) i ≤ℤ pos 0). absurd (law F (nth (get_or g i []) i) (N (get_or vs i [])) m.positive l ((m.gram.row i).at i) own)) (λ l. l) (≤ℤ-or-<ℤ (nth (get_or g i []) i) (pos 0))
    where
      own : pos 0 <ℤ N (get_or vs i [])
      own = subst (λ v. pos 0 <ℤ N v) (get_or-take k vs i [] h) (reduced-positive (take k vs) m.reduced i (omega (arith, count-front)))

      law : (F n s : ℤ) → pos 0 <ℤ F → n ≤ℤ pos 0 → F *ℤ n ≡ s → pos 0 <ℤ s → ⊥
      law F n s h l e p = nn-false (F ∷ n ∷ s ∷ []) ((lt h ⊞ nn-pos 1) ⊠ le l ⊞ eq (pos 1) e ⊞ lt p) (search reads depth 8) tt

  -- a step that does not lengthen leaves numbers that mean the rest of the target
  pub closer-moved : {n : ℕ} {x r' x' : List ℤ} {b : Bool} (p : Moved n k g r x r' x' b) → N (t ⊖ comb p.step vs) ≤ℤ N t
  closer-moved p = rw (gain-is t (comb p.step vs)) (law (N t) (gain t (comb p.step vs)) (gain_of g r p.step) m.positive p.shorter (gain-of F vs g m.gram t r m.products p.step))
    where
      law : (n d z : ℤ) → pos 0 <ℤ F → z ≤ℤ pos 0 → F *ℤ z ≡ d → (n +ℤ d) ≤ℤ n
      law n d z h l e = by_nn (F ∷ n ∷ d ∷ z ∷ []) ((lt h ⊞ nn-pos 1) ⊠ le l ⊞ eq (pos 1) e) (search reads depth 8) (search reads depth 8) tt

  pub meant-moved : {n : ℕ} {x r' x' : List ℤ} {b : Bool} (p : Moved n k g r x r' x' b) → Meant F k vs (t ⊖ comb p.step vs) g r'
  meant-moved p = record {
    positive = m.positive;
    enough = m.enough;
    reduced = m.reduced;
    short = m.short;
    target = ≤ℤ_trans (closer-moved p) m.target;
    gram = m.gram;
    products = products-≈ F vs ≈_refl (≈_sym p.left) (products-moved F vs g m.gram t r m.products p.step);
    wide = λ i. subst (λ n. length (get_or g i []) ≤ n) (sym p.width) (m.wide i);
  }

pub known-moved : {n k : ℕ} {g : List (List ℤ)} {r x r' x' : List ℤ} {b : Bool} → Known k g r → Moved n k g r x r' x' b → Known k g r'
known-moved w p = record { factor = w.factor; vectors = w.vectors; target = w.target ⊖ comb p.step w.vectors; meant = meant-moved w.meant p }

-- ---- from zeros on, the step is the coefficients

pub from-zeros : {n k : ℕ} {g : List (List ℤ)} {r r' x : List ℤ} {b : Bool} (p : Moved n k g r (replicate n (pos 0)) r' x b) → p.step ≡ x
from-zeros {n} p = sym (p.coefficients ∙ same (length-⊕-same (replicate n (pos 0)) p.step (length-replicate n (pos 0) ∙ sym p.count) ∙ length-replicate n (pos 0) ∙ sym p.count)
    (λ i. nth-⊕ (replicate n (pos 0)) p.step i ∙ ap (λ z. z +ℤ nth p.step i) (nth-replicate n i) ∙ by_ring (nth p.step i ∷ []) (search reads) (search reads) tt))

-- ---- the measure: the fall so far, lifted above 0

-- the size of a number of n coefficients, by the size of these
abbrev most : ℕ → ℤ
most zero = pos 0
most (suc n) = pos 30000000 *ℤ power base n +ℤ most n

abbrev lift : ℕ → ℤ
lift n = pos 3600000000 *ℤ power base n +ℤ most n

pub measure : List (List ℤ) → List ℤ → List ℤ → ℕ
measure g r₀ x = nat_abs (fall g r₀ x +ℤ lift (length x))

number-lower : (x : List ℤ) → Bounded 30000000 x → neg_ℤ (most (length x)) ≤ℤ number base x
number-lower [] h = le_z_yes tt
number-lower (y ∷ x) h = law y (pos 30000000) (power base (length x)) (number base x) (most (length x)) (within-lower (h 0)) (power-nonneg 5000000000 (length x)) (number-lower x (λ i. h (suc i)))
  where
    law : (y c p n l : ℤ) → neg_ℤ c ≤ℤ y → NN p → neg_ℤ l ≤ℤ n → neg_ℤ (c *ℤ p +ℤ l) ≤ℤ (y *ℤ p +ℤ n)
    law y c p n l h k m = by_nn (y ∷ c ∷ p ∷ n ∷ l ∷ []) (le h ⊠ k ⊞ le m) (search reads depth 8) (search reads depth 8) tt

pub smaller : {a b : ℤ} → NN a → a <ℤ b → nat_abs a < nat_abs b
smaller {a = pos m} {b = pos n} h l = ltb→lt m n l.lt
smaller {a = pos m} {b = negsuc n} h l = absurd l.lt
smaller {a = negsuc m} h l = absurd h.le

module _ {F : ℤ} {n k : ℕ} {vs : List Vec} {t : Vec} {g : List (List ℤ)} {r₀ r x : List ℤ} {b : Bool} (m : Meant F k vs t g r₀) (p : Moved n k g r₀ (replicate n (pos 0)) r x b) where
  same_step : p.step ≡ x
  same_step = from-zeros p

  pub zero-behind : (j : ℕ) → k ≤ j → nth x j ≡ pos 0
  zero-behind = subst (λ z. (j : ℕ) → k ≤ j → nth z j ≡ pos 0) same_step p.behind

  pub long : length x ≡ n
  long = subst (λ z. length z ≡ n) same_step p.count

  gained : F *ℤ gain_of g r₀ x ≡ gain t (comb x vs)
  gained = gain-of F vs g m.gram t r₀ m.products x

  closer : N (t ⊖ comb x vs) ≤ℤ N t
  closer = subst (λ z. N (t ⊖ comb z vs) ≤ℤ N t) same_step (closer-moved m p)

  module _ (few : k ≤ 4) (fits : k ≤ n) where
    pub small : Bounded 30000000 x
    small j = pick (dec_lt j k)
      where
        near : N (comb (take k x) (take k vs)) ≤ℤ (F *ℤ pos 14400000000)
        near = subst (λ n. n ≤ℤ (F *ℤ pos 14400000000)) (≈-N (comb-front k x vs zero-behind)) (law (N (comb x vs)) (N t) (near_le t (comb x vs) closer) m.target)
          where
            law : (n s : ℤ) → n ≤ℤ (pos 4 *ℤ s) → s ≤ℤ (F *ℤ pos 3600000000) → n ≤ℤ (F *ℤ pos 14400000000)
            law n s h l = by_nn (F ∷ n ∷ s ∷ []) (le h ⊞ nn-pos 4 ⊠ le l) (search reads depth 8) (search reads depth 8) tt

        pick : Dec (j < k) → Within 30000000 (nth x j)
        pick (yes h) = coefficient_within F (nth (get_or g j []) j) (nth x j) k m.positive (diagonal m j h) few
            (subst (λ n. (nth x j *ℤ nth x j *ℤ n) ≤ℤ (pos 4 *ℤ power (pos 10) k *ℤ (F *ℤ pos 14400000000))) (sym ((m.gram.row j).at j))
            (coefficient_square k vs x (F *ℤ pos 14400000000) m.enough (omega (arith, long)) few m.reduced near j h))
        pick (no h) = subst (Within 30000000) (sym (zero-behind j (omega (arith, h)))) (record { within = omega arith })

    -- the measure stays above 0
    high : neg_ℤ (lift (length x)) ≤ℤ fall g r₀ x
    unfolding fall
    high = law (gain_of g r₀ x) (power base (length x)) (number base x) (N t) (N (t ⊖ comb x vs)) (pos 3600000000) (most (length x))
        (gained ∙ back) (N-nonneg (t ⊖ comb x vs)) (power-nonneg 5000000000 (length x)) (number-lower x small) m.target
      where
        back : gain t (comb x vs) ≡ N (t ⊖ comb x vs) -ℤ N t
        back = sym (ap (λ n. n -ℤ N t) (gain-is t (comb x vs)) ∙ by_ring (N t ∷ gain t (comb x vs) ∷ []) (search reads) (search reads) tt)

        -- F·d = s − n ≥ −F·u, so d ≥ −u
        above : (d n s u : ℤ) → F *ℤ d ≡ s -ℤ n → NN s → n ≤ℤ (F *ℤ u) → neg_ℤ u ≤ℤ d
        above d n s u e h l = *ℤ-cancel-≤ m.positive (by_nn (F ∷ d ∷ n ∷ s ∷ u ∷ []) (eq (pos 1) e ⊞ h ⊞ le l) (search reads depth 8) (search reads depth 8) tt)

        sum : (d q a u w : ℤ) → neg_ℤ u ≤ℤ d → NN q → neg_ℤ w ≤ℤ a → neg_ℤ (u *ℤ q +ℤ w) ≤ℤ (d *ℤ q +ℤ a)
        sum d q a u w h n l = by_nn (d ∷ q ∷ a ∷ u ∷ w ∷ []) (le h ⊠ n ⊞ le l) (search reads depth 20) (search reads depth 20) tt

        law : (d q a n s u w : ℤ) → F *ℤ d ≡ s -ℤ n → NN s → NN q → neg_ℤ w ≤ℤ a → n ≤ℤ (F *ℤ u) → neg_ℤ (u *ℤ q +ℤ w) ≤ℤ (d *ℤ q +ℤ a)
        law d q a n s u w e h f l i = sum d q a u w (above d n s u e h i) f l

-- a step to a smaller value lowers it
pub descends : {n k : ℕ} {g : List (List ℤ)} {r₀ r x r' x' : List ℤ} {b : Bool} → k ≤ 4 → k ≤ n → Known k g r₀ → Moved n k g r₀ (replicate n (pos 0)) r x b → Moved n k g r x r' x' true
    → measure g r₀ x' < measure g r₀ x
unfolding measure
descends {n} {k} {g} {r₀} {r} {x} {r'} {x'} few fits w p q = smaller (above (fall g r₀ x') (lift (length x')) (high w.meant whole few fits))
    (raised (fall g r₀ x') (fall g r₀ x) (ap lift (long w.meant whole ∙ sym (long w.meant p))) lesser)
  where
    whole : Moved n k g r₀ (replicate n (pos 0)) r' x' true
    whole = moved_then k g r₀ w true (λ t. inr t) (length-replicate n (pos 0)) p q

    lesser : fall g r₀ x' <ℤ fall g r₀ x
    lesser = subst (λ z. fall g r₀ z <ℤ fall g r₀ x) (sym q.coefficients) (subst (λ n. n <ℤ fall g r₀ x)
        (sym (fall-sum k g r₀ w x q.step (long w.meant p ∙ sym q.count))) (law (fall g r₀ x) (fall g (moved g r₀ x) q.step) own))
      where
        law : (a d : ℤ) → d <ℤ pos 0 → (a +ℤ d) <ℤ a
        law a d h = by-lt (a ∷ d ∷ []) (lt h) (search reads) (search reads) tt

        own : fall g (moved g r₀ x) q.step <ℤ pos 0
        own = subst (λ n. n <ℤ pos 0) (fall-residual g q.step (subst (λ z. r ≈ moved g r₀ z) (from-zeros p) p.left)) (q.falls refl)

    above : (a z : ℤ) → neg_ℤ z ≤ℤ a → NN (a +ℤ z)
    above a z h = nn_ring (a ∷ z ∷ []) (le h) (search reads) (search reads) tt

    raised : (a b : ℤ) {y z : ℤ} → y ≡ z → a <ℤ b → (a +ℤ y) <ℤ (b +ℤ z)
    raised a b {y} {z} e h = rw e (by-lt (a ∷ b ∷ z ∷ []) (lt h) (search reads depth 8) (search reads depth 8) tt)
