-- Steps along one vector: a multiple q of vector i, where n is its squared length and p its inner product with the residual.
use Rattle.std.specs.Prelude.{◌≡◌, refl, ◌⊎◌, true, false, List, [], ◌∷◌, ℕ, zero, suc, ◌+◌, ◌*◌, ◌/◌, ◌≤◌, ◌<◌, negsuc, ◌+ℤ◌, ◌-ℤ◌, ◌*ℤ◌, length, get_or, set, replicate, ◌≤ℤ◌, ◌<ℤ◌}
use Rattle.std.proofs.Common.{sym, ◌∙◌, subst, inl, inr, ⊎_elim, le_refl, le_trans, div-le_self, div-add-mod', mod-lt, arith, le→leb, lt→ltb, length-set, get_or-set_same, get_or-set_other, of_z, SFits}
use Rattle.std.proofs.Math.Path.{ap, ap₂}
use Rattle.std.proofs.Math.Decide.{ℕ_discrete}
use Rattle.std.proofs.Math.IntN.{ℤ, pos, neg_ℤ, *ℤ-zero}
use Rattle.std.specs.Int.Signed.{quot_z, lt_z_yes, le_z_yes, clash_ℤ}
use Rattle.std.specs.Int.{w64}
use Rattle.integers.specs.Identity.{by_ring, reads}
use Rattle.integers.specs.Certificate.{◌⊞◌, ◌⊠◌, le, lt, by-lt, by_nn, nn-pos}
use Rattle.integers.specs.Order.{≤ℤ-or-<ℤ, ≤ℤ_antisymm}
use Rattle.integers.specs.Size.{Within, within-le, within-neg, within-add, within-sub, within-mul, fits-within, size-neg}
use Rattle.integers.specs.ListLaws.{same, nth-⊕, nth-replicate, length-⊕-same}
use Rattle.integers.specs.Lex.{below-<, below->, below-≡}
use Rattle.lattices.specs.Vector.{nth, dot, comb, ◌⊕◌, ◌⊙◌, ◌⊖◌}
use Rattle.lattices.specs.Laws.Vector.{◌≈◌, ≈_refl, ≈-⊕, ≈-⊙, ≈_sym, ≈-dot, bilinear, dot-⊙ʳ, zero-dot, comb-dot, against}
use Rattle.successive_minima.specs.Laws.Digits.{zeros}
use Rattle.nearest_steps.specs.Numbers.{gain_of, negative, improves_of}
use Rattle.nearest_steps.specs.Link.{nth-against}
use Rattle.nearest_steps.specs.Steps.{steps, count}
use Rattle.nearest_steps.specs.Moves.{Moved, moved_none, moved-better, moved_weaker}
use Rattle.nearest_steps.specs.State.{None}
use Rattle.nearest_steps.specs.Stepped.{Descends}

-- neither of the multiples 1 and −1 leads to a smaller value
abbrev pub Still : ℤ → ℤ → Type 0
Still n p = (neg_ℤ n <ℤ (pos 2 *ℤ p)) × ((pos 2 *ℤ p) ≤ℤ n)

-- taking the multiple q away does: it shortens, or it keeps the length and lowers the coefficient
abbrev Lowers : ℤ → ℤ → ℤ → Type 0
Lowers n p q = ((q <ℤ pos 0) × (pos 0 ≤ℤ (q *ℤ n -ℤ pos 2 *ℤ p))) ⊎ ((pos 0 <ℤ q) × ((q *ℤ n -ℤ pos 2 *ℤ p) <ℤ pos 0))

-- a multiple that leaves nothing to take, and is not 0
nearest_lowers : (n p q : ℤ) → pos 0 <ℤ n → Still n (p -ℤ q *ℤ n) → ¬ (q ≡ pos 0) → Lowers n p q
nearest_lowers n p q h s f = ⊎_elim low (λ (l : pos 0 <ℤ q). inr (l, by-lt (n ∷ p ∷ q ∷ []) (lt s.0 ⊞ lt l ⊠ (lt h ⊞ nn-pos 1)) (search reads depth 20) (search reads depth 20) tt)) (≤ℤ-or-<ℤ q (pos 0))
  where
    low : q ≤ℤ pos 0 → Lowers n p q
    low l = ⊎_elim (λ (m : pos 0 ≤ℤ q). absurd (f (≤ℤ_antisymm l m)))
        (λ (m : q <ℤ pos 0). inl (m, by_nn (n ∷ p ∷ q ∷ []) (le s.1 ⊞ lt m ⊠ (lt h ⊞ nn-pos 1)) (search reads depth 20) (search reads depth 20) tt)) (≤ℤ-or-<ℤ (pos 0) q)

-- ---- quotients

pub within-twice : {B : ℕ} {z : ℤ} → Within B z → Within (2 * B) (pos 2 *ℤ z)
within-twice h = within-mul {A = 2} {a = pos 2} (record { within = le_refl 2 }) h

-- a quotient is no larger than what is divided
pub quot-within : {B : ℕ} (a b : ℤ) → Within B a → Within B (quot_z a b)
quot-within (pos a) (pos b) h = record { within = le_trans (div-le_self a b) h.within }
quot-within {B} (pos a) (negsuc b) h = record { within = subst (λ m. m ≤ B) (sym (size-neg (pos (a / suc b)))) (le_trans (div-le_self a (suc b)) h.within) }
quot-within {B} (negsuc a) (pos b) h = record { within = subst (λ m. m ≤ B) (sym (size-neg (pos (suc a / b)))) (le_trans (div-le_self (suc a) b) h.within) }
quot-within (negsuc a) (negsuc b) h = record { within = le_trans (div-le_self (suc a) (suc b)) h.within }

-- rounded down where both are positive, up where the first is negative
quot-down : (a b : ℤ) → pos 0 ≤ℤ a → pos 0 <ℤ b → ((quot_z a b *ℤ b) ≤ℤ a) × (a <ℤ (quot_z a b *ℤ b +ℤ b))
quot-down (pos a) (pos zero) h l = absurd l.lt
quot-down (pos a) (pos (suc b)) h l = (
  le_z_yes (le→leb (a / suc b * suc b) a (omega (arith, div-add-mod' a (suc b)))),
  lt_z_yes (lt→ltb a (a / suc b * suc b + suc b) (omega (arith, div-add-mod' a (suc b), mod-lt a {m = suc b} (omega arith)))),
)
quot-down (pos a) (negsuc b) h l = absurd l.lt
quot-down (negsuc a) b h l = absurd h.le

quot-up : (a b : ℤ) → a <ℤ pos 0 → pos 0 <ℤ b → (a ≤ℤ (quot_z a b *ℤ b)) × ((quot_z a b *ℤ b -ℤ b) <ℤ a)
quot-up (pos a) b h l = absurd (clash_ℤ h (nn-pos a))
quot-up (negsuc a) (pos zero) h l = absurd l.lt
quot-up (negsuc a) (negsuc b) h l = absurd l.lt
quot-up (negsuc a) (pos (suc b)) h l = turned (pos (suc a)) (pos (suc b)) (pos (suc a / suc b)) (quot-down (pos (suc a)) (pos (suc b)) (nn-pos (suc a)) l)
  where
    turned : (a b q : ℤ) → ((q *ℤ b) ≤ℤ a) × (a <ℤ (q *ℤ b +ℤ b)) → (neg_ℤ a ≤ℤ (neg_ℤ q *ℤ b)) × ((neg_ℤ q *ℤ b -ℤ b) <ℤ neg_ℤ a)
    turned a b q h = (by_nn (a ∷ b ∷ q ∷ []) (le h.0) (search reads depth 8) (search reads depth 8) tt, by-lt (a ∷ b ∷ q ∷ []) (lt h.1) (search reads depth 8) (search reads depth 8) tt)

-- the multiple nearest to what is left
module _ (n p : ℤ) (h : pos 0 <ℤ n) where
  twice-positive : pos 0 <ℤ (pos 2 *ℤ n)
  twice-positive = by-lt (n ∷ []) (lt h ⊞ lt h ⊞ nn-pos 1) (search reads depth 8) (search reads depth 8) tt

  pub still-above : n <ℤ (pos 2 *ℤ p) → Still n (p -ℤ quot_z (pos 2 *ℤ p +ℤ n -ℤ pos 1) (pos 2 *ℤ n) *ℤ n)
  still-above l = law (quot_z (pos 2 *ℤ p +ℤ n -ℤ pos 1) (pos 2 *ℤ n)) (quot-down (pos 2 *ℤ p +ℤ n -ℤ pos 1) (pos 2 *ℤ n) positive twice-positive)
    where
      positive : pos 0 ≤ℤ (pos 2 *ℤ p +ℤ n -ℤ pos 1)
      positive = by_nn (n ∷ p ∷ []) (lt l ⊞ lt h ⊞ lt h ⊞ nn-pos 2) (search reads depth 8) (search reads depth 8) tt

      law : (q : ℤ) → ((q *ℤ (pos 2 *ℤ n)) ≤ℤ (pos 2 *ℤ p +ℤ n -ℤ pos 1)) × ((pos 2 *ℤ p +ℤ n -ℤ pos 1) <ℤ (q *ℤ (pos 2 *ℤ n) +ℤ pos 2 *ℤ n)) → Still n (p -ℤ q *ℤ n)
      law q b = (by-lt (n ∷ p ∷ q ∷ []) (le b.0) (search reads depth 20) (search reads depth 20) tt, by_nn (n ∷ p ∷ q ∷ []) (lt b.1) (search reads depth 20) (search reads depth 20) tt)

  pub still-below : (pos 2 *ℤ p) ≤ℤ neg_ℤ n → Still n (p -ℤ quot_z (pos 2 *ℤ p -ℤ n) (pos 2 *ℤ n) *ℤ n)
  still-below l = law (quot_z (pos 2 *ℤ p -ℤ n) (pos 2 *ℤ n)) (quot-up (pos 2 *ℤ p -ℤ n) (pos 2 *ℤ n) below twice-positive)
    where
      below : (pos 2 *ℤ p -ℤ n) <ℤ pos 0
      below = by-lt (n ∷ p ∷ []) (le l ⊞ lt h ⊞ lt h ⊞ nn-pos 1) (search reads depth 8) (search reads depth 8) tt

      law : (q : ℤ) → ((pos 2 *ℤ p -ℤ n) ≤ℤ (q *ℤ (pos 2 *ℤ n))) × ((q *ℤ (pos 2 *ℤ n) -ℤ pos 2 *ℤ n) <ℤ (pos 2 *ℤ p -ℤ n)) → Still n (p -ℤ q *ℤ n)
      law q b = (by-lt (n ∷ p ∷ q ∷ []) (lt b.1) (search reads depth 20) (search reads depth 20) tt, by_nn (n ∷ p ∷ q ∷ []) (le b.0) (search reads depth 20) (search reads depth 20) tt)

pub nothing-taken : (n p q : ℤ) → q ≡ pos 0 → p ≡ p -ℤ q *ℤ n
nothing-taken n p q e = rw e (by_ring (n ∷ p ∷ []) (search reads) (search reads) tt)

-- ---- q at the first place, zeros behind

abbrev single : ℕ → ℤ → List ℤ
single n q = q ∷ replicate n (pos 0)

dot-single : (n : ℕ) (q : ℤ) (v : List ℤ) → dot (single n q) v ≡ q *ℤ nth v 0
unfolding dot
dot-single n q [] = sym (*ℤ-zero q)
dot-single n q (y ∷ v) = ap (λ s. q *ℤ y +ℤ s) (zero-dot (replicate n (pos 0)) (nth-replicate n) v) ∙ by_ring (q ∷ y ∷ []) (search reads) (search reads) tt

nth-single : (P : ℤ → Type 0) (n j : ℕ) (q : ℤ) → P (pos 0) → P q → P (nth (single n q) j)
nth-single P n zero q z f = f
nth-single P n (suc j) q z f = subst P (sym (nth-replicate n j)) z

positive-single : (n : ℕ) → negative (single n (pos 1)) ≡ false
positive-single n = below-> {x = pos 1} {y = pos 0} (replicate n (pos 0)) (zeros (replicate n (pos 0))) (lt_z_yes tt)

negative-single : (n : ℕ) (q : ℤ) → q <ℤ pos 0 → negative (single n q) ≡ true
negative-single n q l = below-< {x = q} {y = pos 0} (replicate n (pos 0)) (zeros (replicate n (pos 0))) l

-- it takes that multiple of the first row
comb-single : (g : List (List ℤ)) (n : ℕ) (q : ℤ) → comb (single n q) g ≈ q ⊙ get_or g 0 []
comb-single g n q = record { on = λ w. comb-dot (single n q) g w ∙ dot-single n q (against g w) ∙ ap (λ z. q *ℤ z) (nth-against g w 0) ∙ sym (simp bilinear) }

single-added : (x : List ℤ) (q : ℤ) → length x ≡ 4 → set x 0 (nth x 0 +ℤ q) ≡ x ⊕ single 3 q
single-added x q l = same (length-set x 0 (nth x 0 +ℤ q) ∙ sym (length-⊕-same x (single 3 q) l)) (λ j. at j (ℕ_discrete j 0) ∙ sym (nth-⊕ x (single 3 q) j))
  where
    at : (j : ℕ) → Dec (j ≡ 0) → nth (set x 0 (nth x 0 +ℤ q)) j ≡ nth x j +ℤ nth (single 3 q) j
    at zero (yes e) = get_or-set_same x 0 (nth x 0 +ℤ q) (pos 0) (omega arith)
    at zero (no e) = absurd (e refl)
    at (suc j) (yes e) = absurd (omega (arith, e))
    at (suc j) (no e) = get_or-set_other x 0 (suc j) (nth x 0 +ℤ q) (pos 0) e ∙ sym (ap (λ z. nth x (suc j) +ℤ z) (nth-replicate 3 j) ∙ by_ring (nth x (suc j) ∷ []) (search reads) (search reads) tt)

module _ (g : List (List ℤ)) (r : List ℤ) (n : ℕ) (q : ℤ) where
  gain-single : gain_of g r (single n q) ≡ q *ℤ (q *ℤ nth (get_or g 0 []) 0 -ℤ pos 2 *ℤ nth r 0)
  unfolding gain_of
  gain-single = ap₂ (λ a b. a -ℤ pos 2 *ℤ b)
      (≈-dot (≈_refl {u = single n q}) (comb-single g n q) ∙ dot-⊙ʳ q (get_or g 0 []) (single n q) ∙ ap (λ z. q *ℤ z) (dot-single n q (get_or g 0 []))) (dot-single n q r)
      ∙ law (nth r 0) (nth (get_or g 0 []) 0)
    where
      law : (p n : ℤ) → q *ℤ (q *ℤ n) -ℤ pos 2 *ℤ (q *ℤ p) ≡ q *ℤ (q *ℤ n -ℤ pos 2 *ℤ p)
      law p n = by_ring (q ∷ p ∷ n ∷ []) (search reads depth 20) (search reads depth 20) tt

  lower : Lowers (nth (get_or g 0 []) 0) (nth r 0) q → improves_of g r (single n q) ≡ true
  unfolding improves_of
  lower (inr h) = below-< {x = gain_of g r (single n q)} {y = pos 0} (single n q) (zeros (single n q)) (subst (λ x. x <ℤ pos 0) (sym gain-single) (right h.0 h.1))
    where
      right : {a b : ℤ} → pos 0 <ℤ a → b <ℤ pos 0 → (a *ℤ b) <ℤ pos 0
      right {a} {b} h k = by-lt (a ∷ b ∷ []) (lt h ⊠ lt k ⊞ lt h ⊞ lt k) (search reads depth 20) (search reads depth 20) tt
  lower (inl h) = pick (≤ℤ-or-<ℤ d (pos 0))
    where
      d : ℤ
      d = q *ℤ nth (get_or g 0 []) 0 -ℤ pos 2 *ℤ nth r 0

      left : {a b : ℤ} → a <ℤ pos 0 → pos 0 <ℤ b → (a *ℤ b) <ℤ pos 0
      left {a} {b} h k = by-lt (a ∷ b ∷ []) (lt h ⊠ lt k ⊞ lt h ⊞ lt k) (search reads depth 20) (search reads depth 20) tt

      pick : (d ≤ℤ pos 0) ⊎ (pos 0 <ℤ d) → negative (gain_of g r (single n q) ∷ single n q) ≡ true
      pick (inl k) =
          below-≡ {x = gain_of g r (single n q)} {y = pos 0} (single n q) (zeros (single n q)) (gain-single ∙ ap (λ x. q *ℤ x) (≤ℤ_antisymm k h.1) ∙ *ℤ-zero q)
          ∙ negative-single n q h.0
      pick (inr k) = below-< {x = gain_of g r (single n q)} {y = pos 0} (single n q) (zeros (single n q)) (subst (λ x. x <ℤ pos 0) (sym gain-single) (left h.0 k))

-- ---- where neither 1 nor −1 leads to a smaller value, the lists of one vector do not

module _ (g : List (List ℤ)) (r : List ℤ) (n : ℕ) (s : Still (nth (get_or g 0 []) 0) (nth r 0)) where
  plus : improves_of g r (single n (pos 1)) ≡ false
  unfolding improves_of
  plus = pick (≤ℤ-or-<ℤ x (pos 0))
    where
      x : ℤ
      x = gain_of g r (single n (pos 1))

      nonneg : pos 0 ≤ℤ x
      nonneg = subst (λ x. pos 0 ≤ℤ x) (sym (gain-single g r n (pos 1))) (law (nth (get_or g 0 []) 0) (nth r 0) s.1)
        where
          law : (n p : ℤ) → (pos 2 *ℤ p) ≤ℤ n → pos 0 ≤ℤ (pos 1 *ℤ (pos 1 *ℤ n -ℤ pos 2 *ℤ p))
          law n p h = by_nn (n ∷ p ∷ []) (le h) (search reads depth 20) (search reads depth 20) tt

      pick : (x ≤ℤ pos 0) ⊎ (pos 0 <ℤ x) → negative (x ∷ single n (pos 1)) ≡ false
      pick (inl k) = below-≡ {x = x} {y = pos 0} (single n (pos 1)) (zeros (single n (pos 1))) (≤ℤ_antisymm k nonneg) ∙ positive-single n
      pick (inr k) = below-> {x = x} {y = pos 0} (single n (pos 1)) (zeros (single n (pos 1))) k

  minus : improves_of g r (single n (negsuc 0)) ≡ false
  unfolding improves_of
  minus = below-> {x = gain_of g r (single n (negsuc 0))} {y = pos 0} (single n (negsuc 0)) (zeros (single n (negsuc 0)))
      (subst (λ x. pos 0 <ℤ x) (sym (gain-single g r n (negsuc 0))) (law (nth (get_or g 0 []) 0) (nth r 0) s.0))
    where
      law : (n p : ℤ) → neg_ℤ n <ℤ (pos 2 *ℤ p) → pos 0 <ℤ (negsuc 0 *ℤ (negsuc 0 *ℤ n -ℤ pos 2 *ℤ p))
      law n p h = by-lt (n ∷ p ∷ []) (lt h) (search reads depth 20) (search reads depth 20) tt

-- the lists of one vector are the first pair of the table
still-none : (g : List (List ℤ)) (r : List ℤ) → Still (nth (get_or g 0 []) 0) (nth r 0) → None (count 1) g r
unfolding steps ◌⊙◌
still-none g r s zero l = plus g r 2 s
still-none g r s (suc zero) l = minus g r 2 s
still-none g r s (suc (suc i)) l = absurd (omega arith)

-- ---- what is done to one vector

module _ (g : List (List ℤ)) (r x : List ℤ) (l : length x ≡ 4) (q : ℤ) (s : Still (nth (get_or g 0 []) 0) (nth r 0 -ℤ q *ℤ nth (get_or g 0 []) 0)) where
  pub along_none : q ≡ pos 0 → Descends 1 g r x r x
  along_none e = record { moves = moved_none 4 1 g r x l; none = still-none g r (subst (Still (nth (get_or g 0 []) 0)) (sym (nothing-taken (nth (get_or g 0 []) 0) (nth r 0) q e)) s) }

  pub along_some : pos 0 <ℤ nth (get_or g 0 []) 0 → ¬ (q ≡ pos 0) → Within 5000000000 q → nth (r ⊖ q ⊙ get_or g 0 []) 0 ≡ nth r 0 -ℤ q *ℤ nth (get_or g 0 []) 0 → length (r ⊖ q ⊙ get_or g 0 []) ≡ length r
      → Descends 1 g r x (r ⊖ q ⊙ get_or g 0 []) (set x 0 (nth x 0 +ℤ q))
  along_some h f b e v = record {
    moves = subst (λ y. Moved 4 1 g r x (r ⊖ q ⊙ get_or g 0 []) y false) (sym (single-added x q l))
        (moved_weaker (moved-better 4 1 g r x (single 3 q) refl behind (λ j. nth-single (Within 5000000000) 3 j q (record { within = omega arith }) b)
        (lower g r 3 q (nearest_lowers (nth (get_or g 0 []) 0) (nth r 0) q h s f)) (≈-⊕ ≈_refl (≈-⊙ (negsuc 0) (≈_sym (comb-single g 3 q)))) v));
    none = still-none g (r ⊖ q ⊙ get_or g 0 []) (subst (Still (nth (get_or g 0 []) 0)) (sym e) s);
  }
    where
      behind : (j : ℕ) → 1 ≤ j → nth (single 3 q) j ≡ pos 0
      behind zero m = absurd (omega arith)
      behind (suc j) m = nth-replicate 3 j

-- ---- what fits on the way to the nearest multiple

pub positive_bits : {z : ℤ} → pos 0 <ℤ z → 0 < of_z w64 z
positive_bits {z = pos zero} h = absurd h.lt
positive_bits {z = pos (suc n)} h = omega arith
positive_bits {z = negsuc n} h = absurd h.lt

pub record Divided (n p : ℤ) : Type 0 where
  pub twice : SFits w64 (pos 2 *ℤ p)
  pub opposite : SFits w64 (neg_ℤ n)
  pub divisor : SFits w64 (pos 2 *ℤ n)
  pub sum : SFits w64 (pos 2 *ℤ p +ℤ n)
  pub above : SFits w64 (pos 2 *ℤ p +ℤ n -ℤ pos 1)
  pub below : SFits w64 (pos 2 *ℤ p -ℤ n)
  pub above_quotient : Within 5000000000 (quot_z (pos 2 *ℤ p +ℤ n -ℤ pos 1) (pos 2 *ℤ n))
  pub below_quotient : Within 5000000000 (quot_z (pos 2 *ℤ p -ℤ n) (pos 2 *ℤ n))
  pub above-fits : SFits w64 (quot_z (pos 2 *ℤ p +ℤ n -ℤ pos 1) (pos 2 *ℤ n))
  pub below-fits : SFits w64 (quot_z (pos 2 *ℤ p -ℤ n) (pos 2 *ℤ n))
  pub positive : 0 < of_z w64 (pos 2 *ℤ n)

pub divided : (n p : ℤ) → Within 400000000 n → pos 0 <ℤ n → Within 2000000000 p → Divided n p
divided n p a h b = record {
  twice = fits-within (within-twice b) tt;
  opposite = fits-within (within-neg a) tt;
  divisor = fits-within (within-twice a) tt;
  sum = fits-within (within-add (within-twice b) a) tt;
  above = fits-within above tt;
  below = fits-within (within-sub (within-twice b) a) tt;
  above_quotient = high;
  below_quotient = low;
  above-fits = fits-within high tt;
  below-fits = fits-within low tt;
  positive = positive_bits (twice-positive n p h);
}
  where
    above : Within (2 * 2000000000 + 400000000 + 1) (pos 2 *ℤ p +ℤ n -ℤ pos 1)
    above = within-sub {b = pos 1} (within-add (within-twice b) a) (record { within = le_refl 1 })

    high : Within 5000000000 (quot_z (pos 2 *ℤ p +ℤ n -ℤ pos 1) (pos 2 *ℤ n))
    high = quot-within (pos 2 *ℤ p +ℤ n -ℤ pos 1) (pos 2 *ℤ n) (within-le (omega arith) above)

    low : Within 5000000000 (quot_z (pos 2 *ℤ p -ℤ n) (pos 2 *ℤ n))
    low = quot-within (pos 2 *ℤ p -ℤ n) (pos 2 *ℤ n) (within-le (omega arith) (within-sub (within-twice b) a))
