-- What a function of the search did: the coefficients x gained a step, the inner products r lost it, and the value did not rise.
use Rattle.std.specs.Prelude.{◌≡◌, refl, ◌⊎◌, Bool, true, false, List, [], ◌∷◌, T, ℤ, pos, ◌+ℤ◌, ◌-ℤ◌, ◌*ℤ◌, length, replicate, ◌≤ℤ◌, ◌<ℤ◌}
use Rattle.std.proofs.Common.{sym, ap₂, ◌∙◌, subst, ⊎_elim, arith}
use Rattle.std.proofs.Math.Path.{ap}
use Prim.Native.Nat.{ℕ, zero, suc, ◌≤◌}
use Rattle.std.proofs.lemmas.List.{length-replicate}
use Rattle.integers.specs.Identity.{by_ring, reads}
use Rattle.integers.specs.Order.{≤ℤ_of_≡, ≤ℤ_of_<ℤ, ≤ℤ-or-<ℤ}
use Rattle.integers.specs.Certificate.{◌⊞◌, le, lt, by_nn, by-lt}
use Rattle.integers.specs.ListLaws.{same, nth-replicate, nth-⊕, length-⊕-same}
use Rattle.integers.specs.Lex.{below->}
use Rattle.lattices.specs.Vector.{nth, comb, ◌⊕◌}
use Rattle.lattices.specs.Laws.Vector.{◌≈◌, ≈_sym, ≈_trans, zero-dot, comb-zero, ⊖-zero}
use Rattle.successive_minima.specs.Laws.Digits.{Bounded, zeros, power, number, number-⊕, number-negative}
use Rattle.nearest_steps.specs.Meant.{Known, Meant}
use Rattle.nearest_steps.specs.Numbers.{moved, gain_of, improves_of}
use Rattle.nearest_steps.specs.Link.{gain-sum, gain-residual, moved-≈, moved-moved}

-- above the entries of every step
abbrev pub base : ℤ
base = pos 5000000001

-- the change of value, as one number: squared length first, then the coefficients
unfoldable pub fall : List (List ℤ) → List ℤ → List ℤ → ℤ
fall g r e = number base (gain_of g r e ∷ e)

-- from r and x, n coefficients of which the first k may change, to r' and x'; b: to a smaller value
pub record Moved (n k : ℕ) (g : List (List ℤ)) (r x r' x' : List ℤ) (b : Bool) : Type 0 where
  pub step : List ℤ
  pub count : length step ≡ n
  pub behind : (j : ℕ) → k ≤ j → nth step j ≡ pos 0
  pub coefficients : x' ≡ x ⊕ step
  pub left : r' ≈ moved g r step
  pub width : length r' ≡ length r
  pub shorter : gain_of g r step ≤ℤ pos 0
  pub lower : fall g r step ≤ℤ pos 0
  pub falls : b ≡ true → fall g r step <ℤ pos 0

pub fall-residual : (g : List (List ℤ)) {r s : List ℤ} (e : List ℤ) → r ≈ s → fall g r e ≡ fall g s e
unfolding fall
fall-residual g e p = ap (λ n. number base (n ∷ e)) (gain-residual g e p)

-- ---- no step

pub no-zeros : (n : ℕ) → number base (replicate n (pos 0)) ≡ pos 0
no-zeros zero = refl
no-zeros (suc n) = ap (λ z. pos 0 *ℤ power base (length (replicate n (pos 0))) +ℤ z) (no-zeros n) ∙ by_ring (power base (length (replicate n (pos 0))) ∷ []) (search reads) (search reads) tt

pub still-nothing : (n : ℕ) (g : List (List ℤ)) (r : List ℤ) → gain_of g r (replicate n (pos 0)) ≡ pos 0
unfolding gain_of
still-nothing n g r = ap₂ (λ a b. a -ℤ pos 2 *ℤ b) (zero-dot (replicate n (pos 0)) (nth-replicate n) (comb (replicate n (pos 0)) g)) (zero-dot (replicate n (pos 0)) (nth-replicate n) r)

-- sums of whole numbers that the laws below use
pub plus-nothing : (a : ℤ) → a +ℤ pos 0 ≡ a
plus-nothing a = by_ring (a ∷ []) (search reads) (search reads) tt

pub plus-again : (a b c : ℤ) → (a +ℤ b) +ℤ c ≡ a +ℤ (b +ℤ c)
plus-again a b c = by_ring (a ∷ b ∷ c ∷ []) (search reads depth 8) (search reads depth 8) tt

pub both : (a b : ℤ) → a ≤ℤ pos 0 → b ≤ℤ pos 0 → (a +ℤ b) ≤ℤ pos 0
both a b h i = by_nn (a ∷ b ∷ []) (le h ⊞ le i) (search reads depth 8) (search reads depth 8) tt

pub left_strict : (a b : ℤ) → a <ℤ pos 0 → b ≤ℤ pos 0 → (a +ℤ b) <ℤ pos 0
left_strict a b h i = by-lt (a ∷ b ∷ []) (lt h ⊞ le i) (search reads depth 8) (search reads depth 8) tt

pub right_strict : (a b : ℤ) → a ≤ℤ pos 0 → b <ℤ pos 0 → (a +ℤ b) <ℤ pos 0
right_strict a b h i = by-lt (a ∷ b ∷ []) (le h ⊞ lt i) (search reads depth 8) (search reads depth 8) tt

unfoldable pub moved_none : (n k : ℕ) (g : List (List ℤ)) (r x : List ℤ) → length x ≡ n → Moved n k g r x r x false
unfolding fall
moved_none n k g r x h = record {
  step = replicate n (pos 0);
  count = length-replicate n (pos 0);
  behind = λ j m. nth-replicate n j;
  coefficients = same (sym (length-⊕-same x (replicate n (pos 0)) (h ∙ sym (length-replicate n (pos 0)))))
      (λ i. sym (nth-⊕ x (replicate n (pos 0)) i ∙ ap (λ z. nth x i +ℤ z) (nth-replicate n i) ∙ plus-nothing (nth x i)));
  left = ≈_sym (⊖-zero r (comb-zero (replicate n (pos 0)) (nth-replicate n) g));
  width = refl;
  shorter = ≤ℤ_of_≡ (still-nothing n g r);
  lower = ≤ℤ_of_≡ (ap (λ z. number base (z ∷ replicate n (pos 0))) (still-nothing n g r) ∙ no-zeros (suc n));
  falls = λ e. absurd (subst T (sym e) tt);
}

-- ---- a step that improves

pub gain-below : (g : List (List ℤ)) (r e : List ℤ) → improves_of g r e ≡ true → gain_of g r e ≤ℤ pos 0
unfolding improves_of
gain-below g r e h = ⊎_elim (λ (l : gain_of g r e ≤ℤ pos 0). l) (λ (l : pos 0 <ℤ gain_of g r e). absurd (subst T (sym h ∙ below-> e (zeros e) l) tt)) (≤ℤ-or-<ℤ (gain_of g r e) (pos 0))

pub falls_below : (g : List (List ℤ)) (r e : List ℤ) → Bounded 5000000000 e → improves_of g r e ≡ true → fall g r e <ℤ pos 0
unfolding improves_of fall
falls_below g r e b h = number-negative 5000000000 (gain_of g r e) e h b

unfoldable pub moved-better : (n k : ℕ) (g : List (List ℤ)) (r x e : List ℤ) {r' : List ℤ} → length e ≡ n → ((j : ℕ) → k ≤ j → nth e j ≡ pos 0) → Bounded 5000000000 e → improves_of g r e ≡ true
    → r' ≈ moved g r e → length r' ≡ length r → Moved n k g r x r' (x ⊕ e) true
moved-better n k g r x e l z b h p v = record {
  step = e;
  count = l;
  behind = z;
  coefficients = refl;
  left = p;
  width = v;
  shorter = gain-below g r e h;
  lower = ≤ℤ_of_<ℤ (falls_below g r e b h);
  falls = λ t. falls_below g r e b h;
}

-- ---- one after the other

module _ (k : ℕ) (g : List (List ℤ)) (r : List ℤ) (w : Known k g r) where
  abbrev m : Meant w.factor k w.vectors w.target g r
  m = w.meant

  pub gains : (e f : List ℤ) → gain_of g r (e ⊕ f) ≡ gain_of g r e +ℤ gain_of g (moved g r e) f
  gains e f = gain-sum w.factor w.vectors g m.gram m.positive w.target r e f m.products

  pub fall-sum : (e f : List ℤ) → length e ≡ length f → fall g r (e ⊕ f) ≡ fall g r e +ℤ fall g (moved g r e) f
  unfolding fall ◌⊕◌
  fall-sum e f l = ap (λ n. number base (n ∷ (e ⊕ f))) (gains e f) ∙ number-⊕ base (gain_of g r e ∷ e) (gain_of g (moved g r e) f ∷ f) (ap suc l)

  unfoldable pub moved_then : {n : ℕ} {x r' x' r'' x'' : List ℤ} {b c : Bool} (d : Bool) → (d ≡ true → (b ≡ true) ⊎ (c ≡ true)) → length x ≡ n
      → Moved n k g r x r' x' b → Moved n k g r' x' r'' x'' c → Moved n k g r x r'' x'' d
  moved_then {n} {x} {r'} {x'} {r''} {x''} {b} {c} d o l p q = record {
    step = e ⊕ f;
    count = length-⊕-same e f (p.count ∙ sym q.count) ∙ p.count;
    behind = λ j h. nth-⊕ e f j ∙ ap₂ ◌+ℤ◌ (p.behind j h) (q.behind j h);
    coefficients = q.coefficients ∙ ap (λ y. y ⊕ f) p.coefficients ∙ sums;
    left = ≈_trans q.left (≈_trans (moved-≈ g f p.left) (moved-moved g r e f));
    width = q.width ∙ p.width;
    shorter = subst (λ n. n ≤ℤ pos 0) (sym (gains e f)) (both (gain_of g r e) (gain_of g (moved g r e) f) p.shorter (subst (λ n. n ≤ℤ pos 0) (gain-residual g f p.left) q.shorter));
    lower = subst (λ n. n ≤ℤ pos 0) (sym falling) (both (fall g r e) (fall g (moved g r e) f) p.lower second);
    falls = λ t. subst (λ n. n <ℤ pos 0) (sym falling) (⊎_elim (λ u. left_strict (fall g r e) (fall g (moved g r e) f) (p.falls u) second)
        (λ u. right_strict (fall g r e) (fall g (moved g r e) f) p.lower (subst (λ n. n <ℤ pos 0) (fall-residual g f p.left) (q.falls u))) (o t));
  }
    where
      e : List ℤ
      e = p.step

      f : List ℤ
      f = q.step

      falling : fall g r (e ⊕ f) ≡ fall g r e +ℤ fall g (moved g r e) f
      falling = fall-sum e f (p.count ∙ sym q.count)

      second : fall g (moved g r e) f ≤ℤ pos 0
      second = subst (λ n. n ≤ℤ pos 0) (fall-residual g f p.left) q.lower

      sums : (x ⊕ e) ⊕ f ≡ x ⊕ (e ⊕ f)
      sums = same (length-⊕-same (x ⊕ e) f (length-⊕-same x e (l ∙ sym p.count) ∙ l ∙ sym q.count) ∙ length-⊕-same x e (l ∙ sym p.count)
          ∙ sym (length-⊕-same x (e ⊕ f) (l ∙ sym (length-⊕-same e f (p.count ∙ sym q.count) ∙ p.count))))
          (λ i. simp nth-⊕ (plus-again (nth x i) (nth e i) (nth f i)))

pub moved-wider : {n i k : ℕ} {g : List (List ℤ)} {r x r' x' : List ℤ} {b : Bool} → i ≤ k → Moved n i g r x r' x' b → Moved n k g r x r' x' b
moved-wider h p = record {
  step = p.step;
  count = p.count;
  behind = λ j l. p.behind j (omega arith);
  coefficients = p.coefficients;
  left = p.left;
  width = p.width;
  shorter = p.shorter;
  lower = p.lower;
  falls = p.falls;
}

pub moved_length : {n k : ℕ} {g : List (List ℤ)} {r x r' x' : List ℤ} {b : Bool} → length x ≡ n → Moved n k g r x r' x' b → length x' ≡ n
moved_length {x} l p = ap length p.coefficients ∙ length-⊕-same x p.step (l ∙ sym p.count) ∙ l

-- a step is a step, whether or not it is known to lead to a smaller value
unfoldable pub moved_weaker : {n k : ℕ} {g : List (List ℤ)} {r x r' x' : List ℤ} {b : Bool} → Moved n k g r x r' x' b → Moved n k g r x r' x' false
moved_weaker p = record {
  step = p.step;
  count = p.count;
  behind = p.behind;
  coefficients = p.coefficients;
  left = p.left;
  width = p.width;
  shorter = p.shorter;
  lower = p.lower;
  falls = λ e. absurd (subst T (sym e) tt);
}

-- the same step from other coefficients
unfoldable pub moved-from : {n k : ℕ} {g : List (List ℤ)} {r x r' x' : List ℤ} {b : Bool} (p : Moved n k g r x r' x' b) (z : List ℤ) → Moved n k g r z r' (z ⊕ p.step) b
moved-from p z = record {
  step = p.step;
  count = p.count;
  behind = p.behind;
  coefficients = refl;
  left = p.left;
  width = p.width;
  shorter = p.shorter;
  lower = p.lower;
  falls = p.falls;
}
