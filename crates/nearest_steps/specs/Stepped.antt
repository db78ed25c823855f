-- A step to a smaller value, or word that no list of the table improves.
use Rattle.std.specs.Prelude.{Option, Some, ◌≡◌, refl, Bool, true, false, List, [], ◌∷◌, T, ℤ, negsuc, nat_abs, ◌+ℤ◌, ◌-ℤ◌, ◌*ℤ◌, length, get_or, set, take}
use Rattle.std.proofs.Common.{sym, ap, ◌∙◌, subst, arith, add-one, length-take, length-set, get_or-take, get_or-set_same, get_or-set_other}
use Rattle.std.proofs.Math.Path.{ap₂}
use Prim.Native.Nat.{ℕ, zero, suc, ◌+◌, ◌*◌, ◌≤◌, ◌<◌}
use Rattle.std.proofs.Math.Decide.{ℕ_discrete, dec_lt}
use Rattle.std.proofs.Math.IntN.{pos, +ℤ_idr, zero-*ℤ, *ℤ-zero}
use Rattle.std.proofs.Math.ListN.{get_or-eq_default}
use Rattle.integers.specs.Identity.{by_ring, reads}
use Rattle.integers.specs.Size.{Within, within-le, size-sub, size-add}
use Rattle.row_operations.specs.Minus.{nth-minus}
use Rattle.integers.specs.ListLaws.{same, nth-⊕, length-⊕}
use Rattle.lattices.specs.Vector.{nth, dot, comb, ◌⊕◌, ◌⊖◌, ◌⊙◌}
use Rattle.lattices.specs.Laws.Vector.{◌≈◌, ≈_refl, ≈_trans, ≈_sym, ≈_of_≡, ≈-dot, ≈-⊕, ≈-⊙, nth-≈, bilinear, nil-dot, comb-nil, comb-dot, ⊖-zero}
use Rattle.lattices.specs.Answer.{padded}
use Rattle.lattices.specs.Laws.Answer.{length-padded, nth-padded}
use Rattle.successive_minima.specs.Laws.Digits.{Bounded}
use Rattle.nearest_steps.specs.Numbers.{moved, gain_of, improves_of}
use Rattle.nearest_steps.specs.Link.{negative_ext}
use Rattle.nearest_steps.specs.Steps.{steps, count, steps-bounded, steps-long, steps-behind}
use Rattle.nearest_steps.specs.Moves.{Moved, moved_none, moved-better}
use Rattle.nearest_steps.specs.State.{None}
use Rattle.nearest_steps.specs.Places.{Placed}

pub record Stepped (k : ℕ) (g : List (List ℤ)) (r x r' x' : List ℤ) (b : Bool) : Type 0 where
  pub moves : Moved 4 k g r x r' x' b
  pub none : b ≡ false → None (count k) g r'

-- steps that do not raise the value, after which no list of the table improves
pub record Descends (k : ℕ) (g : List (List ℤ)) (r x r' x' : List ℤ) : Type 0 where
  pub moves : Moved 4 k g r x r' x' false
  pub none : None (count k) g r'

pub stepped_none : (k : ℕ) (g : List (List ℤ)) (r x : List ℤ) → length x ≡ 4 → None (count k) g r → Stepped k g r x r x false
stepped_none k g r x l n = record { moves = moved_none 4 k g r x l; none = λ e. n }

-- ---- a list of three with a zero behind

module _ (e : List ℤ) (l : length e ≡ 3) where
  pub padded-nth : (i : ℕ) → nth (padded 4 e) i ≡ nth e i
  padded-nth i = nth-padded 4 e (omega arith) i

  same-list : padded 4 e ≈ e
  same-list = nth-≈ (padded 4 e) e padded-nth

  pub padded-comb : (g : List (List ℤ)) → comb (padded 4 e) g ≈ comb e g
  padded-comb g = record { on = λ w. comb-dot (padded 4 e) g w ∙ ≈-dot same-list ≈_refl ∙ sym (comb-dot e g w) }

  improves-padded : (g : List (List ℤ)) (r : List ℤ) → improves_of g r (padded 4 e) ≡ improves_of g r e
  unfolding improves_of gain_of
  improves-padded g r = negative_ext (gain_of g r (padded 4 e) ∷ padded 4 e) (gain_of g r e ∷ e) at
    where
      at : (i : ℕ) → nth (gain_of g r (padded 4 e) ∷ padded 4 e) i ≡ nth (gain_of g r e ∷ e) i
      at zero = ap₂ (λ a b. a -ℤ pos 2 *ℤ b) (≈-dot same-list (padded-comb g)) (≈-dot same-list ≈_refl)
      at (suc i) = padded-nth i

  added-padded : (x : List ℤ) → length x ≡ 4 → x ⊕ e ≡ x ⊕ padded 4 e
  added-padded x h = same (length-⊕ x e ∙ sym (length-⊕ x (padded 4 e) ∙ omega (arith, h, l, length-padded 4 e))) (λ i. nth-⊕ x e i ∙ ap (λ z. nth x i +ℤ z) (sym (padded-nth i)) ∙ sym (nth-⊕ x (padded 4 e) i))

pub stepped_at : (k : ℕ) → k ≤ 3 → (g : List (List ℤ)) (r x : List ℤ) (p : ℕ) {o : Option ℕ} {r' : List ℤ} → length x ≡ 4 → p < 26 → o ≡ Some p → Placed k g r o
    → r' ≈ moved g r (get_or steps p []) → length r' ≡ length r → Stepped k g r x r' (x ⊕ get_or steps p []) true
stepped_at k few g r x p {o} {r'} m h z s q v = record {
  moves = subst (λ y. Moved 4 k g r x r' y true) (sym (added-padded e l x m))
      (moved-better 4 k g r x (padded 4 e) (length-padded 4 e) (λ j n. padded-nth e l j ∙ steps-behind k few p (s.hit z).0 j n)
      (λ j. within-le {B = 5000000000} (omega arith) (subst (Within 1) (sym (padded-nth e l j)) (steps-bounded p j)))
      (improves-padded e l g r ∙ (s.hit z).1) (≈_trans q (≈-⊕ ≈_refl (≈-⊙ (negsuc 0) (≈_sym (padded-comb e l g))))) v);
  none = λ e. absurd (subst T e tt);
}
  where
    e : List ℤ
    e = get_or steps p []

    l : length e ≡ 3
    l = steps-long p h

-- ---- a list taken vector by vector

-- the first j places of a list, and one more
comb-more : (j : ℕ) (e : List ℤ) (g : List (List ℤ)) → comb (take (suc j) e) g ≈ comb (take j e) g ⊕ nth e j ⊙ get_or g j []
unfolding comb ◌⊙◌ ◌⊕◌
comb-more zero [] g = record { on = λ w. simp (bilinear, nil-dot, zero-*ℤ) }
comb-more zero (y ∷ e) [] = ≈_refl
comb-more zero (y ∷ e) (r ∷ g) = record { on = λ w. simp (bilinear, nil-dot) (by_ring (y ∷ dot r w ∷ []) (search reads) (search reads) tt) }
comb-more (suc j) [] g = record { on = λ w. simp (bilinear, nil-dot, zero-*ℤ) }
comb-more (suc j) (y ∷ e) [] = record { on = λ w. simp (bilinear, nil-dot, *ℤ-zero) }
comb-more (suc j) (y ∷ e) (r ∷ g) = ≈_trans (≈-⊕ (≈_refl {u = y ⊙ r}) (comb-more j e g))
    (record { on = λ w. simp bilinear (by_ring (y ∷ dot r w ∷ dot (comb (take j e) g) w ∷ nth e j ∷ dot (get_or g j []) w ∷ []) (search reads depth 8) (search reads depth 8) tt) })

pub left-more : (g : List (List ℤ)) (r e : List ℤ) (j : ℕ) {s : List ℤ} → s ≈ moved g r (take j e) → s ⊖ nth e j ⊙ get_or g j [] ≈ moved g r (take (suc j) e)
left-more g r e j p = ≈_trans (≈-⊕ p ≈_refl) (≈_trans
    (record { on = λ w. simp bilinear (by_ring (dot r w ∷ dot (comb (take j e) g) w ∷ nth e j ∷ dot (get_or g j []) w ∷ []) (search reads depth 8) (search reads depth 8) tt) })
    (≈-⊕ ≈_refl (≈-⊙ (negsuc 0) (≈_sym (comb-more j e g)))))

pub list-more : (x e : List ℤ) (j : ℕ) → length x ≡ 4 → length e ≡ 3 → j < 3 → set (x ⊕ take j e) j (nth (x ⊕ take j e) j +ℤ nth e j) ≡ x ⊕ take (suc j) e
list-more x e j l m h = same long (λ i. at i (ℕ_discrete i j))
  where
    long : length (set (x ⊕ take j e) j (nth (x ⊕ take j e) j +ℤ nth e j)) ≡ length (x ⊕ take (suc j) e)
    long = length-set (x ⊕ take j e) j (nth (x ⊕ take j e) j +ℤ nth e j) ∙ omega (arith, length-⊕ x (take j e), length-⊕ x (take (suc j) e), length-take j e, length-take (suc j) e)

    nth-front : (i n : ℕ) → i < n → nth (take n e) i ≡ nth e i
    nth-front i n h = get_or-take n e i (pos 0) h

    behind : (i n : ℕ) → n ≤ i → nth (take n e) i ≡ pos 0
    behind i n h = get_or-eq_default (take n e) (pos 0) (omega (arith, length-take n e))

    at : (i : ℕ) → Dec (i ≡ j) → nth (set (x ⊕ take j e) j (nth (x ⊕ take j e) j +ℤ nth e j)) i ≡ nth (x ⊕ take (suc j) e) i
    at i (yes q) = subst (λ i. nth (set (x ⊕ take j e) j (nth (x ⊕ take j e) j +ℤ nth e j)) i ≡ nth (x ⊕ take (suc j) e) i) (sym q)
        (get_or-set_same (x ⊕ take j e) j (nth (x ⊕ take j e) j +ℤ nth e j) (pos 0) (omega (arith, length-⊕ x (take j e)))
        ∙ ap (λ z. z +ℤ nth e j) (nth-⊕ x (take j e) j ∙ ap (λ z. nth x j +ℤ z) (behind j j (omega arith)) ∙ +ℤ_idr (nth x j))
        ∙ sym (nth-⊕ x (take (suc j) e) j ∙ ap (λ z. nth x j +ℤ z) (nth-front j (suc j) (omega arith))))
    at i (no q) = get_or-set_other (x ⊕ take j e) j i (nth (x ⊕ take j e) j +ℤ nth e j) (pos 0) q ∙ nth-⊕ x (take j e) i ∙ ap (λ z. nth x i +ℤ z) (pick (dec_lt i j)) ∙ sym (nth-⊕ x (take (suc j) e) i)
      where
        pick : Dec (i < j) → nth (take j e) i ≡ nth (take (suc j) e) i
        pick (yes o) = nth-front i j o ∙ sym (nth-front i (suc j) (omega arith))
        pick (no o) = behind i j (omega (arith, o)) ∙ sym (behind i (suc j) (omega (arith, o, q)))

-- j vectors of the list e are taken
pub record TakenFirst (j : ℕ) (g : List (List ℤ)) (r₀ x₀ e r x : List ℤ) : Type 0 where
  pub coefficients : x ≡ x₀ ⊕ take j e
  pub left : r ≈ moved g r₀ (take j e)
  pub width : length r ≡ length r₀
  pub small : (i : ℕ) → nat_abs (nth r i) ≤ nat_abs (nth r₀ i) + j * 400000000

still : (g : List (List ℤ)) (r : List ℤ) → r ≈ moved g r []
still g r = ≈_sym (⊖-zero r (comb-nil g))

pub taken_none : (g : List (List ℤ)) (r x e : List ℤ) → TakenFirst 0 g r x e r x
unfolding ◌⊕◌ comb ◌⊙◌
taken_none g r [] e = record { coefficients = refl; left = still g r; width = refl; small = λ i. omega arith }
taken_none g r (y ∷ x) e = record { coefficients = refl; left = still g r; width = refl; small = λ i. omega arith }

pub taken_next : {j : ℕ} {g : List (List ℤ)} {r₀ x₀ e r x r' x' : List ℤ} → j < 3 → length x₀ ≡ 4 → length e ≡ 3 → length r₀ ≡ 4 → ((i : ℕ) → Within 400000000 (nth e j *ℤ nth (get_or g j []) i))
    → TakenFirst j g r₀ x₀ e r x → r' ≡ r ⊖ nth e j ⊙ get_or g j [] → length r' ≡ 4 → x' ≡ set x j (nth x j +ℤ nth e j) → TakenFirst (j + 1) g r₀ x₀ e r' x'
taken_next {j} {g} {r₀} {x₀} {e} {r} {x} {r'} {x'} h l m v b s p q t = subst (λ n. TakenFirst n g r₀ x₀ e r' x') (sym (add-one j)) (record {
  coefficients = t ∙ ap (λ y. set y j (nth y j +ℤ nth e j)) s.coefficients ∙ list-more x₀ e j l m h;
  left = ≈_trans (≈_of_≡ p) (left-more g r₀ e j s.left);
  width = q ∙ sym v;
  small = λ i. subst (λ y. nat_abs (nth y i) ≤ nat_abs (nth r₀ i) + suc j * 400000000) (sym p)
      (subst (λ z. nat_abs z ≤ nat_abs (nth r₀ i) + suc j * 400000000) (sym (nth-minus r (nth e j) (get_or g j []) i))
      (omega (arith, size-sub (nth r i) (nth e j *ℤ nth (get_or g j []) i), s.small i, (b i).within)));
})

pub taken-all : {g : List (List ℤ)} {r₀ x₀ e r x : List ℤ} → length e ≡ 3 → TakenFirst 3 g r₀ x₀ e r x → (x ≡ x₀ ⊕ e) × (r ≈ moved g r₀ e)
taken-all {g} {r₀} {x₀} {e} {r} {x} l s = subst (λ f. (x ≡ x₀ ⊕ f) × (r ≈ moved g r₀ f)) whole (s.coefficients, s.left)
  where
    whole : take 3 e ≡ e
    whole = same (omega (arith, length-take 3 e)) (λ i. pick i (dec_lt i 3))
      where
        pick : (i : ℕ) → Dec (i < 3) → nth (take 3 e) i ≡ nth e i
        pick i (yes h) = get_or-take 3 e i (pos 0) h
        pick i (no h) = get_or-eq_default (take 3 e) (pos 0) (omega (arith, length-take 3 e, h)) ∙ sym (get_or-eq_default e (pos 0) (omega (arith, h)))

module _ {j : ℕ} {g : List (List ℤ)} {r₀ x₀ e r x : List ℤ} (s : TakenFirst j g r₀ x₀ e r x) where
  pub taken-length : length x₀ ≡ 4 → length e ≡ 3 → length x ≡ 4
  taken-length l m = ap length s.coefficients ∙ length-⊕ x₀ (take j e) ∙ omega (arith, length-take j e)

  pub taken-small : Bounded 1 e → (i : ℕ) → nat_abs (nth x i) ≤ nat_abs (nth x₀ i) + 1
  taken-small b i = subst (λ y. nat_abs (nth y i) ≤ nat_abs (nth x₀ i) + 1) (sym s.coefficients) (subst (λ z. nat_abs z ≤ nat_abs (nth x₀ i) + 1) (sym (nth-⊕ x₀ (take j e) i))
      (omega (arith, size-add (nth x₀ i) (nth (take j e) i), pick (dec_lt i j))))
    where
      pick : Dec (i < j) → nat_abs (nth (take j e) i) ≤ 1
      pick (yes h) = subst (λ z. nat_abs z ≤ 1) (sym (get_or-take j e i (pos 0) h)) (b i).within
      pick (no h) = subst (λ z. nat_abs z ≤ 1) (sym (get_or-eq_default (take j e) (pos 0) (omega (arith, length-take j e, h)))) (omega arith)
