-- The end of the search: where no list of the table improves, the coefficients are those of the nearest vector.
use Rattle.std.specs.Prelude.{◌≡◌, Bool, false, List, [], ◌∷◌, ℤ, pos, negsuc, ◌-ℤ◌, ◌*ℤ◌, get_or, take, replicate}
use Rattle.std.proofs.Math.Path.{sym, ap}
use Rattle.std.proofs.Common.{◌∙◌, subst, arith}
use Prim.Native.Nat.{ℕ, zero, suc, ◌≤◌, ◌<◌}
use Rattle.std.proofs.Math.Decide.{dec_lt}
use Rattle.std.proofs.Math.ListN.{length, length-take, get_or-eq_default}
use Rattle.std.proofs.Math.Seq.{get_or-take}
use Rattle.integers.specs.ListLaws.{same, length-⊕, length-⊙}
use Rattle.integers.specs.Lex.{nonneg_ext}
use Rattle.lattices.specs.Vector.{Vec, N, nth, comb, ◌⊖◌, ◌⊙◌}
use Rattle.lattices.specs.Laws.Vector.{◌≈◌, ≈_refl, ≈_trans, ≈_of_≡, ≈-dot, ≈-⊕, ≈-⊙, ≈-≡}
use Rattle.lattices.specs.Nearest.{nearest}
use Rattle.lattices.specs.Answer.{padded}
use Rattle.lattices.specs.Laws.Answer.{length-padded, nth-padded, take-padded}
use Rattle.successive_minima.specs.Laws.Values.{Least, gain, change}
use Rattle.successive_minima.specs.Laws.ValueLaws.{gain-≈}
use Rattle.successive_minima.specs.Laws.Digits.{nonneg-not-below, not-below-nonneg}
use Rattle.successive_minima.specs.Laws.Grid.{lists, lists-are}
use Rattle.successive_minima.specs.Laws.Pairs.{pairs-reduced}
use Rattle.successive_minima.specs.Laws.Table.{improves, table-least}
use Rattle.successive_minima.specs.Laws.NearestLaws.{nearest-only}
use Rattle.nearest_steps.specs.Meant.{Meant, Known}
use Rattle.nearest_steps.specs.Numbers.{improves_of}
use Rattle.nearest_steps.specs.Link.{improves-is}
use Rattle.nearest_steps.specs.Steps.{count, steps_cover}
use Rattle.nearest_steps.specs.Moves.{Moved}
use Rattle.nearest_steps.specs.State.{None, comb-front, long, zero-behind, from-zeros, meant-moved}

pub gain-shifted : {r s : Vec} (u : Vec) → r ≈ s → gain r u ≡ gain s u
unfolding gain
gain-shifted u e = ap (λ p. N u -ℤ pos 2 *ℤ p) (≈-dot (≈_refl {u = u}) e)

module _ {F : ℤ} {k : ℕ} {vs : List Vec} {t : Vec} {g : List (List ℤ)} {r₀ r x : List ℤ} {b : Bool} (few : k ≤ 3) (m : Meant F k vs t g r₀) (p : Moved 4 k g r₀ (replicate 4 (pos 0)) r x b)
    (n : None (count k) g r) where
  bs : List Vec
  bs = take k vs

  y : List ℤ
  y = take k x

  count-bs : length bs ≡ k
  unfolding bs
  count-bs = omega (arith, length-take k vs, m.enough)

  length-y : length y ≡ k
  unfolding y
  length-y = omega (arith, length-take k x, long m p)

  nth-y : (i : ℕ) → nth y i ≡ nth x i
  unfolding y
  nth-y i = pick (dec_lt i k)
    where
      pick : Dec (i < k) → nth (take k x) i ≡ nth x i
      pick (yes h) = get_or-take k x i (pos 0) h
      pick (no h) = get_or-eq_default (take k x) (pos 0) (omega (arith, length-take k x, h)) ∙ sym (zero-behind m p i (omega (arith, h)))

  -- what is left of the target, by either list
  residual : t ⊖ comb p.step vs ≈ t ⊖ comb y bs
  unfolding y bs
  residual = ≈_trans (≈_of_≡ (ap (λ z. t ⊖ comb z vs) (from-zeros p))) (≈-⊕ ≈_refl (≈-⊙ (negsuc 0) (comb-front k x vs (zero-behind m p))))

  -- a list of the table and the same list with zeros behind lead to the same change
  same-change : (l : List ℤ) → length l ≡ k → (i : ℕ) → nth (change (t ⊖ comb p.step vs) vs (padded 3 l)) i ≡ nth (change (t ⊖ comb y bs) bs l) i
  unfolding bs
  same-change l h zero = gain-≈ (t ⊖ comb p.step vs)
      (≈_trans (comb-front k (padded 3 l) vs (λ j q. nth-padded 3 l (omega arith) j ∙ get_or-eq_default l (pos 0) (omega arith))) (≈_of_≡ (ap (λ z. comb z (take k vs)) (take-padded k 3 l h few))))
      ∙ gain-shifted (comb l (take k vs)) residual
  same-change l h (suc i) = nth-padded 3 l (omega arith) i

  none : (i : ℕ) → i < length (lists k) → improves (t ⊖ comb y bs) bs (get_or (lists k) i []) ≡ false
  none i h =
      let l = get_or (lists k) i [] in
      let s = t ⊖ comb p.step vs in
      let w = meant-moved m p in
      nonneg-not-below (change (t ⊖ comb y bs) bs l)
      (nonneg_ext (change s vs (padded 3 l)) (change (t ⊖ comb y bs) bs l) (same-change l (lists-are k i h).count)
      (not-below-nonneg (change s vs (padded 3 l))
      (sym (improves-is F vs g w.gram s r w.products w.positive (padded 3 l)) ∙ steps_cover (λ e. improves_of g r e ≡ false) k few n i h)))

  least : Least bs t y
  unfolding bs
  least = table-least bs t y (omega (arith, count-bs)) (pairs-reduced bs m.reduced) (length-y ∙ sym count-bs)
      (subst (λ c. (i : ℕ) → i < length (lists c) → improves (t ⊖ comb y bs) bs (get_or (lists c) i []) ≡ false) (sym count-bs) none)

  pub nearest-is : x ≡ padded 4 (nearest (take k vs) t)
  unfolding bs
  nearest-is = same (long m p ∙ sym (length-padded 4 y)) (λ i. sym (nth-padded 4 y (omega (arith, length-y)) i ∙ nth-y i))
      ∙ ap (padded 4) (nearest-only bs m.reduced (omega (arith, count-bs)) t y least)

-- ---- what is left of the inner products, as a list

length-comb : (n : ℕ) (x : List ℤ) (g : List (List ℤ)) → ((i : ℕ) → length (get_or g i []) ≤ n) → length (comb x g) ≤ n
unfolding comb
length-comb n [] g h = omega arith
length-comb n (y ∷ x) [] h = omega arith
length-comb n (y ∷ x) (r ∷ g) h = subst (λ m. m ≤ n) (sym (length-⊕ (y ⊙ r) (comb x g))) (omega (arith, length-⊙ y r, h 0, length-comb n x g (λ i. h (suc i))))

take-rows : (n k : ℕ) (g : List (List ℤ)) → ((i : ℕ) → length (get_or g i []) ≤ n) → (i : ℕ) → length (get_or (take k g) i []) ≤ n
take-rows n zero g h i = omega arith
take-rows n (suc k) [] h i = omega arith
take-rows n (suc k) (r ∷ g) h zero = h 0
take-rows n (suc k) (r ∷ g) h (suc i) = take-rows n k g (λ j. h (suc j)) i

-- it is as long as before
pub left-width : {k : ℕ} {g : List (List ℤ)} {r : List ℤ} (x : List ℤ) → Known k g r → length (r ⊖ comb (take k x) (take k g)) ≡ length r
left-width {k} {g} {r} x w = length-⊕ r (negsuc 0 ⊙ comb (take k x) (take k g))
    ∙ omega (arith, length-⊙ (negsuc 0) (comb (take k x) (take k g)), length-comb (length r) (take k x) (take k g) (take-rows (length r) k g w.meant.wide))

pub left_is : {n k : ℕ} {g : List (List ℤ)} {r₀ r x : List ℤ} {b : Bool} → Known k g r₀ → Moved n k g r₀ (replicate n (pos 0)) r x b → r ≡ r₀ ⊖ comb (take k x) (take k g)
left_is {n} {k} {g} {r₀} {r} {x} w p = ≈-≡ r (r₀ ⊖ comb (take k x) (take k g)) (p.width ∙ sym (left-width x w))
    (≈_trans p.left (≈_trans (≈_of_≡ (ap (λ z. r₀ ⊖ comb z g) (from-zeros p))) (≈-⊕ ≈_refl (≈-⊙ (negsuc 0) (comb-front k x g (zero-behind w.meant p))))))
