-- The descent on its way from the coefficients x₀: what was taken since, its size, and the measure that falls.
use Rattle.std.specs.Prelude.{◌≡◌, Bool, true, List, [], ◌∷◌, ℕ, ◌+◌, ◌≤◌, ◌<◌, ℤ, pos, negsuc, nat_abs, ◌+ℤ◌, length, replicate}
use Rattle.std.proofs.Common.{sym, ap, ◌∙◌, subst, inr, arith}
use Rattle.std.proofs.lemmas.List.{length-replicate}
use Rattle.integers.specs.Identity.{by_ring, reads}
use Rattle.integers.specs.Size.{size-add}
use Rattle.integers.specs.ListLaws.{same, entries, nth-⊕, nth-replicate, length-⊕-same, length-⊙}
use Rattle.lattices.specs.Vector.{nth, ◌⊕◌, ◌⊖◌, ◌⊙◌}
use Rattle.nearest_steps.specs.Meant.{Known}
use Rattle.nearest_steps.specs.Moves.{Moved, moved_then, moved-from}
use Rattle.nearest_steps.specs.State.{measure, small, descends}

module _ {n k : ℕ} {g : List (List ℤ)} {r x r' x' : List ℤ} {b : Bool} (l : length x ≡ n) (p : Moved n k g r x r' x' b) where
  -- what was taken
  pub since : x' ⊖ x ≡ p.step
  since = ap (λ y. y ⊖ x) p.coefficients ∙ same long (λ i. simp entries (by_ring (nth x i ∷ nth p.step i ∷ []) (search reads depth 8) (search reads depth 8) tt))
    where
      sum : length (x ⊕ p.step) ≡ n
      sum = length-⊕-same x p.step (l ∙ sym p.count) ∙ l

      long : length ((x ⊕ p.step) ⊖ x) ≡ length p.step
      long = length-⊕-same (x ⊕ p.step) (negsuc 0 ⊙ x) (sum ∙ sym (length-⊙ (negsuc 0) x ∙ l)) ∙ sum ∙ sym p.count

  -- the same from zeros
  pub from_nothing : Moved n k g r (replicate n (pos 0)) r' p.step b
  from_nothing = subst (λ y. Moved n k g r (replicate n (pos 0)) r' y b) zeros (moved-from p (replicate n (pos 0)))
    where
      zeros : replicate n (pos 0) ⊕ p.step ≡ p.step
      zeros = same (length-⊕-same (replicate n (pos 0)) p.step (length-replicate n (pos 0) ∙ sym p.count) ∙ length-replicate n (pos 0) ∙ sym p.count)
          (λ i. nth-⊕ (replicate n (pos 0)) p.step i ∙ ap (λ z. z +ℤ nth p.step i) (nth-replicate n i) ∙ by_ring (nth p.step i ∷ []) (search reads) (search reads) tt)

  pub small-since : k ≤ 4 → k ≤ n → Known k g r → (i : ℕ) → nat_abs (nth x' i) ≤ nat_abs (nth x i) + 30000000
  small-since few fits w i = subst (λ y. nat_abs (nth y i) ≤ nat_abs (nth x i) + 30000000) (sym p.coefficients) (subst (λ z. nat_abs z ≤ nat_abs (nth x i) + 30000000) (sym (nth-⊕ x p.step i))
      (omega (arith, size-add (nth x i) (nth p.step i), (small w.meant from_nothing few fits i).within)))

-- a step to a smaller value lowers the measure
pub descends-since : {n k : ℕ} {g : List (List ℤ)} {r₀ x₀ r x r' x' : List ℤ} {b : Bool} → k ≤ 4 → k ≤ n → Known k g r₀ → length x₀ ≡ n → Moved n k g r₀ x₀ r x b → Moved n k g r x r' x' true
    → measure g r₀ (x' ⊖ x₀) < measure g r₀ (x ⊖ x₀)
unfolding moved_then
descends-since {n} {k} {g} {r₀} {x₀} {r} {x} {r'} {x'} few fits w l p q = subst (λ y. measure g r₀ y < measure g r₀ (x ⊖ x₀)) (sym (since l (moved_then k g r₀ w true (λ t. inr t) l p q)))
    (subst (λ y. measure g r₀ (p.step ⊕ q.step) < measure g r₀ y) (sym (since l p)) (descends few fits w (from_nothing l p) (moved-from q p.step)))
