-- Is a list below the list of zeros? Decided at the first entry that is not 0.
use Rattle.std.specs.Prelude.{◌≡◌, refl, true, false, List, [], ◌∷◌, ℕ, zero, suc, ◌+◌, ◌≤◌, ◌<◌, ℤ, pos, length, drop}
use Rattle.std.proofs.Common.{sym, ap, ◌∙◌, add-one, arith, drop-cons}
use Rattle.std.specs.Int.Signed.{lt_z}
use Rattle.integers.specs.Order.{lt_z_true, lt_z_false, ≤ℤ_antisymm}
use Rattle.integers.specs.Lex.{below-<, below->, below-≡}
use Rattle.lattices.specs.Vector.{nth}
use Rattle.successive_minima.specs.Laws.Digits.{zeros}
use Rattle.nearest_steps.specs.Numbers.{negative}

pub negative-end : (i : ℕ) (l : List ℤ) → length l ≤ i → negative (drop i l) ≡ false
negative-end zero [] h = refl
negative-end zero (x ∷ l) h = absurd (omega arith)
negative-end (suc i) [] h = refl
negative-end (suc i) (x ∷ l) h = negative-end i l (omega arith)

module _ (l : List ℤ) (i : ℕ) (h : i < length l) where
  opened : negative (drop i l) ≡ negative (nth l i ∷ drop (suc i) l)
  opened = ap negative (drop-cons l i (pos 0) h)

  pub negative-below : lt_z (nth l i) (pos 0) ≡ true → negative (drop i l) ≡ true
  negative-below e = opened ∙ below-< {x = nth l i} {y = pos 0} (drop (suc i) l) (zeros (drop (suc i) l)) (lt_z_true e)

  pub negative-above : lt_z (pos 0) (nth l i) ≡ true → negative (drop i l) ≡ false
  negative-above e = opened ∙ below-> {x = nth l i} {y = pos 0} (drop (suc i) l) (zeros (drop (suc i) l)) (lt_z_true e)

  pub negative-next : lt_z (nth l i) (pos 0) ≡ false → lt_z (pos 0) (nth l i) ≡ false → negative (drop i l) ≡ negative (drop (i + 1) l)
  negative-next e f = opened ∙ below-≡ {x = nth l i} {y = pos 0} (drop (suc i) l) (zeros (drop (suc i) l)) (≤ℤ_antisymm (lt_z_false f) (lt_z_false e)) ∙ ap (λ n. negative (drop n l)) (sym (add-one i))
