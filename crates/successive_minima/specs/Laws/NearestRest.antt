-- What the nearest vector leaves of a target has the zero vector for its nearest: by the tie rule nothing more is taken from it.
use Rattle.std.specs.Prelude.{◌≡◌, List, ◌∷◌, ◌≤◌, ℤ, pos, ◌-ℤ◌, ◌*ℤ◌, length, replicate}
use Rattle.std.proofs.Common.{sym, ap, ◌∙◌, subst}
use Rattle.std.proofs.lemmas.List.{length-replicate}
use Rattle.integers.specs.ListLaws.{nth-replicate}
use Rattle.integers.specs.Lex.{Nonneg}
use Rattle.lattices.specs.Vector.{Vec, N, Zero, nth, ◌⊖◌, comb}
use Rattle.lattices.specs.Laws.Vector.{◌≈◌, ≈_refl, ≈-dot, comb-zero, ⊖-zero}
use Rattle.lattices.specs.Nearest.{nearest}
use Rattle.successive_minima.specs.Laws.Values.{Least, gain, change}
use Rattle.successive_minima.specs.Laws.ValueLaws.{least_of, least-is}
use Rattle.successive_minima.specs.Reduced.{Reduced}
use Rattle.successive_minima.specs.Laws.NearestLaws.{nearest-least, nearest-only}

change-≈ : {r s : Vec} (bs : List Vec) (x : List ℤ) → r ≈ s → change r bs x ≡ change s bs x
unfolding gain
change-≈ bs x e = ap (λ d. (N (comb x bs) -ℤ pos 2 *ℤ d) ∷ x) (≈-dot (≈_refl {u = comb x bs}) e)

pub nearest-rest : (bs : List Vec) → Reduced bs → length bs ≤ 4 → (t : Vec) → Zero (nearest bs (t ⊖ comb (nearest bs t) bs))
nearest-rest bs d h t i = ap (λ l. nth l i) (sym (nearest-only bs d h rest zeros least)) ∙ nth-replicate (length bs) i
  where
    rest : Vec
    rest = t ⊖ comb (nearest bs t) bs

    zeros : List ℤ
    zeros = replicate (length bs) (pos 0)

    same : rest ⊖ comb zeros bs ≈ rest
    same = ⊖-zero rest (comb-zero zeros (nth-replicate (length bs)) bs)

    least : Least bs rest zeros
    least = least_of bs rest zeros (length-replicate (length bs) (pos 0))
        (λ x k. subst Nonneg (sym (change-≈ bs x same)) (least-is bs t (nearest bs t) (nearest-least bs d h t) x k))
