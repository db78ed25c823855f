-- The inner products and the Gram matrix that are formed of vectors are numbers of the search.
use Rattle.std.specs.Prelude.{◌≡◌, List, [], map, ℕ, ◌≤◌, ◌<◌, ℤ, length, get_or}
use Rattle.std.proofs.Common.{sym, ap, ◌∙◌, subst, arith}
use Rattle.std.proofs.Math.Decide.{dec_lt}
use Rattle.std.proofs.Math.ListN.{get_or-eq_default}
use Rattle.integers.specs.FilledLaws.{length-filled}
use Rattle.integers.specs.Ring.{pos-one-*ℤ}
use Rattle.lattices.specs.Vector.{Vec, nth, dot}
use Rattle.lattices.specs.Answer.{padded}
use Rattle.lattices.specs.Laws.Answer.{length-padded}
use Rattle.gram_matrix.specs.Formed.{products, formed, nth-products, nth-formed, formed-wide}
use Rattle.nearest_steps.specs.Formed.{ProductsOf, GramOf}

pub products_of : (bs : List Vec) (v : Vec) {r : List ℤ} → length bs ≤ 4 → r ≡ products bs v → ProductsOf bs v r
products_of bs v {r} h e = subst (ProductsOf bs v) (sym e)
    (record { products = record { at = λ j. pos-one-*ℤ (nth (products bs v) j) ∙ nth-products bs v h j }; long = length-padded 4 (map (λ w. dot w v) bs) })

pub gram-of : (bs : List Vec) {g : List (List ℤ)} → length bs ≤ 4 → g ≡ formed bs → GramOf bs g
gram-of bs {g} h e = subst (GramOf bs) (sym e) (record {
  gram = record { row = λ m. record { at = λ j. pos-one-*ℤ (nth (get_or (formed bs) m []) j) ∙ nth-formed bs h m j } };
  count = count;
  long = λ m. wide m (dec_lt m 4);
})
  where
    count : length (formed bs) ≡ 4
    count = length-filled (padded 4 []) 4 (map (products bs) bs)

    wide : (m : ℕ) → Dec (m < 4) → length (get_or (formed bs) m []) ≤ 4
    wide m (yes l) = omega (arith, formed-wide bs m l)
    wide m (no l) = let none : get_or (formed bs) m [] ≡ [] = get_or-eq_default (formed bs) [] (omega (arith, count, l)) in omega (arith, ap length none)
