-- What the search leaves, as the tenths of the solution ask for it.
use Rattle.std.specs.Prelude.{◌≡◌, List, [], ℕ, ◌≤◌, ℤ, get_or, take, ◌≤ℤ◌}
use Rattle.std.proofs.Math.Path.{sym, ap, subst}
use Rattle.std.proofs.Common.{◌∙◌, le_refl, arith, take-take}
use Rattle.std.proofs.Math.IntN.{pos}
use Rattle.std.proofs.Math.ListN.{length, length-take, get_or-eq_default}
use Rattle.integers.specs.Order.{≤ℤ_trans}
use Rattle.integers.specs.Ring.{pos-one-*ℤ}
use Rattle.integers.specs.Size.{Within}
use Rattle.lattices.specs.Vector.{Vec, N, nth, dot, comb, ◌⊖◌}
use Rattle.lattices.specs.Nearest.{nearest}
use Rattle.lattices.specs.Answer.{padded}
use Rattle.lattices.specs.Laws.Answer.{length-padded, nth-padded}
use Rattle.successive_minima.specs.Laws.NearestLaws.{nearest-shorter}
use Rattle.nearest_steps.specs.Meant.{Meant}
use Rattle.nearest_steps.specs.Formed.{ProductsOf, GramOf}
use Rattle.nearest_steps.specs.End.{left-width}
use Rattle.nearest_search.specs.LayerLaws.{known, nearest-long, nearest-within, meant-left}
use Rattle.nearest_search.specs.Near.{Near, near-formed, near-known-formed, taken}
use Rattle.solution_tenths.specs.Rest.{Rest}

module _ (d : ℕ) (b : List Vec) (t : Vec) (few : d ≤ 4) (enough : d ≤ length b) (v : Near d b t) {g : List (List ℤ)} {r x r' : List ℤ} (q : GramOf (take d b) g) (p : ProductsOf (take d b) t r)
    (e : x ≡ padded 4 (nearest (take d b) t)) (f : r' ≡ r ⊖ comb (take d x) (take d g)) where
  bs : List Vec
  bs = take d b

  w : List ℤ
  w = nearest (take d b) t

  again : take d (take d b) ≡ take d b
  again = take-take d d b (le_refl d)

  meant : Meant (pos 1) d (take d b) t g r
  meant = (near-formed d b t enough v q p).meant

  long : length w ≡ d
  unfolding w
  long = subst (λ vs. length (nearest vs t) ≡ d) again (nearest-long few meant)

  coefficients : take d x ≡ nearest (take d b) t
  coefficients = taken d b t few enough e

  -- the inner products with what is left
  after : Meant (pos 1) d (take d b) (t ⊖ comb (nearest (take d b) t) (take d b)) g r'
  after = subst (λ vs. Meant (pos 1) d (take d b) (t ⊖ comb (nearest vs t) vs) g r') again
      (meant-left few meant (f ∙ ap (λ y. r ⊖ comb y (take d g)) (coefficients ∙ ap (λ vs. nearest vs t) (sym again))) (ap length f ∙ left-width x (known (near-known-formed d b t enough v q p))))

  entry : (j : ℕ) → nth x j ≡ nth w j
  unfolding w
  entry j = ap (λ y. nth y j) e ∙ nth-padded 4 (nearest (take d b) t) (omega (arith, long)) j

  pub left-of : Rest d (take d b) t g x r'
  unfolding w
  left-of = record {
    count = omega (arith, length-take d b);
    reduced = v.reduced;
    short = λ i. subst (λ n. N (get_or (take d b) i []) ≤ℤ n) (pos-one-*ℤ (pos 400000000)) (meant.short i);
    gram = λ i j. sym (pos-one-*ℤ (nth (get_or g i []) j)) ∙ (q.gram.row i).at j;
    products = λ j. sym (pos-one-*ℤ (nth r' j)) ∙ after.products.at j ∙ ap (λ y. dot (get_or (take d b) j []) (t ⊖ comb y (take d b))) (sym coefficients);
    left = subst (λ y. N (t ⊖ comb y (take d b)) ≤ℤ pos 400000000) (sym coefficients) (≤ℤ_trans (nearest-shorter (take d b) t) v.target);
    long = ap length e ∙ length-padded 4 (nearest (take d b) t);
    behind = λ j h. entry j ∙ get_or-eq_default (nearest (take d b) t) (pos 0) (omega (arith, long));
    small = λ j. subst (Within 30000000) (sym (entry j)) (subst (λ vs. Within 30000000 (nth (nearest vs t) j)) again (nearest-within few meant j));
  }
