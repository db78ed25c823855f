-- The best list of a layer as the search gives it, and what a step by it does.
use Rattle.std.specs.Prelude.{Some, None, ◌≡◌, refl, true, false, List, [], ◌∷◌, ◌++◌, zero, suc, ◌*◌, ◌≤◌, ℤ, pos, neg_ℤ, nat_abs, ◌+ℤ◌, ◌*ℤ◌, length, get_or, take, replicate}
use Rattle.std.proofs.Math.Path.{sym, ap, subst}
use Rattle.std.proofs.Common.{ap₂, ◌∙◌, arith, le_refl, SFits}
use Rattle.std.proofs.Math.IntN.{+ℤ_idl, +ℤ_idr}
use Rattle.std.specs.Int.{w64}
use Rattle.std.proofs.Math.ListN.{get_or-eq_default}
use Rattle.integers.specs.Size.{Within, within-le, within-mul, fits-within}
use Rattle.lattices.specs.Vector.{Vec, dot, comb, ◌⊕◌, ◌⊙◌, ◌⊖◌}
use Rattle.lattices.specs.Laws.Vector.{◌≈◌}
use Rattle.lattices.specs.Nearest.{nearest}
use Rattle.lattices.specs.Answer.{padded}
use Rattle.lattices.specs.Laws.Answer.{take-padded}
use Rattle.successive_minima.specs.Laws.Digits.{Bounded}
use Rattle.nearest_steps.specs.Meant.{Meant, Known}
use Rattle.nearest_steps.specs.Numbers.{moved, gain_of, negative, improves_of}
use Rattle.nearest_steps.specs.Moves.{Moved, moved-better, moved_length}
use Rattle.nearest_steps.specs.Since.{from_nothing}
use Rattle.nearest_steps.specs.Stepped.{Descends}
use Rattle.nearest_steps.specs.State.{sized}
use Rattle.nearest_steps.specs.End.{left_is, nearest-is}
use Rattle.nearest_search.specs.MeantNear.{MeantNear, KnownNear}
use Rattle.nearest_search.specs.LayerLaws.{LayerKnown, LayerPassed, Passed, layer-meant, layer-none, left_snoc, gain-by-left, nearest-within, nearest-long, meant-left}
use Rattle.nearest_search.specs.Turns.{Turned, turned_none, turned-better}

-- e is the best list of layer j, and leaves s
pub record Best (g : List (List ℤ)) (r : List ℤ) (j : ℤ) (e s : List ℤ) : Type 0 where
  pub long : length e ≡ 4
  pub small : Bounded 30000000 e
  pub left : s ≈ moved g r e
  pub width : length s ≡ 4
  pub sizes : Bounded 2000000000 s
  pub is : (F : ℤ) (vs : List Vec) (t : Vec) → MeantNear F 4 vs t g r → e ≡ nearest (take 3 vs) (t ⊖ j ⊙ get_or vs 3 []) ++ (j ∷ [])

-- a list of three and a zero, with j at the last place
placed : (x : List ℤ) (j : ℤ) → length x ≡ 3 → (pos 0 ∷ pos 0 ∷ pos 0 ∷ j ∷ []) ⊕ padded 4 x ≡ x ++ (j ∷ [])
unfolding ◌⊕◌
placed (p ∷ q ∷ s ∷ []) j e = ap₂ ◌∷◌ (none p) (ap₂ ◌∷◌ (none q) (ap₂ ◌∷◌ (none s) (ap (λ z. z ∷ []) (+ℤ_idr j))))
  where
    none : (a : ℤ) → pos 0 +ℤ a ≡ a
    none a = +ℤ_idl a
placed [] j e = absurd (omega arith)
placed (p ∷ []) j e = absurd (omega arith)
placed (p ∷ q ∷ []) j e = absurd (omega arith)
placed (p ∷ q ∷ s ∷ t ∷ x) j e = absurd (omega arith)

ends : (l : List ℤ) (j : ℤ) → nat_abs j ≤ 2 → Bounded 30000000 l → Bounded 30000000 (l ++ (j ∷ []))
ends [] j h f zero = record { within = omega arith }
ends [] j h f (suc i) = record { within = omega arith }
ends (x ∷ l) j h f zero = f 0
ends (x ∷ l) j h f (suc i) = ends l j h (λ n. f (suc n)) i

module _ {g : List (List ℤ)} {r : List ℤ} (w : LayerKnown g r) (lg : length g ≡ 4) (lr : length r ≡ 4) (j : ℤ) (hj : nat_abs j ≤ 2) {s : List ℤ} (q : s ≡ r ⊖ j ⊙ get_or g 3 []) (ls : length s ≡ 4) where
  -- the numbers of the layer
  pub layer-searched : Known 3 g s
  layer-searched = record { factor = w.factor; vectors = w.vectors; target = w.target ⊖ j ⊙ get_or w.vectors 3 []; meant = layer-meant w.near j hj q (ls ∙ sym lr) }

  pub best_of : {e s' : List ℤ} → Descends 3 g s (pos 0 ∷ pos 0 ∷ pos 0 ∷ j ∷ []) s' e → Best g r j e s'
  best_of {e} {s'} p = record {
    long = moved_length refl p.moves;
    small = subst (Bounded 30000000) (sym whole) (ends x j hj (nearest-within (omega arith) m));
    left = subst (λ e. s' ≈ moved g r e) (sym whole) (left_snoc g r x j lg three q left);
    width = wide;
    sizes = (sized (meant-left (omega arith) m left (wide ∙ sym ls))).products;
    is = λ F vs t n. let k = layer-meant n j hj q (ls ∙ sym lr) in found_in F vs (t ⊖ j ⊙ get_or vs 3 []) k;
  }
    where
      m : Meant w.factor 3 w.vectors (w.target ⊖ j ⊙ get_or w.vectors 3 []) g s
      m = layer-meant w.near j hj q (ls ∙ sym lr)

      x : List ℤ
      x = nearest (take 3 w.vectors) (w.target ⊖ j ⊙ get_or w.vectors 3 [])

      three : length x ≡ 3
      three = nearest-long (omega arith) m

      -- what was taken of the first three
      taken : Moved 4 3 g s (replicate 4 (pos 0)) s' p.moves.step false
      taken = from_nothing refl p.moves

      found_in : (F : ℤ) (vs : List Vec) (t : Vec) → Meant F 3 vs t g s → e ≡ nearest (take 3 vs) t ++ (j ∷ [])
      found_in F vs t k = p.moves.coefficients ∙ ap (λ y. (pos 0 ∷ pos 0 ∷ pos 0 ∷ j ∷ []) ⊕ y) (nearest-is (omega arith) k taken p.none) ∙ placed (nearest (take 3 vs) t) j (nearest-long (omega arith) k)

      whole : e ≡ x ++ (j ∷ [])
      whole = found_in w.factor w.vectors (w.target ⊖ j ⊙ get_or w.vectors 3 []) m

      first : take 3 p.moves.step ≡ x
      first = ap (take 3) (nearest-is (omega arith) m taken p.none) ∙ take-padded 3 4 x three (omega arith)

      left : s' ≡ s ⊖ comb x (take 3 g)
      left = left_is layer-searched taken ∙ ap (λ z. s ⊖ comb z (take 3 g)) first

      wide : length s' ≡ 4
      wide = p.moves.width ∙ ls

-- ---- a step by it, or none

module _ {g : List (List ℤ)} {r : List ℤ} {j : ℤ} {e s : List ℤ} (b : Best g r j e s) where
  pub best_gain : {v : ℤ} → v ≡ neg_ℤ (dot e r +ℤ dot e s) → v ≡ gain_of g r e
  best_gain h = h ∙ sym (gain-by-left g r e b.left)

  pub best_better : (x : List ℤ) → length r ≡ 4 → {v : ℤ} {x' : List ℤ} → v ≡ gain_of g r e → negative (v ∷ e) ≡ true → x' ≡ x ⊕ e → Turned (LayerPassed g r j) g r x s x' (Some v)
  unfolding improves_of moved-better
  best_better x l {v} {x'} h n q = subst (λ y. Turned (LayerPassed g r j) g r x s y (Some v)) (sym q) (turned-better
      (moved-better 4 4 g r x e b.long (λ i k. get_or-eq_default e (pos 0) (omega (arith, b.long))) (λ i. within-le (omega arith) (b.small i)) (ap (λ z. negative (z ∷ e)) (sym h) ∙ n) b.left (b.width ∙ sym l)) h)

  pub best_none : (x : List ℤ) {v : ℤ} → v ≡ gain_of g r e → negative (v ∷ e) ≡ false → Turned (LayerPassed g r j) g r x r x None
  unfolding improves_of
  best_none x {v} h n = turned_none g r x (λ F vs t m. layer-none m j (ap (improves_of g r) (sym (b.is F vs t m)) ∙ ap (λ z. negative (z ∷ e)) (sym h) ∙ n))

-- ---- the test of the distance of a layer

pub record FarFits (n j q : ℤ) : Type 0 where
  pub sixteen : SFits w64 (pos 16 *ℤ n)
  pub squared : SFits w64 (j *ℤ j)
  pub product : SFits w64 (j *ℤ j *ℤ q)

pub far-fits : {n j q : ℤ} → Within 400000000 n → nat_abs j ≤ 2 → Within 400000000 q → FarFits n j q
far-fits {n} {j} {q} a h b = record {
  sixteen = fits-within (within-mul {A = 16} {a = pos 16} (record { within = le_refl 16 }) a) tt;
  squared = fits-within (twice j h) tt;
  product = fits-within (within-mul (twice j h) b) tt;
}
  where
    twice : (j : ℤ) → nat_abs j ≤ 2 → Within (2 * 2) (j *ℤ j)
    twice j h = within-mul {A = 2} {B = 2} {a = j} {b = j} (record { within = h }) (record { within = h })

pub layer-known : {n : ℤ} {g : List (List ℤ)} {r : List ℤ} → KnownNear 4 n g r → LayerKnown g r
layer-known w = record { factor = w.factor; vectors = w.vectors; target = w.target; near = w.near }

-- a layer passed without a look at n
pub passed-any : (n : ℤ) {g : List (List ℤ)} {r : List ℤ} {j : ℤ} → LayerPassed g r j → Passed n g r j
passed-any n f F vs t m e = f F vs t m
