-- What the functions of the walk do: a step to a smaller value, by which the squared length changes by v, or nothing, and P holds.
use Rattle.std.specs.Prelude.{◌≡◌, refl, Bool, true, false, ℕ, zero, suc, ◌≤◌, ◌<◌, ℤ, pos, negsuc, nat_abs, ◌+ℤ◌, ◌*ℤ◌, get_or, take, replicate, Option, Some, None, IsNone}
use Rattle.std.proofs.Math.Path.{sym, ap, subst}
use Rattle.std.proofs.Common.{ap₂, ◌∙◌, arith, take_all}
use mathlib.Core.List.{List, [], ◌∷◌, ◌++◌}
use Rattle.std.proofs.Math.ListN.{length, length-append, get_or-eq_default}
use Rattle.integers.specs.Lex.{Nonneg}
use Rattle.lattices.specs.Vector.{Vec, N, nth, comb, ◌⊖◌}
use Rattle.lattices.specs.Laws.Vector.{◌≈◌, ≈_refl, ≈_trans, ≈_of_≡, ≈-⊕, ≈-⊙}
use Rattle.lattices.specs.Nearest.{nearest}
use Rattle.lattices.specs.Answer.{padded}
use Rattle.lattices.specs.Laws.Answer.{padded-same}
use Rattle.successive_minima.specs.Reduced.{Reduced}
use Rattle.successive_minima.specs.Laws.Values.{change}
use Rattle.successive_minima.specs.Laws.ValueLaws.{least_of}
use Rattle.successive_minima.specs.Laws.Layers.{Layer, layers}
use Rattle.successive_minima.specs.Laws.NearestLaws.{ended, nearest-only, nearest-count}
use Rattle.nearest_steps.specs.Numbers.{gain_of}
use Rattle.nearest_steps.specs.State.{comb-front, from-zeros, long}
use Rattle.nearest_steps.specs.Moves.{Moved}
use Rattle.nearest_steps.specs.End.{gain-shifted}
use Rattle.nearest_search.specs.MeantNear.{MeantNear}
use Rattle.nearest_search.specs.LayerLaws.{Passed, near-moved, square-moved, four_is, last, three}

pub record Turned (P : Type 0) (g : List (List ℤ)) (r x r' x' : List ℤ) (o : Option ℤ) : Type 0 where
  pub better : {v : ℤ} → o ≡ Some v → Moved 4 4 g r x r' x' true
  pub gained : {v : ℤ} (e : o ≡ Some v) → gain_of g r (better e).step ≡ v
  pub same : IsNone o → (r' ≡ r) × (x' ≡ x)
  pub none : IsNone o → P

pub turned_none : {P : Type 0} (g : List (List ℤ)) (r x : List ℤ) → P → Turned P g r x r x None
turned_none g r x p = record { better = λ e. absurd cc; gained = λ e. absurd cc; same = λ h. (refl, refl); none = λ h. p }

pub turned-better : {P : Type 0} {g : List (List ℤ)} {r x r' x' : List ℤ} {v : ℤ} (m : Moved 4 4 g r x r' x' true) → v ≡ gain_of g r m.step → Turned P g r x r' x' (Some v)
turned-better {v} m e = record {
  better = λ q. m;
  gained = λ q. cc;
  same = λ h. absurd cc;
  none = λ h. absurd cc;
}

-- the same said with another word for what holds where nothing is found
pub turned-other : {P Q : Type 0} {g : List (List ℤ)} {r x r' x' : List ℤ} {o : Option ℤ} → (P → Q) → Turned P g r x r' x' o → Turned Q g r x r' x' o
turned-other f t = record { better = t.better; gained = t.gained; same = t.same; none = λ h. f (t.none h) }

-- ---- the start: a step, or none

pub record Jumped (d : ℕ) (g : List (List ℤ)) (r x r' x' : List ℤ) (v : ℤ) : Type 0 where
  pub moves : Moved 4 d g r x r' x' false
  pub gained : gain_of g r moves.step ≡ v

-- ---- the five layers

unfoldable pub five_layers : List ℤ
five_layers = pos 0 ∷ pos 1 ∷ negsuc 0 ∷ pos 2 ∷ negsuc 1 ∷ []

pub five_layers-small : (i : ℕ) → nat_abs (nth five_layers i) ≤ 2
unfolding five_layers
five_layers-small zero = omega arith
five_layers-small (suc zero) = omega arith
five_layers-small (suc (suc zero)) = omega arith
five_layers-small (suc (suc (suc zero))) = omega arith
five_layers-small (suc (suc (suc (suc zero)))) = omega arith
five_layers-small (suc (suc (suc (suc (suc i))))) = omega arith

pub five_layers-all : (P : ℤ → Type 0) → ((i : ℕ) → i < 5 → P (nth five_layers i)) → (j : ℤ) → nat_abs j ≤ 2 → P j
unfolding five_layers
five_layers-all P f (pos zero) h = f 0 (omega arith)
five_layers-all P f (pos (suc zero)) h = f 1 (omega arith)
five_layers-all P f (pos (suc (suc zero))) h = f 3 (omega arith)
five_layers-all P f (pos (suc (suc (suc n)))) h = absurd (omega arith)
five_layers-all P f (negsuc zero) h = f 2 (omega arith)
five_layers-all P f (negsuc (suc zero)) h = f 4 (omega arith)
five_layers-all P f (negsuc (suc (suc n))) h = absurd (omega arith)

abbrev pub AllPassed : ℤ → List (List ℤ) → List ℤ → Type 0
AllPassed n g r = (j : ℤ) → nat_abs j ≤ 2 → Passed n g r j

-- ---- the whole descent: steps that do not raise the value, and then none of the five layers has a nearer vector

pub record Descended (n : ℤ) (g : List (List ℤ)) (r r' x : List ℤ) : Type 0 where
  pub moves : Moved 4 4 g r (replicate 4 (pos 0)) r' x false
  pub none : AllPassed (n +ℤ gain_of g r x) g r'

-- ---- the end

module _ {F : ℤ} {vs : List Vec} {t : Vec} {g : List (List ℤ)} {r₀ r x : List ℤ} {b : Bool} (m : MeantNear F 4 vs t g r₀) (n : ℤ) (q : F *ℤ n ≡ N t) (p : Moved 4 4 g r₀ (replicate 4 (pos 0)) r x b)
    (none : AllPassed (n +ℤ gain_of g r₀ x) g r) where
  count : length x ≡ 4
  count = long m.meant p

  bs : List Vec
  bs = take 3 vs ++ (get_or vs 3 [] ∷ [])

  length-bs : length bs ≡ 4
  unfolding bs
  length-bs = length-append (take 3 vs) (get_or vs 3 [] ∷ []) ∙ omega (arith, three m)

  s : Vec
  s = t ⊖ comb p.step vs

  residual : s ≈ t ⊖ comb x bs
  unfolding bs s
  residual = ≈-⊕ (≈_refl {u = t}) (≈-⊙ (negsuc 0) (≈_trans (≈_of_≡ (ap (λ z. comb z vs) (from-zeros p)))
      (≈_trans (comb-front 4 x vs (λ j h. get_or-eq_default x (pos 0) (omega (arith, count)))) (≈_of_≡ (ap₂ comb (take_all 4 x (omega (arith, count))) (four_is m))))))

  layer : (j : ℤ) → nat_abs j ≤ 2 → Layer s (take 3 vs) (get_or vs 3 []) j
  unfolding s
  layer j h = none j h F vs (t ⊖ comb p.step vs) (near-moved m p) (subst (λ z. F *ℤ (n +ℤ gain_of g r₀ z) ≡ N (t ⊖ comb p.step vs)) (from-zeros p) (square-moved m p.step n q))

  pub nearest-is : x ≡ padded 4 (nearest (take 4 vs) t)
  unfolding bs
  nearest-is = nearest-only bs (subst Reduced (four_is m) m.meant.reduced) (omega (arith, length-bs)) t x (least_of bs t x (count ∙ sym length-bs) all)
      ∙ ap (λ us. nearest us t) (sym (four_is m)) ∙ sym (padded-same 4 (nearest (take 4 vs) t) (nearest-count (take 4 vs) t ∙ ap length (four_is m) ∙ length-bs))
    where
      all : (z : List ℤ) → length z ≡ length bs → Nonneg (change (t ⊖ comb x bs) bs z)
      all z l =
          let o = ended 3 z (l ∙ length-bs) in
          subst (λ a. Nonneg (a ∷ z)) (gain-shifted (comb z bs) residual)
          (subst (λ y. Nonneg (change s bs y)) (sym o.is) (layers s (last m).0 (omega (arith, three m)) layer o.end o.start (o.count ∙ sym (three m))))
