-- That what the nearest vector leaves of the target gives the definition's answer: what `nearest` gives.
use Rattle.std.specs.Prelude.{◌≡◌, refl, ◌≢◌, List, [], ◌∷◌, ◌++◌, map, ℕ, zero, suc, ◌+◌, ◌≤◌, ℤ, pos, negsuc, nat_abs, ◌+ℤ◌, ◌*ℤ◌, ◌≤ℤ◌, length, get_or, take, drop, Ok}
use Rattle.std.proofs.Common.{sym, ◌∙◌, subst, arith, le_refl, take_all}
use Rattle.std.proofs.Math.Path.{ap}
use Rattle.integers.specs.Identity.{by_ring, reads}
use Rattle.integers.specs.ListLaws.{length-⊕, length-⊙}
use Rattle.lattices.specs.Vector.{Vec, N, nth, dot, comb, distance, ◌⊖◌, ◌⊙◌}
use Rattle.lattices.specs.Laws.Vector.{dot-⊕, dot-⊙, ◌≈◌, ≈_sym, ≈_trans, ≈-N, ≈-≡}
use Rattle.lattices.specs.Nearest.{nearest}
use Rattle.lattices.specs.Greedy.{vectors, reduction}
use Rattle.lattices.specs.Refusal.{Input, basis, first_of, vector_checks, target_checks, most_vectors, most_coordinates}
use Rattle.lattices.specs.Answer as Definition
use Rattle.lattices.specs.Answer.{padded, table, no_nearest, nearest_given, nearest_of, no_reduction, reduction_given, reduction_of}
use Rattle.lattices.specs.Laws.Answer.{length-padded, padded-≈}
use Rattle.successive_minima.specs.Laws.Digits.{Bounded}
use Rattle.successive_minima.specs.Reduced.{Reduced}
use Rattle.row_operations.specs.Minus.{room}
use Rattle.successive_minima.specs.Laws.NearestLaws.{nearest-count}
use Rattle.greedy_reduction.specs.Exactness.{comb-full}
use Rattle.greedy_reduction.specs.Padding.{padded-N, comb-padded, padded-minus, nearest-padded}
use Rattle.greedy_reduction.specs.Accepted.{targeted}
use Rattle.greedy_reduction.specs.Demand.{accepted-nearest, first-passed}
use Rattle.solutions.specs.Solution.{PaddedTenths, TenthsFor}
use Rattle.nearest_search.specs.Near.{Near}
use Rattle.engine.specs.declared.NearestVector.{NearestVector}
use Rattle.refusals.specs.declared.Refusal.{Refusal}
use Rattle.refusals.specs.Number.{number_of, number_of-nonzero}
use Rattle.engine.specs.Answers.{nearest_in}
use Rattle.greedy_steps.specs.Fine.{fine-greedy}
use Rattle.greedy_steps.specs.Room.{short-rows}
use Rattle.engine.specs.Laws.Tenths.{tenths-padded}
use Rattle.engine.specs.Laws.Begin.{first_fine}
use Rattle.engine.specs.Laws.Finish.{R, accept, outs-count, outs-full, outs-rows, last-vectors, last-reduced}

-- an answer from the nearest vector of the first d vectors, and what that leaves of the target
pub record Answered (d : ℕ) (b : List Vec) (t : Vec) (r : NearestVector) : Type 0 where
  pub rest : Vec
  pub places : length rest ≡ most_coordinates
  pub left : rest ≈ t ⊖ comb (nearest (take d b) t) (take d b)
  pub vector : r.vector ≡ t ⊖ pos 1 ⊙ rest
  pub coefficients : r.coefficients ≡ padded 4 (nearest (take d b) t)
  pub solution : PaddedTenths (take d b) t r.tenths
  pub square : r.square ≡ dot rest rest

-- what is left of t when what a vector leaves of it is taken away: that vector
left_of_left : (t c r : Vec) → r ≈ t ⊖ c → t ⊖ pos 1 ⊙ r ≈ c
left_of_left t c r e = record {
  on = λ w. dot-⊕ t (negsuc 0 ⊙ pos 1 ⊙ r) w
      ∙ ap (λ s. dot t w +ℤ s) (dot-⊙ (negsuc 0) (pos 1 ⊙ r) w ∙ ap (λ s. negsuc 0 *ℤ s) (dot-⊙ (pos 1) r w ∙ ap (λ s. pos 1 *ℤ s) (left w)))
      ∙ cancel (dot t w) (dot c w);
}
  where
    left : (w : Vec) → dot r w ≡ dot t w +ℤ negsuc 0 *ℤ dot c w
    left w = e.on w ∙ dot-⊕ t (negsuc 0 ⊙ c) w ∙ ap (λ s. dot t w +ℤ s) (dot-⊙ (negsuc 0) c w)

    cancel : (a b : ℤ) → a +ℤ negsuc 0 *ℤ (pos 1 *ℤ (a +ℤ negsuc 0 *ℤ b)) ≡ b
    cancel a b = by_ring (a ∷ b ∷ []) (search reads depth 20) (search reads) tt

pub vector-room : (t rest : Vec) → Bounded 20000 t → Bounded 100000 rest → (k : ℕ) → nat_abs (nth t k) + nat_abs (pos 1 *ℤ nth rest k) ≤ room
vector-room t rest p q k = subst (λ z. nat_abs (nth t k) + nat_abs z ≤ room) (sym (one-mul (nth rest k))) (omega (arith, (p k).within, (q k).within))
  where
    one-mul : (a : ℤ) → pos 1 *ℤ a ≡ a
    one-mul a = by_ring (a ∷ []) (search reads) (search reads) tt

module _ (i : Input) (e : first_of vector_checks i ≡ 0) (f : first_of target_checks i ≡ 0) where
  abbrev bs : List Vec
  bs = vectors (R i e)

  abbrev pub array : List Vec
  array = table most_vectors most_coordinates bs

  abbrev pub target : Vec
  target = padded most_coordinates i.target

  t-count : length i.target ≡ i.m
  t-count = (targeted i f).count

  t-few : length i.target ≤ most_coordinates
  t-few = omega (arith, t-count, (accept i e).few)

  pub target-read : padded most_coordinates (take i.m (drop 0 i.target)) ≡ target
  target-read = ap (padded most_coordinates) (take_all i.m i.target (omega (arith, t-count)))

  -- what the search for the nearest vector asks
  pub near : Near i.d array target
  near = record {
    reduced = subst Reduced (sym (outs-rows i e)) (last-reduced i e);
    short = λ k h. subst (λ l. N (get_or l k []) ≤ℤ pos 400000000) (last-vectors i e) (short-rows (fine-greedy (first_fine i e) i.d (le_refl i.d)) k);
    target = subst (λ n. n ≤ℤ pos 400000000) (sym (padded-N most_coordinates i.target t-few)) (targeted i f).limit;
  }

  x : List ℤ
  x = nearest bs i.target

  nearest-is : nearest (take i.d array) target ≡ x
  unfolding x
  nearest-is = ap (λ l. nearest l target) (outs-rows i e) ∙ nearest-padded most_coordinates i.m (accept i e).few bs (outs-full i e) i.target t-count

  module _ (r : NearestVector) (a : Answered i.d array target r) where
    rest : Vec
    rest = a.rest

    left_is : rest ≈ target ⊖ comb x (map (padded most_coordinates) bs)
    unfolding rest
    left_is = subst (λ z. rest ≈ target ⊖ comb z (map (padded most_coordinates) bs)) nearest-is (subst (λ l. rest ≈ target ⊖ comb (nearest (take i.d array) target) l) (outs-rows i e) a.left)

    combination_few : length (comb x bs) ≤ most_coordinates
    unfolding x
    combination_few = omega (arith, comb-full i.m x bs (outs-full i e) (nearest-count bs i.target) (omega (arith, outs-count i e, (accept i e).some)), (accept i e).few)

    vector-is : target ⊖ pos 1 ⊙ rest ≡ padded most_coordinates (comb x bs)
    unfolding rest
    vector-is = ≈-≡ (target ⊖ pos 1 ⊙ rest) (padded most_coordinates (comb x bs))
        (length-⊕ target (negsuc 0 ⊙ pos 1 ⊙ rest) ∙ omega (arith, length-padded most_coordinates i.target, length-⊙ (negsuc 0) (pos 1 ⊙ rest), length-⊙ (pos 1) rest, a.places, length-padded most_coordinates (comb x bs)))
        (≈_trans (left_of_left target (comb x (map (padded most_coordinates) bs)) rest left_is)
        (≈_trans (comb-padded most_coordinates i.m (accept i e).few x bs (outs-full i e)) (≈_sym (padded-≈ most_coordinates (comb x bs) combination_few))))

    square-is : dot rest rest ≡ distance i.target (comb x bs)
    square-is = ≈-N left_is ∙ ap N (sym (padded-minus most_coordinates i.m (accept i e).few i.target t-few x bs (outs-full i e))) ∙ padded-N most_coordinates (i.target ⊖ comb x bs) (omega (arith, length-⊕ i.target (negsuc 0 ⊙ comb x bs), length-⊙ (negsuc 0) (comb x bs), t-few, combination_few))

    given-answer : nearest_in (Ok r) ≡ nearest_given bs i.target
    unfolding x rest
    given-answer = λ k. record { refusal = 0; place = 0; vector = (a.vector ∙ vector-is) k; coefficients = (a.coefficients ∙ ap (padded 4) nearest-is) k; square = (a.square ∙ square-is) k }

    -- the engine's answer for an accepted target
    pub nearest-answer : nearest_in (Ok r) ≡ nearest_of i
    nearest-answer = given-answer ∙ sym (accepted-nearest i (first-passed vector_checks target_checks i (omega arith) e ∙ f))

    -- its tenths
    pub nearest-tenths : TenthsFor i r.tenths
    nearest-tenths = record {
      given = λ n. tenths-padded most_coordinates i.m (accept i e).few bs (outs-full i e) i.target t-count (subst (λ l. PaddedTenths l target r.tenths) (outs-rows i e) a.solution);
      refused = λ h. absurd (h (first-passed vector_checks target_checks i (omega arith) e ∙ f));
    }

-- the answer for a refused input
refused-answer : (i : Input) (n : ℕ) → first_of (vector_checks ++ target_checks) i ≡ suc n → no_nearest (suc n) ≡ nearest_of i
unfolding nearest_of
refused-answer i n e = sym (ap (λ (k : ℕ). elim k as (λ k. Definition.Nearest) [ zero ↦ nearest_given (vectors (reduction (basis i)).rows) i.target | suc j ↦ no_nearest (suc j) ]) e)

refused_with : (i : Input) (n : ℕ) → n ≡ first_of (vector_checks ++ target_checks) i → n ≢ 0 → no_nearest n ≡ nearest_of i
refused_with i zero e h = absurd (h refl)
refused_with i (suc n) e h = refused-answer i n (sym e)

pub refused-nearest : (i : Input) (e : Refusal) → number_of e ≡ first_of (vector_checks ++ target_checks) i → (no_nearest (number_of e) ≡ nearest_of i) × TenthsFor i (padded most_vectors [])
refused-nearest i e h = (refused_with i (number_of e) h (number_of-nonzero e), record { given = λ g. absurd (number_of-nonzero e (h ∙ g)); refused = λ g. refl })
