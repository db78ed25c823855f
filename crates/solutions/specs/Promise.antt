-- What the solution in an answer of Nearest means, on the vectors that Reduction gives for the same input: the record `Solves`, which holds for
-- every accepted input.
use Rattle.std.specs.Prelude.{◌≡◌, refl, List, [], ◌∷◌, ◌++◌, map, ℕ, ◌≤◌, ℤ, pos, ◌*ℤ◌, length, take}
use Rattle.std.proofs.Common.{sym, ap, ap₂, ◌∙◌, subst, arith}
use Rattle.std.proofs.Math.ListN.{get_or-eq_default}
use Rattle.lattices.specs.Vector.{Vec, nth, Independent}
use Rattle.lattices.specs.Greedy.{vectors, reduction}
use Rattle.lattices.specs.Refusal.{Input, basis, first_of, vector_checks, target_checks, most_vectors, most_coordinates}
use Rattle.lattices.specs.Answer.{padded, table, reduction_given, reduction_of}
use Rattle.lattices.specs.Laws.Answer.{take-padded, nth-padded, table-rows, length-vectors_of}
use Rattle.successive_minima.specs.Reduced.{Reduced}
use Rattle.successive_minima.specs.Laws.ReducedLaws.{reduced-independent}
use Rattle.greedy_reduction.specs.Moves.{length-vectors}
use Rattle.greedy_reduction.specs.Start.{Coordinates, sized-vectors}
use Rattle.greedy_reduction.specs.Exactness.{reduction-length, reduction-sized}
use Rattle.greedy_reduction.specs.Lattice.{reduction-reduced}
use Rattle.greedy_reduction.specs.Accepted.{Accepted, accepted}
use Rattle.greedy_reduction.specs.Demand.{vectors_in, accepted-reduction, first-append}
use Rattle.solutions.specs.Solution.{Solution, InTenths, PaddedTenths, TenthsFor}
use Rattle.solutions.specs.Laws.Tenths.{solution_of, solution-only, tenths_exist}

-- R12.3
pub record Solves (i : Input) : Type 0 where
  -- the system has a solution, and only one
  pub one : Solution (vectors_in i (reduction_of i)) i.target
  pub only : (p q : Solution (vectors_in i (reduction_of i)) i.target) (j : ℕ) → q.denominator *ℤ nth p.numerators j ≡ p.denominator *ℤ nth q.numerators j
  -- there are numbers that may stand for it
  pub some : (s : List ℤ) × TenthsFor i s
  -- and whichever stand in the answer: as tenths, each is less than a tenth from the solution, and zeros follow
  pub tenths : (s : List ℤ) → TenthsFor i s → InTenths (vectors_in i (reduction_of i)) i.target (take i.d s)
  pub behind : (s : List ℤ) → TenthsFor i s → (j : ℕ) → i.d ≤ j → nth s j ≡ pos 0

-- vectors without the zeros behind them
trimmed : (m w : ℕ) (vs : List Vec) → Coordinates m vs → m ≤ w → map (take m) (map (padded w) vs) ≡ vs
trimmed m w [] c l = refl
trimmed m w (v ∷ vs) c l = ap₂ ◌∷◌ (take-padded m w v c.0 l) (trimmed m w vs c.1 l)

module _ (i : Input) (e : first_of (vector_checks ++ target_checks) i ≡ 0) where
  passed : first_of vector_checks i ≡ 0
  passed = first-append vector_checks target_checks i (omega arith) e

  ok : Accepted i
  ok = accepted i passed

  abbrev outs : List Vec
  outs = vectors (reduction (basis i)).rows

  ins-count : length (basis i) ≡ i.d
  ins-count = length-vectors_of i.d i.m i.numbers

  ins-some : 1 ≤ length (basis i)
  ins-some = omega (arith, ins-count, ok.some)

  outs-count : length outs ≡ i.d
  outs-count = length-vectors (reduction (basis i)).rows ∙ reduction-length i.m (basis i) ok.full ins-some ∙ ins-count

  outs-reduced : Reduced outs
  outs-reduced = reduction-reduced i.m (basis i) ok.full ins-some (omega (arith, ins-count, ok.most)) ok.volume

  outs-given : vectors_in i (reduction_of i) ≡ outs
  outs-given = ap (vectors_in i) (accepted-reduction i passed)
      ∙ ap (λ n. map (take i.m) (take n (table most_vectors most_coordinates outs))) (sym outs-count)
      ∙ ap (map (take i.m)) (table-rows most_vectors most_coordinates outs (omega (arith, outs-count, ok.most)))
      ∙ trimmed i.m most_coordinates outs (sized-vectors i.m (length (basis i)) (reduction (basis i)).rows (reduction-sized i.m (basis i) ok.full ins-some)) ok.few

  numbers-count : {s : List ℤ} (p : PaddedTenths outs i.target s) → length p.numbers ≡ i.d
  numbers-count p = p.tenths.count ∙ outs-count

  numbers-tenths : (s : List ℤ) → PaddedTenths outs i.target s → InTenths outs i.target (take i.d s)
  numbers-tenths s p = subst (InTenths outs i.target)
      (sym (ap (take i.d) p.places ∙ take-padded i.d most_vectors p.numbers (numbers-count p) ok.most)) p.tenths

  numbers-behind : (s : List ℤ) → PaddedTenths outs i.target s → (j : ℕ) → i.d ≤ j → nth s j ≡ pos 0
  numbers-behind s p j h = ap (λ l. nth l j) p.places ∙ nth-padded most_vectors p.numbers (omega (arith, numbers-count p, ok.most)) j
      ∙ get_or-eq_default p.numbers (pos 0) (omega (arith, numbers-count p))

  some-tenths : (s : List ℤ) × TenthsFor i s
  some-tenths =
      let f = tenths_exist outs i.target in
      (padded most_vectors f.0, record { given = λ a. record { numbers = f.0; tenths = f.1; places = refl }; refused = λ g. absurd (g e) })

  only_one : (bs : List Vec) → bs ≡ outs → (p q : Solution bs i.target) (j : ℕ) → q.denominator *ℤ nth p.numerators j ≡ p.denominator *ℤ nth q.numerators j
  only_one bs f = solution-only bs i.target (subst Independent (sym f) (reduced-independent outs outs-reduced (omega (arith, outs-count, ok.most))))

-- for every accepted target with its vectors
pub solves_theorem : (i : Input) → first_of (vector_checks ++ target_checks) i ≡ 0 → Solves i
solves_theorem i e = record {
  one = solution_of (vectors_in i (reduction_of i)) i.target;
  only = only_one i e (vectors_in i (reduction_of i)) (outs-given i e);
  some = some-tenths i e;
  tenths = λ s h. subst (λ l. InTenths l i.target (take i.d s)) (sym (outs-given i e)) (numbers-tenths i e s (h.given e));
  behind = λ s h. numbers-behind i e s (h.given e);
}
