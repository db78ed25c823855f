-- The solution on vectors with zeros behind their coordinates is the solution on the vectors.
use Rattle.std.specs.Prelude.{◌≡◌, List, [], ◌∷◌, map, ℕ, ◌≤◌, ℤ, ◌*ℤ◌, length}
use Rattle.std.proofs.Common.{ap, ◌∙◌, arith}
use Rattle.std.proofs.Math.ListN.{length-map}
use Rattle.integers.specs.All.{All}
use Rattle.lattices.specs.Vector.{Vec, dot}
use Rattle.lattices.specs.Laws.Vector.{◌≈◌, ≈_sym, ≈-dot}
use Rattle.lattices.specs.Answer.{padded}
use Rattle.lattices.specs.Laws.Answer.{padded-≈}
use Rattle.greedy_reduction.specs.Start.{Coordinates}
use Rattle.greedy_reduction.specs.Padding.{comb-padded}
use Rattle.solutions.specs.Solution.{Solution, PaddedTenths}

module _ (n m : ℕ) (h : m ≤ n) (bs : List Vec) (full : Coordinates m bs) (t : Vec) (e : length t ≡ m) where
  -- the same inner products
  same-products : {u v : Vec} → u ≈ v → (q : ℤ) (cs : List Vec) → Coordinates m cs → All (λ b. dot u b ≡ q *ℤ dot (padded n t) b) (map (padded n) cs) → All (λ b. dot v b ≡ q *ℤ dot t b) cs
  same-products p q [] c a = tt
  same-products p q (b ∷ cs) c a =
      let o = padded-≈ n b (omega (arith, c.0)) in
      (≈-dot (≈_sym p) (≈_sym o) ∙ a.0 ∙ ap (λ z. q *ℤ z) (≈-dot (padded-≈ n t (omega (arith, e))) o), same-products p q cs c.1 a.1)

  solution-padded : Solution (map (padded n) bs) (padded n t) → Solution bs t
  solution-padded s = record {
    denominator = s.denominator;
    positive = s.positive;
    numerators = s.numerators;
    count = s.count ∙ length-map bs (padded n);
    solves = same-products (comb-padded n m h s.numerators bs full) s.denominator bs full s.solves;
  }

  pub tenths-padded : {s : List ℤ} → PaddedTenths (map (padded n) bs) (padded n t) s → PaddedTenths bs t s
  unfolding solution-padded
  tenths-padded p = record {
    numbers = p.numbers;
    tenths = record { solution = solution-padded p.tenths.solution; count = p.tenths.count ∙ length-map bs (padded n); below = p.tenths.below; above = p.tenths.above };
    places = p.places;
  }
