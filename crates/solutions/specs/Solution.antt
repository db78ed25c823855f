-- The solution of the linear system of a target on the reduced vectors (source 000, section 5, equation (1)), and what may stand for it in an
-- answer of Nearest: whole tenths, each less than a tenth from it. Which of the two next tenths is given, where both are so near, is free.
use Rattle.std.specs.Prelude.{◌≡◌, ◌≢◌, List, [], ◌++◌, ℕ, ℤ, pos, ◌+ℤ◌, ◌*ℤ◌, length, ◌<ℤ◌}
use Rattle.integers.specs.All.{All}
use Rattle.lattices.specs.Vector.{Vec, nth, dot, comb}
use Rattle.lattices.specs.Greedy.{vectors, reduction}
use Rattle.lattices.specs.Refusal.{Input, basis, first_of, vector_checks, target_checks, most_vectors}
use Rattle.lattices.specs.Answer.{padded}

-- R4.6: a number for each vector, as a numerator over one positive denominator. Their combination has with each of the vectors the inner
-- product that the target has
pub record Solution (bs : List Vec) (t : Vec) : Type 0 where
  pub denominator : ℤ
  pub positive : pos 0 <ℤ denominator
  pub numerators : List ℤ
  pub count : length numerators ≡ length bs
  pub solves : All (λ b. dot (comb numerators bs) b ≡ denominator *ℤ dot t b) bs

-- R4.7: whole numbers that, as tenths, are less than a tenth from the solution: |s / 10 − n / d| < 1 / 10 is |s·d − 10·n| < d
pub record InTenths (bs : List Vec) (t : Vec) (s : List ℤ) : Type 0 where
  pub solution : Solution bs t
  pub count : length s ≡ length bs
  pub below : (i : ℕ) → (nth s i *ℤ solution.denominator) <ℤ (pos 10 *ℤ nth solution.numerators i +ℤ solution.denominator)
  pub above : (i : ℕ) → (pos 10 *ℤ nth solution.numerators i) <ℤ (nth s i *ℤ solution.denominator +ℤ solution.denominator)

-- R5.3: such numbers, then zeros
pub record PaddedTenths (bs : List Vec) (t : Vec) (s : List ℤ) : Type 0 where
  pub numbers : List ℤ
  pub tenths : InTenths bs t numbers
  pub places : s ≡ padded most_vectors numbers

-- R5.4, R5.6: what stands as the solution in an answer of Nearest
pub record TenthsFor (i : Input) (s : List ℤ) : Type 0 where
  pub given : first_of (vector_checks ++ target_checks) i ≡ 0 → PaddedTenths (vectors (reduction (basis i)).rows) i.target s
  pub refused : first_of (vector_checks ++ target_checks) i ≢ 0 → s ≡ padded most_vectors []
