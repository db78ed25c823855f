-- What the numbers mean that tenths are made from.
use Rattle.std.specs.Prelude.{◌≡◌, List, [], ℕ, ◌≤◌, ℤ, pos, ◌≤ℤ◌, length, get_or, take}
use Rattle.lattices.specs.Vector.{Vec, N, nth, dot, comb, ◌⊖◌}
use Rattle.successive_minima.specs.Reduced.{Reduced}
use Rattle.successive_minima.specs.Laws.Digits.{Bounded}

-- g is the Gram matrix of d reduced vectors, x their coefficients, r their inner products with what x leaves of the target
pub record Rest (d : ℕ) (bs : List Vec) (t : Vec) (g : List (List ℤ)) (x r : List ℤ) : Type 0 where
  pub count : length bs ≡ d
  pub reduced : Reduced bs
  pub short : (i : ℕ) → N (get_or bs i []) ≤ℤ pos 400000000
  pub gram : (i j : ℕ) → nth (get_or g i []) j ≡ dot (get_or bs j []) (get_or bs i [])
  pub products : (j : ℕ) → nth r j ≡ dot (get_or bs j []) (t ⊖ comb (take d x) bs)
  pub left : N (t ⊖ comb (take d x) bs) ≤ℤ pos 400000000
  pub long : length x ≡ 4
  pub behind : (j : ℕ) → d ≤ j → nth x j ≡ pos 0
  pub small : Bounded 30000000 x

-- of some vectors and some target
pub record Rests (d : ℕ) (g : List (List ℤ)) (x r : List ℤ) : Type 0 where
  pub vectors : List Vec
  pub target : Vec
  pub rest : Rest d vectors target g x r
