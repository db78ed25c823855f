-- Reduced lists: what the greedy steps establish, and all that the theorems use. The theorems are in ReducedLaws.
use Rattle.std.specs.Prelude.{List, [], ◌∷◌, reverse, ℤ, pos, ◌≤ℤ◌, ◌<ℤ◌}
use Rattle.lattices.specs.Vector.{Vec, N, ◌⊕◌, comb}

-- no vector of the list is longer than the square root of s
abbrev pub Under : ℤ → List Vec → Type 0
Under s [] = Unit {0}
Under s (b ∷ bs) = (N b ≤ℤ s) × Under s bs

-- b may stand behind bs: it is not zero, not shorter than any of them, and no combination of them makes it shorter
pub record Top (b : Vec) (bs : List Vec) : Type 0 where
  pub positive : pos 0 <ℤ N b
  pub longest : Under (N b) bs
  pub shortest : (z : List ℤ) → N b ≤ℤ N (b ⊕ comb z bs)

-- a reduced list with the longest vector first: the proofs open the list at the vector they speak of
abbrev pub Descending : List Vec → Type 0
Descending [] = Unit {0}
Descending (b ∷ bs) = Top b bs × Descending bs

-- a reduced list, shortest vector first
abbrev pub Reduced : List Vec → Type 0
Reduced bs = Descending (reverse bs)
