-- Vectors, length, combinations, the lattice of a list, dependence and distance, as document 01 uses the words ("What is sold").
use Rattle.std.specs.Prelude.{◌≡◌, List, [], ◌∷◌, ℕ, ℤ, pos, ◌+ℤ◌, ◌*ℤ◌, length}
-- entries, sum, difference and multiple of lists of numbers
pub use Rattle.integers.specs.Lists.{nth, ◌⊖◌}
unfoldable pub use Rattle.integers.specs.Lists.{◌⊕◌, ◌⊙◌}

-- R1.1: a vector: its list of coordinates
abbrev pub Vec : Type 0
Vec = List ℤ

-- R1.2: inner product
unfoldable pub dot : Vec → Vec → ℤ
dot [] v = pos 0
dot (x ∷ u) [] = pos 0
dot (x ∷ u) (y ∷ v) = x *ℤ y +ℤ dot u v

-- R1.2: squared length
abbrev pub N : Vec → ℤ
N v = dot v v

-- R1.3: distance, squared: the squared length of the difference
abbrev pub distance : Vec → Vec → ℤ
distance u v = N (u ⊖ v)

-- R1.4: combination of a list of vectors with whole coefficients
unfoldable pub comb : List ℤ → List Vec → Vec
comb [] bs = []
comb (x ∷ xs) [] = []
comb (x ∷ xs) (b ∷ bs) = x ⊙ b ⊕ comb xs bs

-- R1.6: the zero vector, of any number of coordinates
abbrev pub Zero : Vec → Type 0
Zero v = (i : ℕ) → nth v i ≡ pos 0

-- R1.5: the lattice of a list: the set of all its combinations with whole coefficients
pub record In (bs : List Vec) (v : Vec) : Type 0 where
  pub coefficients : List ℤ
  pub count : length coefficients ≡ length bs
  pub gives : comb coefficients bs ≡ v

-- R1.6: dependent: a combination, not all coefficients zero, is the zero vector
pub record Dependent (bs : List Vec) : Type 0 where
  pub coefficients : List ℤ
  pub count : length coefficients ≡ length bs
  pub nonzero : ¬ Zero coefficients
  pub vanishes : Zero (comb coefficients bs)

-- R1.6: independent: not dependent
abbrev pub Independent : List Vec → Type 0
Independent bs = ¬ Dependent bs
