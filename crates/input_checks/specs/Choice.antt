-- Choices among the coordinates of a vector, as code has them: by number, and as the list of the coordinates taken.
use Rattle.std.specs.Prelude.{true, false, List, [], ◌∷◌, map, ℕ, zero, suc, ◌/◌, ◌%◌, eqb, take}
use Rattle.lattices.specs.Vector.{Vec, nth}
use Rattle.lattices.specs.Volume.{Index}
use Rattle.lattices.specs.Answer.{padded}
use Rattle.lattices.specs.Refusal.{most_vectors}

-- the choice with that number among n coordinates: the first is taken where the lowest bit is 1
abbrev pub choice : ℕ → ℕ → Index
choice zero x = []
choice (suc n) x = eqb (x % 2) 1 ∷ choice n (x / 2)

-- the bits of a number without the last k
abbrev pub halves : ℕ → ℕ → ℕ
halves zero x = x
halves (suc k) x = halves k x / 2

-- the coordinates that a choice takes, counted from k
abbrev pub places : ℕ → Index → List ℕ
places k [] = []
places k (false ∷ s) = places (suc k) s
places k (true ∷ s) = k ∷ places (suc k) s

-- of n coordinates the first d
abbrev pub firsts : ℕ → ℕ → Index
firsts zero d = []
firsts (suc n) zero = false ∷ firsts n zero
firsts (suc n) (suc d) = true ∷ firsts n d

-- n numbers from k on
abbrev pub counts : ℕ → ℕ → List ℕ
counts k zero = []
counts k (suc n) = k ∷ counts (suc k) n

-- the coordinates of v at the first places of a list, as many as there may be vectors
abbrev pub four_at : List ℕ → Vec → Vec
four_at at v = padded most_vectors (map (nth v) (take most_vectors at))
