-- What is known of the basis and of the values that are made for it.
use Rattle.std.specs.Prelude.{◌≡◌, ◌≢◌, Bool, not, ◌&&◌, List, [], map, ℕ, ◌≤◌, ◌<◌, eqb, leb, ℤ, pos, nat_abs, length, get_or, take, ◌≤ℤ◌}
use Rattle.std.specs.Int.Signed.{rem_z, quot_z}
use Rattle.integers.specs.Size.{Within}
use Rattle.lattices.specs.Vector.{Vec, N, nth, dot}
use Rattle.lattices.specs.Volume.{Index, volume}
use Rattle.lattices.specs.Refusal.{most_vectors, most_coordinates}
use Rattle.exterior_algebra.specs.Cramer.{put}
use Rattle.exterior_algebra.specs.Dependence.{Fit}
use Rattle.exterior_algebra.specs.Minors.{marks}
use Rattle.exterior_algebra.specs.Sizes.{Short}
use Rattle.successive_minima.specs.Reduced.{Reduced}
use Rattle.lattice_membership.specs.Nonzero.{nonzero}
use Rattle.lattice_membership.specs.declared.Lattice.{Lattice}
use Rattle.input_checks.specs.Choice.{places, four_at}

-- the first d vectors of b, as a reduction leaves them
pub record ReducedBasis (d : ℕ) (b : List Vec) : Type 0 where
  pub few : d ≤ most_vectors
  pub reduced : Reduced (take d b)
  pub short : (i : ℕ) → i < d → N (get_or b i []) ≤ℤ pos 400000000
  pub fit : Fit most_coordinates (take d b)

-- ---- a lattice

-- what a reduction leaves: counts, vectors, squared lengths, passes
pub record Left : Type 0 where
  pub d : ℕ
  pub m : ℕ
  pub vectors : List Vec
  pub squares : List ℤ
  pub passes : ℕ

abbrev pub left_in : Lattice → Left
left_in l = record { d = l.d; m = l.m; vectors = l.vectors; squares = l.squares; passes = l.passes }

-- its vectors
abbrev pub vectors_in : Lattice → List Vec
vectors_in l = take l.d l.vectors

-- row j of its cofactors
abbrev pub row_in : Lattice → ℕ → List ℤ
row_in l j = get_or l.cofactors j []

-- with these the coordinates of v at the places of the choice give the minor there with v in the place of vector j
pub record Cofactors (bs : List Vec) (at : List ℕ) (s : Index) (j : ℕ) (row : List ℤ) : Type 0 where
  pub give : (v : Vec) → dot row (four_at at v) ≡ volume (put j v bs) s
  pub small : (c : ℕ) → Within 48000000000000 (nth row c)

-- what membership asks of a lattice, and `lattice_of` gives
pub record Known (l : Lattice) : Type 0 where
  pub few : l.d ≤ most_vectors
  pub four : (length l.vectors ≡ most_vectors) × (length l.cofactors ≡ most_vectors)
  pub reduced : Reduced (vectors_in l)
  pub short : Short (pos 400000000) (vectors_in l)
  pub below : (i : ℕ) → i < most_vectors → get_or l.choice i 0 < most_coordinates
  pub index : Index
  pub at-index : l.minor ≡ volume (vectors_in l) index
  pub nonzero : l.minor ≢ pos 0
  pub rows : (j : ℕ) → j < l.d → Cofactors (vectors_in l) l.choice index j (row_in l j)

-- what `lattice_of` gives besides: its minor is at as many coordinates as it has vectors, and they are its choice
pub record KnownChoice (l : Lattice) : Type 0 where
  pub known : Known l
  pub count : marks known.index ≡ l.d
  pub taken : take l.d l.choice ≡ places 0 known.index

-- the quotients of the numerators by the minor, p being the chosen coordinates of a vector
abbrev pub quotients_of : Lattice → List ℤ → List ℤ
quotients_of l p = map (λ row. quot_z (dot row p) l.minor) l.cofactors

-- ---- the test of a coefficient

-- the largest size that a coefficient of a vector within the length limit has, on a reduced basis
abbrev pub most_times : ℕ
most_times = 1080000

-- n is a whole multiple of m, by a number within that size
abbrev pub is_whole : ℤ → ℤ → Bool
is_whole n m = not (nonzero (rem_z n m)) && leb (nat_abs (quot_z n m)) most_times

-- ---- the test of a minor

abbrev pub same_size : ℤ → ℤ → Bool
same_size a b = eqb (nat_abs a) (nat_abs b)
