-- The table of refusals of document 01 ("Refused, by place of checking") for vectors and targets: conditions, numbers, order of checking.
use Rattle.std.specs.Prelude.{Bool, true, false, not, ◌&&◌, ◌||◌, List, [], ◌∷◌, ℕ, zero, suc, ◌*◌, ℤ, pos, nat_abs, leb, ltb, eqb, length, take, drop}
use Rattle.std.specs.Int.Signed.{lt_z}
use Rattle.integers.specs.Every.{any}
use Rattle.lattices.specs.Vector.{Vec, N}
use Rattle.lattices.specs.Volume.{is_dependent}

-- R2.1, R2.2, R2.3, R2.4: the limits of "What is sold"
abbrev pub most_vectors : ℕ
most_vectors = 4

-- R2.1, R2.2, R2.3, R2.4
abbrev pub most_coordinates : ℕ
most_coordinates = 8

-- R2.1, R2.2, R2.3, R2.4
abbrev pub most_square : ℕ
most_square = 400000000

-- R2.1, R2.2, R2.3, R2.4
abbrev pub most_size : ℕ
most_size = 20000

-- R2.1, R2.2: the numbers that somebody hands in as d vectors of m coordinates, perhaps with a target
pub record Input : Type 0 where
  pub numbers : List ℤ
  pub d : ℕ
  pub m : ℕ
  pub target : List ℤ

-- R2.1, R2.2: d vectors of m coordinates each, vector by vector
abbrev pub vectors_of : ℕ → ℕ → List ℤ → List Vec
vectors_of zero m l = []
vectors_of (suc d) m l = take m l ∷ vectors_of d m (drop m l)

-- R2.1, R2.2
abbrev pub basis : Input → List Vec
basis i = vectors_of i.d i.m i.numbers

abbrev pub one_to : ℕ → ℕ → Bool
one_to most n = leb 1 n && leb n most

-- R9.4, R9.7: a coordinate beyond ±20,000, or over the length limit
abbrev pub too_long : Vec → Bool
too_long v = any (λ x. ltb most_size (nat_abs x)) v || lt_z (pos most_square) (N v)

-- R8.1: a row of the table: the condition and the number
pub record Check : Type 0 where
  pub condition : Input → Bool
  pub number : ℕ

-- R8.1: the first that applies, and 0 for none
abbrev pub first_of : List Check → Input → ℕ
first_of [] i = 0
first_of (c ∷ cs) i = elim (c.condition i) [ true ↦ c.number | false ↦ first_of cs i ]

-- R8.2, R9.1 to R9.5
abbrev pub vector_checks : List Check
vector_checks =
    record { number = 1; condition = λ i. not (one_to most_vectors i.d) }
    ∷ record { number = 2; condition = λ i. not (one_to most_coordinates i.m) }
    ∷ record { number = 3; condition = λ i. not (eqb (length i.numbers) (i.d * i.m)) }
    ∷ record { number = 4; condition = λ i. any too_long (basis i) }
    ∷ record { number = 5; condition = λ i. is_dependent i.m (basis i) }
    ∷ []

-- R8.3, R9.6, R9.7
abbrev pub target_checks : List Check
target_checks =
    record { number = 6; condition = λ i. not (eqb (length i.target) i.m) }
    ∷ record { number = 7; condition = λ i. too_long i.target }
    ∷ []
