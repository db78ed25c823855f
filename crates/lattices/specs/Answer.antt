-- The answers of the services Reduction, Nearest and Membership for every input: a refusal with its number and all else zero, or the answer.
-- Unused places of every answer hold zero.
use Rattle.std.specs.Prelude.{Bool, false, List, [], ◌∷◌, ◌++◌, map, ℕ, zero, suc, ℤ, pos, length}
use Rattle.std.specs.Int.Signed.{le_z}
use Rattle.integers.specs.Filled.{filled}
use Rattle.lattices.specs.Vector.{Vec, N, nth, comb, distance}
use Rattle.lattices.specs.Nearest.{nearest}
use Rattle.lattices.specs.Greedy.{Row, Counted, vectors, reduction}
use Rattle.lattices.specs.Refusal.{Input, basis, first_of, vector_checks, target_checks, most_vectors, most_coordinates}

-- R5.3: a list of n numbers: the given ones, then zeros
abbrev pub padded : ℕ → List ℤ → List ℤ
padded n l = filled (pos 0) n l

-- R5.3: a table of h rows of w numbers: the given rows, then zeros
abbrev pub table : ℕ → ℕ → List (List ℤ) → List (List ℤ)
table zero w rows = []
table (suc h) w [] = padded w [] ∷ table h w []
table (suc h) w (r ∷ rows) = padded w r ∷ table h w rows

-- R3.8: row i of V: what each vector of the reduced list counts in input i
abbrev pub row_of_v : List Row → ℕ → List ℤ
row_of_v rows i = map (λ r. nth r.v i) rows

-- R3.8: n rows of V from row i on
abbrev pub rows_of_v : List Row → ℕ → ℕ → List (List ℤ)
rows_of_v rows i zero = []
rows_of_v rows i (suc n) = row_of_v rows i ∷ rows_of_v rows (suc i) n

-- R5.1: the answer of Reduction
pub record Reduction : Type 0 where
  pub refusal : ℕ
  pub place : ℕ
  pub basis : List (List ℤ)
  pub u : List (List ℤ)
  pub v : List (List ℤ)
  pub squares : List ℤ
  pub passes : ℕ

-- R5.4
abbrev pub no_reduction : ℕ → Reduction
no_reduction n = record {
  refusal = n;
  place = 0;
  basis = table most_vectors most_coordinates [];
  u = table most_vectors most_vectors [];
  v = table most_vectors most_vectors [];
  squares = padded most_vectors [];
  passes = 0;
}

-- R5.1
abbrev pub reduction_given : Counted → Reduction
reduction_given c = record {
  refusal = 0;
  place = 0;
  basis = table most_vectors most_coordinates (vectors c.rows);
  u = table most_vectors most_vectors (map (λ r. r.u) c.rows);
  v = table most_vectors most_vectors (rows_of_v c.rows 0 (length c.rows));
  squares = padded most_vectors (map (λ r. N r.vector) c.rows);
  passes = c.passes;
}

-- R5.1, R5.4, R8.8
unfoldable pub reduction_of : Input → Reduction
reduction_of i = elim (first_of vector_checks i) [ zero ↦ reduction_given (reduction (basis i)) | suc n ↦ no_reduction (suc n) ]

-- R5.2: the answer of Nearest: coefficients on the reduced basis, the lattice vector, its squared distance from the target
pub record Nearest : Type 0 where
  pub refusal : ℕ
  pub place : ℕ
  pub vector : List ℤ
  pub coefficients : List ℤ
  pub square : ℤ

-- R5.4
abbrev pub no_nearest : ℕ → Nearest
no_nearest n = record {
  refusal = n;
  place = 0;
  vector = padded most_coordinates [];
  coefficients = padded most_vectors [];
  square = pos 0;
}

-- R5.2
abbrev pub nearest_given : List Vec → Vec → Nearest
nearest_given bs t =
    let x = nearest bs t in
    record {
      refusal = 0;
      place = 0;
      vector = padded most_coordinates (comb x bs);
      coefficients = padded most_vectors x;
      square = distance t (comb x bs);
    }

-- R4.2, R4.3, R5.2, R5.4, R8.8
unfoldable pub nearest_of : Input → Nearest
nearest_of i = elim (first_of (vector_checks ++ target_checks) i)
    [ zero ↦ nearest_given (vectors (reduction (basis i)).rows) i.target | suc n ↦ no_nearest (suc n) ]

-- R5.5: the answer of Membership: whether the target is a vector of the lattice
pub record Membership : Type 0 where
  pub refusal : ℕ
  pub place : ℕ
  pub member : Bool

-- R4.4, R5.4, R5.5, R8.8: yes exactly when the squared distance is 0
unfoldable pub membership_of : Input → Membership
membership_of i = elim (first_of (vector_checks ++ target_checks) i)
    [ zero ↦ record { refusal = 0; place = 0; member = le_z (nearest_of i).square (pos 0) } | suc n ↦ record { refusal = suc n; place = 0; member = false } ]
