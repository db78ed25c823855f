-- P1 to P10 of document 01 ("Known results"): one table of inputs and outcomes, one theorem. Another for more than four coordinates.
use Rattle.std.specs.Prelude.{◌≡◌, refl, List, [], ◌∷◌, ℕ, ℤ, pos, neg_ℤ}
use Rattle.integers.specs.All.{All}
use Rattle.lattices.specs.Vector.{dot, ◌⊕◌, ◌⊙◌, comb}
use Rattle.lattices.specs.Volume.{squared_volume, is_dependent}
use Rattle.lattices.specs.Nearest.{least_by, nearest_by}
use Rattle.lattices.specs.Greedy.{credited, greedy_by, insert_by, order_by}
use Rattle.lattices.specs.Refusal.{most_vectors, most_coordinates}
use Rattle.lattices.specs.Answer.{Reduction, Nearest, padded, table, no_reduction, reduction_of, nearest_of}

-- −n, n being at least 1
abbrev pub minus : ℕ → ℤ
minus n = neg_ℤ (pos n)

pub data Known : Type 0 where
  reduces : (d m : ℕ) → List ℤ → Reduction → Known
  nearest-to : List ℤ → (d m : ℕ) → List ℤ → Nearest → Known

-- an answer without its unused places
abbrev pub reduced : List (List ℤ) → List (List ℤ) → List (List ℤ) → List ℤ → ℕ → Reduction
reduced vectors u v squares passes = record {
  refusal = 0;
  place = 0;
  basis = table most_vectors most_coordinates vectors;
  u = table most_vectors most_vectors u;
  v = table most_vectors most_vectors v;
  squares = padded most_vectors squares;
  passes = passes;
}

abbrev pub found : List ℤ → List ℤ → ℕ → Nearest
found vector coefficients square = record {
  refusal = 0;
  place = 0;
  vector = padded most_coordinates vector;
  coefficients = padded most_vectors coefficients;
  square = pos square;
}

abbrev pub unit1 : List (List ℤ)
unit1 = (pos 1 ∷ []) ∷ []

abbrev pub unit2 : List (List ℤ)
unit2 = (pos 1 ∷ pos 0 ∷ []) ∷ (pos 0 ∷ pos 1 ∷ []) ∷ []

abbrev pub unit4 : List (List ℤ)
unit4 =
    (pos 1 ∷ pos 0 ∷ pos 0 ∷ pos 0 ∷ [])
    ∷ (pos 0 ∷ pos 1 ∷ pos 0 ∷ pos 0 ∷ [])
    ∷ (pos 0 ∷ pos 0 ∷ pos 1 ∷ pos 0 ∷ [])
    ∷ (pos 0 ∷ pos 0 ∷ pos 0 ∷ pos 1 ∷ [])
    ∷ []

-- R15.1 to R15.10
abbrev pub known : List Known
known =
    -- P1
    reduces 1 1 (minus 3 ∷ []) (reduced ((minus 3 ∷ []) ∷ []) unit1 unit1 (pos 9 ∷ []) 0)
    -- P2
    ∷ reduces 2 2 (pos 1 ∷ pos 0 ∷ pos 4 ∷ pos 1 ∷ [])
    (reduced ((pos 1 ∷ pos 0 ∷ []) ∷ (pos 0 ∷ pos 1 ∷ []) ∷ []) ((pos 1 ∷ pos 0 ∷ []) ∷ (minus 4 ∷ pos 1 ∷ []) ∷ [])
    ((pos 1 ∷ pos 0 ∷ []) ∷ (pos 4 ∷ pos 1 ∷ []) ∷ []) (pos 1 ∷ pos 1 ∷ []) 1)
    -- P3
    ∷ reduces 2 2 (pos 2 ∷ pos 0 ∷ pos 1 ∷ pos 3 ∷ [])
    (reduced ((pos 2 ∷ pos 0 ∷ []) ∷ (pos 1 ∷ pos 3 ∷ []) ∷ []) unit2 unit2 (pos 4 ∷ pos 10 ∷ []) 1)
    -- P4
    ∷ reduces 2 2 (pos 2 ∷ pos 0 ∷ minus 1 ∷ pos 3 ∷ [])
    (reduced ((pos 2 ∷ pos 0 ∷ []) ∷ (pos 1 ∷ pos 3 ∷ []) ∷ []) ((pos 1 ∷ pos 0 ∷ []) ∷ (pos 1 ∷ pos 1 ∷ []) ∷ [])
    ((pos 1 ∷ pos 0 ∷ []) ∷ (minus 1 ∷ pos 1 ∷ []) ∷ []) (pos 4 ∷ pos 10 ∷ []) 1)
    -- P5
    ∷ reduces 2 2 (pos 5 ∷ pos 8 ∷ pos 8 ∷ pos 13 ∷ [])
    (reduced ((pos 0 ∷ minus 1 ∷ []) ∷ (minus 1 ∷ pos 0 ∷ []) ∷ []) ((pos 8 ∷ minus 5 ∷ []) ∷ (minus 13 ∷ pos 8 ∷ []) ∷ [])
    ((minus 8 ∷ minus 5 ∷ []) ∷ (minus 13 ∷ minus 8 ∷ []) ∷ []) (pos 1 ∷ pos 1 ∷ []) 4)
    -- P6
    ∷ reduces 4 4 (pos 2 ∷ pos 0 ∷ pos 0 ∷ pos 0 ∷ pos 0 ∷ pos 2 ∷ pos 0 ∷ pos 0 ∷ pos 0 ∷ pos 0 ∷ pos 2 ∷ pos 0 ∷ pos 1 ∷ pos 1 ∷ pos 1 ∷ pos 1 ∷ [])
    (reduced ((pos 2 ∷ pos 0 ∷ pos 0 ∷ pos 0 ∷ []) ∷ (pos 0 ∷ pos 2 ∷ pos 0 ∷ pos 0 ∷ []) ∷ (pos 0 ∷ pos 0 ∷ pos 2 ∷ pos 0 ∷ []) ∷ (pos 1 ∷ pos 1 ∷ pos 1 ∷ pos 1 ∷ []) ∷ [])
    unit4 unit4 (pos 4 ∷ pos 4 ∷ pos 4 ∷ pos 4 ∷ []) 3)
    -- P7, P8
    ∷ reduces 1 1 (pos 0 ∷ []) (no_reduction 5)
    ∷ reduces 2 2 (pos 1 ∷ pos 2 ∷ pos 2 ∷ pos 4 ∷ []) (no_reduction 5)
    -- P9
    ∷ nearest-to (pos 1 ∷ pos 1 ∷ []) 2 2 (pos 2 ∷ pos 0 ∷ pos 0 ∷ pos 2 ∷ []) (found (pos 0 ∷ pos 0 ∷ []) (pos 0 ∷ pos 0 ∷ []) 2)
    -- P10
    ∷ nearest-to (pos 14 ∷ pos 9 ∷ []) 2 2 (pos 20 ∷ pos 0 ∷ pos 10 ∷ pos 20 ∷ []) (found (pos 20 ∷ pos 0 ∷ []) (pos 1 ∷ pos 0 ∷ []) 117)
    ∷ []

abbrev pub Holds : Known → Type 0
Holds (reduces d m numbers r) = reduction_of (record { numbers = numbers; d = d; m = m; target = [] }) ≡ r
Holds (nearest-to t d m numbers r) = nearest_of (record { numbers = numbers; d = d; m = m; target = t }) ≡ r

pub known_results : All Holds known
unfolding dot ◌⊕◌ ◌⊙◌ comb squared_volume is_dependent least_by nearest_by insert_by order_by credited greedy_by reduction_of nearest_of
known_results = (refl, (refl, (refl, (refl, (refl, (refl, (refl, (refl, (refl, (refl, tt))))))))))

-- R15.16 to R15.19: more than four coordinates
abbrev pub wide : List Known
wide =
    -- A4, the vectors whose sum is zero
    reduces 4 5 (pos 1 ∷ minus 1 ∷ pos 0 ∷ pos 0 ∷ pos 0 ∷ pos 0 ∷ pos 1 ∷ minus 1 ∷ pos 0 ∷ pos 0 ∷ pos 0 ∷ pos 0 ∷ pos 1 ∷ minus 1 ∷ pos 0 ∷ pos 0 ∷ pos 0 ∷ pos 0 ∷ pos 1 ∷ minus 1 ∷ [])
    (reduced ((pos 1 ∷ minus 1 ∷ pos 0 ∷ pos 0 ∷ pos 0 ∷ []) ∷ (pos 1 ∷ pos 0 ∷ minus 1 ∷ pos 0 ∷ pos 0 ∷ []) ∷ (pos 1 ∷ pos 0 ∷ pos 0 ∷ minus 1 ∷ pos 0 ∷ []) ∷ (pos 1 ∷ pos 0 ∷ pos 0 ∷ pos 0 ∷ minus 1 ∷ []) ∷ [])
    ((pos 1 ∷ pos 0 ∷ pos 0 ∷ pos 0 ∷ []) ∷ (pos 1 ∷ pos 1 ∷ pos 0 ∷ pos 0 ∷ []) ∷ (pos 1 ∷ pos 1 ∷ pos 1 ∷ pos 0 ∷ []) ∷ (pos 1 ∷ pos 1 ∷ pos 1 ∷ pos 1 ∷ []) ∷ [])
    ((pos 1 ∷ pos 0 ∷ pos 0 ∷ pos 0 ∷ []) ∷ (minus 1 ∷ pos 1 ∷ pos 0 ∷ pos 0 ∷ []) ∷ (pos 0 ∷ minus 1 ∷ pos 1 ∷ pos 0 ∷ []) ∷ (pos 0 ∷ pos 0 ∷ minus 1 ∷ pos 1 ∷ []) ∷ [])
    (pos 2 ∷ pos 2 ∷ pos 2 ∷ pos 2 ∷ []) 3)
    -- two vectors, and a target beside their span that is equally near to four
    ∷ nearest-to (pos 3 ∷ minus 3 ∷ pos 3 ∷ pos 1 ∷ minus 1 ∷ []) 2 5 (pos 2 ∷ minus 2 ∷ pos 0 ∷ pos 0 ∷ pos 0 ∷ pos 0 ∷ pos 0 ∷ pos 0 ∷ pos 2 ∷ minus 2 ∷ []) (found (pos 2 ∷ minus 2 ∷ pos 0 ∷ pos 0 ∷ pos 0 ∷ []) (pos 1 ∷ pos 0 ∷ []) 13)
    -- eight coordinates, and nine
    ∷ reduces 1 8 (pos 1 ∷ pos 2 ∷ pos 3 ∷ pos 4 ∷ pos 5 ∷ pos 6 ∷ pos 7 ∷ minus 8 ∷ []) (reduced ((pos 1 ∷ pos 2 ∷ pos 3 ∷ pos 4 ∷ pos 5 ∷ pos 6 ∷ pos 7 ∷ minus 8 ∷ []) ∷ []) unit1 unit1 (pos 204 ∷ []) 0)
    ∷ reduces 1 9 (pos 1 ∷ pos 2 ∷ pos 3 ∷ pos 4 ∷ pos 5 ∷ pos 6 ∷ pos 7 ∷ pos 8 ∷ pos 9 ∷ []) (no_reduction 2)
    ∷ []

pub wide_results : All Holds wide
unfolding dot ◌⊕◌ ◌⊙◌ comb squared_volume is_dependent least_by nearest_by insert_by order_by credited greedy_by reduction_of nearest_of
wide_results = (refl, (refl, (refl, (refl, tt))))
