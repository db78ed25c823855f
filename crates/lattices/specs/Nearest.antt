-- The nearest lattice vector by the tie rule of document 01: among all lists of coefficients the one of least value, where the
-- value is the squared distance followed by the list, compared from the first number on.
use Rattle.std.specs.Prelude.{Bool, true, false, ℕ, zero, suc, ℤ, pos, neg_ℤ, nat_abs, ◌*ℤ◌}
use mathlib.Core.List.{List, [], ◌∷◌, ◌++◌, reverse, tail}
use Rattle.std.specs.Int.Signed.{le_z}
-- lists compared from the first number on, as signed numbers
pub use Rattle.integers.specs.Below.{below}
use Rattle.lattices.specs.Vector.{Vec, N, ◌⊖◌, ◌⊙◌, comb}

-- R1.8: the lesser of two lists
abbrev pub lesser : List ℤ → List ℤ → List ℤ
lesser k l = elim (below k l) [ true ↦ k | false ↦ l ]

-- R4.1: the least of `at 0`, `at 1`, `at -1`, `at 2`, … as far as `near` says, counted by the fuel
abbrev pub outward : (ℤ → List ℤ) → (ℤ → Bool) → ℕ → ℕ → List ℤ → List ℤ
outward at near zero j best = best
outward at near (suc fuel) j best = elim (near (pos j))
    [ false ↦ best | true ↦ outward at near fuel (suc j) (lesser (at (pos j)) (lesser (at (neg_ℤ (pos j))) best)) ]

-- S is the squared length
module _ (S : Vec → ℤ) where
  -- R4.1: value of a coefficient list for a target: squared distance first, then the list
  abbrev pub value_by : List Vec → Vec → List ℤ → List ℤ
  value_by bs t x = S (t ⊖ comb x bs) ∷ x

  -- R4.1: no list of least value has a last coefficient j with j·j·S(b) over 16·S(t), where b is the last of at most four reduced vectors
  abbrev pub near_by : Vec → Vec → ℤ → Bool
  near_by b t j = le_z (j *ℤ j *ℤ S b) (pos 16 *ℤ S t)

  -- R4.1: the least value. The vectors stand last one first: with the last coefficient fixed at j the others are those of t − j·b
  unfoldable pub least_by : List Vec → Vec → List ℤ
  least_by [] t = S t ∷ []
  least_by (b ∷ bs) t =
      let at : ℤ → List ℤ = λ j. least_by bs (t ⊖ j ⊙ b) ++ (j ∷ []) in
      outward at (near_by b t) (suc (nat_abs (pos 16 *ℤ S t))) 1 (at (pos 0))

  -- R4.1: nearest: the coefficients on the list of the lattice vector nearest to t
  unfoldable pub nearest_by : List Vec → Vec → List ℤ
  nearest_by bs t = tail (least_by (reverse bs) t)

-- R4.1: the same for vectors, whose squared length is N
abbrev pub value : List Vec → Vec → List ℤ → List ℤ
value = value_by N

abbrev pub near : Vec → Vec → ℤ → Bool
near = near_by N

abbrev pub least : List Vec → Vec → List ℤ
least = least_by N

abbrev pub nearest : List Vec → Vec → List ℤ
nearest = nearest_by N
