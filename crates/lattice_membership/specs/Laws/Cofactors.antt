-- The cofactors of a table of small numbers are small.
use Rattle.std.specs.Prelude.{◌≡◌, refl, List, [], ◌∷◌, ℕ, zero, suc, ◌-◌, ◌%◌, ◌≤◌, ◌<◌, get_or}
use Rattle.std.proofs.Common.{arith}
use Rattle.integers.specs.Size.{Within, within-add, within-sub, within-mul}
use Rattle.lattices.specs.Vector.{Vec, nth}
use Rattle.row_operations.specs.Rows.{first_four}
use Rattle.input_checks.specs.Determinant.{Small, without, pair_of, three_of, cofactors_of}

-- ---- the list without one entry

pub without-before : {A : Type 0} (j i : ℕ) (l : List A) (x : A) → i < j → get_or l i x ≡ get_or (without j l) i x
without-before j i [] x h = refl
without-before zero i (y ∷ l) x h = absurd (omega arith)
without-before (suc j) zero (y ∷ l) x h = refl
without-before (suc j) (suc i) (y ∷ l) x h = without-before j i l x (omega arith)

pub without-after : {A : Type 0} (j i : ℕ) (l : List A) (x : A) → j ≤ i → get_or l (suc i) x ≡ get_or (without j l) i x
without-after j i [] x h = refl
without-after zero i (y ∷ l) x h = refl
without-after (suc j) zero (y ∷ l) x h = absurd (omega arith)
without-after (suc j) (suc i) (y ∷ l) x h = without-after j i l x (omega arith)

pub without-small : (j : ℕ) (t : List Vec) → ((r : ℕ) → Small (get_or t r [])) → (r : ℕ) → Small (get_or (without j t) r [])
without-small j [] h r = h r
without-small zero (v ∷ t) h r = h (suc r)
without-small (suc j) (v ∷ t) h zero = h zero
without-small (suc j) (v ∷ t) h (suc r) = without-small j t (λ k. h (suc k)) r

-- ---- sizes

pair_small : (p q : Vec) → Small p → Small q → (i j : ℕ) → Within 800000000 (pair_of p q i j)
pair_small p q f g i j = within-sub (within-mul (f i) (g j)) (within-mul (f j) (g i))

three-small : (p q r : Vec) → Small p → Small q → Small r → (i j k : ℕ) → Within 48000000000000 (three_of p q r i j k)
three-small p q r f g h i j k =
    within-add (within-sub (within-mul (f i) (pair_small q r g h j k)) (within-mul (f j) (pair_small q r g h i k))) (within-mul (f k) (pair_small q r g h i j))

pub cofactors-small : (t : List Vec) → ((r : ℕ) → Small (get_or t r [])) → (j c : ℕ) → Within 48000000000000 (nth (cofactors_of t j) c)
cofactors-small t h j = at
  where
    row : (r : ℕ) → Small (get_or (without j t) r [])
    row = without-small j t h

    three : (i k l : ℕ) → Within 48000000000000 (three_of (get_or (without j t) (j % 2) []) (get_or (without j t) (1 - j % 2) []) (get_or (without j t) 2 []) i k l)
    three = three-small (get_or (without j t) (j % 2) []) (get_or (without j t) (1 - j % 2) []) (get_or (without j t) 2 []) (row (j % 2)) (row (1 - j % 2)) (row 2)

    at : (c : ℕ) → Within 48000000000000 (nth (cofactors_of t j) c)
    at zero = three 1 2 3
    at (suc zero) = three 0 3 2
    at (suc (suc zero)) = three 0 1 3
    at (suc (suc (suc zero))) = three 0 2 1
    at (suc (suc (suc (suc c)))) = record { within = omega arith }

-- ---- the numbers of the rows

pub first-four : (j : ℕ) → j < 4 → get_or first_four j 0 ≡ j
first-four zero h = refl
first-four (suc zero) h = refl
first-four (suc (suc zero)) h = refl
first-four (suc (suc (suc zero))) h = refl
first-four (suc (suc (suc (suc j)))) h = absurd (omega arith)
