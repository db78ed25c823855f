-- The text of each answer, as bytes: what the command line writes for it.
use Rattle.std.specs.Prelude.{Bool, cond, List, [], ◌∷◌, ◌++◌, map, ℕ, eqb, ℤ, take}
use Rattle.integers.specs.Decimal.{decimal, signed}
use Rattle.text_layout.specs.Fields.{line}
use Rattle.fold_rules.specs.Listing.{refused_word}
use Rattle.text_output.specs.Joined.{joined}
use Rattle.lattices.specs.Answer.{Reduction, Nearest, Membership}
use Rattle.separation_answers.specs.declared.Separation.{Separation}
use Rattle.separation_answers.specs.declared.Separation.TheVariants.{Same, DifferentM, DifferentD, FirstOutside, SecondOutside}
use Rattle.cli_output.specs.Rows.{row_line}

-- "refused", the number and the place
abbrev pub refused_text : (number place : ℕ) → List ℕ
refused_text number place = line refused_word (decimal number ∷ decimal place ∷ [])

-- "error", the line's number, a colon, and what is wrong
abbrev pub error_text : ℕ → List ℕ → List ℕ
error_text number what = 101 ∷ 114 ∷ 114 ∷ 111 ∷ 114 ∷ 32 ∷ (decimal number ++ (58 ∷ 32 ∷ (what ++ (10 ∷ []))))

-- a line for each of the first d rows, of n numbers each
abbrev pub row_lines : (letter d n : ℕ) → List (List ℤ) → List ℕ
row_lines letter d n rows = joined (row_line letter n) (take d rows)

-- ---- a reduction of d vectors of m coordinates

-- "reduced"
abbrev pub reduced_word : List ℕ
reduced_word = 114 ∷ 101 ∷ 100 ∷ 117 ∷ 99 ∷ 101 ∷ 100 ∷ []

-- the reduced vectors, each behind "v"
abbrev pub basis_text : (d m : ℕ) → Reduction → List ℕ
basis_text d m a = row_lines 118 d m a.basis

-- the passes and the squared lengths; the reduced vectors, U and V
abbrev pub reduced_text : (d m : ℕ) → Reduction → List ℕ
reduced_text d m a =
    line reduced_word (decimal a.passes ∷ map signed (take d a.squares))
    ++ (basis_text d m a ++ (row_lines 85 d d a.u ++ row_lines 86 d d a.v))

abbrev pub reduction_text : (d m : ℕ) → Reduction → List ℕ
reduction_text d m a = cond (eqb a.refusal 0) (reduced_text d m a) (refused_text a.refusal a.place)

-- ---- a nearest vector, with its solution in tenths

-- "nearest"
abbrev pub nearest_word : List ℕ
nearest_word = 110 ∷ 101 ∷ 97 ∷ 114 ∷ 101 ∷ 115 ∷ 116 ∷ []

-- the squared distance; the coefficients behind "c", the solution in tenths behind "s", the vector behind "v"
abbrev pub found_text : (d m : ℕ) → List ℤ → Nearest → List ℕ
found_text d m tenths a = line nearest_word (signed a.square ∷ []) ++ (row_line 99 d a.coefficients ++ (row_line 115 d tenths ++ row_line 118 m a.vector))

abbrev pub nearest_text : (d m : ℕ) → List ℤ → Nearest → List ℕ
nearest_text d m tenths a = cond (eqb a.refusal 0) (found_text d m tenths a) (refused_text a.refusal a.place)

-- ---- a membership

-- "yes", or "no"
abbrev pub yes_or_no : Bool → List ℕ
yes_or_no member = cond member (121 ∷ 101 ∷ 115 ∷ 10 ∷ []) (110 ∷ 111 ∷ 10 ∷ [])

abbrev pub membership_text : Membership → List ℕ
membership_text a = cond (eqb a.refusal 0) (yes_or_no a.member) (refused_text a.refusal a.place)

-- ---- what separates two entries

-- "same"
abbrev pub same_word : List ℕ
same_word = 115 ∷ 97 ∷ 109 ∷ 101 ∷ []

-- "different"
abbrev pub different_word : List ℕ
different_word = 100 ∷ 105 ∷ 102 ∷ 102 ∷ 101 ∷ 114 ∷ 101 ∷ 110 ∷ 116 ∷ []

-- "first"
abbrev pub first_word : List ℕ
first_word = 102 ∷ 105 ∷ 114 ∷ 115 ∷ 116 ∷ []

-- "second"
abbrev pub second_word : List ℕ
second_word = 115 ∷ 101 ∷ 99 ∷ 111 ∷ 110 ∷ 100 ∷ []

-- which entry has a vector that the other's lattice does not hold, its position and the squared distance to that lattice
abbrev pub outside_text : List ℕ → ℕ → ℤ → List ℕ
outside_text word position square = line word (decimal position ∷ signed square ∷ [])

-- "m" or "d" behind the word says which of the two differs
abbrev pub separation_text : Separation → List ℕ
separation_text Same = line same_word []
separation_text DifferentM = line different_word ((109 ∷ []) ∷ [])
separation_text DifferentD = line different_word ((100 ∷ []) ∷ [])
separation_text (FirstOutside position square) = outside_text first_word position square
separation_text (SecondOutside position square) = outside_text second_word position square
