-- The answers of the services as runs of numbers, in the order that the header gives.
use Rattle.std.specs.Prelude.{Bool, cond, List, [], ◌∷◌, ◌++◌, ℕ, ◌+◌, ◌*◌, ℤ, pos, leb, length, take, drop, Ok, Err}
use Rattle.std.specs.declared.result.Result.{Result}
use Rattle.refusals.specs.declared.Refused.{Refused}
use Rattle.refusals.specs.Number.{number_of}
use Rattle.lattices.specs.Refusal.{most_vectors, most_coordinates}
use Rattle.lattices.specs.Answer.{Reduction, Nearest, Membership}
use Rattle.catalogue_rules.specs.Output.{Output}
use Rattle.fold_rules.specs.Services.{Lookup}
use Rattle.separation_rules.specs.Separation.{Separation, same, different_m, different_d, first_outside, second_outside, rank, Separated, refused_at, told}

-- R16.2: how many numbers a reduction's answer has: a head, the squared lengths, the vectors, and the tables U and V
abbrev pub reduction_count : ℕ
reduction_count = 3 + most_vectors + most_vectors * most_coordinates + 2 * (most_vectors * most_vectors)

-- R16.3: how many the answer with a nearest vector has: a head, the coefficients, the solution in tenths, the vector
abbrev pub nearest_count : ℕ
nearest_count = 3 + 2 * most_vectors + most_coordinates

-- R16.2: the rows of a table one after another
abbrev pub flat : List (List ℤ) → List ℤ
flat [] = []
flat (r ∷ rows) = r ++ flat rows

-- R16.1: what stands before an answer's rows: refusal, place and one number
abbrev pub head : ℕ → ℕ → ℤ → List ℤ
head refusal place number = pos refusal ∷ pos place ∷ number ∷ []

-- R16.4: the same of what a writing gave: refusal and place, or how many bytes it wrote
abbrev pub head_in : Result ℕ Refused → List ℤ
head_in (Ok count) = head 0 0 (pos count)
head_in (Err r) = head (number_of r.refusal) r.place (pos 0)

-- R16.2: a reduction's answer: head with the passes, squared lengths, vectors, U, V
unfoldable pub layout : Reduction → List ℤ
layout a = head a.refusal a.place (pos a.passes) ++ (a.squares ++ (flat a.basis ++ (flat a.u ++ flat a.v)))

-- R16.3: the answer with a nearest vector: head with the squared distance, coefficients, the solution in tenths, vector
unfoldable pub layout_nearest : Nearest → List ℤ → List ℤ
layout_nearest a tenths = head a.refusal a.place a.square ++ (a.coefficients ++ (tenths ++ a.vector))

-- R16.3: the tenths that stand in such an answer
unfoldable pub tenths_in : List ℤ → List ℤ
tenths_in numbers = take most_vectors (drop (3 + most_vectors) numbers)

-- R16.4: 1 for yes, 0 for no
abbrev pub flag : Bool → ℤ
flag b = cond b (pos 1) (pos 0)

-- R16.4: the answer of a membership: head with 1 for yes, 0 for no
abbrev pub layout_membership : Membership → List ℤ
layout_membership a = head a.refusal a.place (flag a.member)

-- R16.4: the answer of a writing: head with the length written; the output itself is lent
abbrev pub layout_output : Output → List ℤ
layout_output o = head o.refusal o.place (pos o.written)

-- R16.4: the answer of a lookup: head with the standing number
abbrev pub layout_lookup : Lookup → List ℤ
layout_lookup l = head l.refusal l.place (pos l.standing)

-- R16.6: of a vector outside its position and its squared distance; zeros for the others
abbrev pub outside_numbers : Separation → List ℤ
outside_numbers same = pos 0 ∷ pos 0 ∷ []
outside_numbers different_m = pos 0 ∷ pos 0 ∷ []
outside_numbers different_d = pos 0 ∷ pos 0 ∷ []
outside_numbers (first_outside position square) = pos position ∷ square ∷ []
outside_numbers (second_outside position square) = pos position ∷ square ∷ []

-- R16.6: the answer about two entries: head with which of the five it is, 0 with a refusal; position and squared distance
abbrev pub layout_separation : Separated → List ℤ
layout_separation (refused_at number place) = head number place (pos 0) ++ (pos 0 ∷ pos 0 ∷ [])
layout_separation (told s) = head 0 0 (pos (rank s)) ++ outside_numbers s

-- R16.5: a lent run of numbers after n numbers are written to it: one that is too short stays
abbrev pub written : List ℤ → ℕ → List ℤ → List ℤ
written before n numbers = cond (leb n (length before)) (numbers ++ drop n before) before

-- R16.5: an output lent beside an answer of n numbers: it stays where the answer is too short
abbrev pub beside : List ℤ → ℕ → (before after : List ℕ) → List ℕ
beside answer n before after = cond (leb n (length answer)) after before
