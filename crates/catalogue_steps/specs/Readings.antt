-- What each word does to the stored state of reading, row by row as in the definition's `step`.
use Rattle.std.specs.Prelude.{Bool, true, false, not, ◌&&◌, ◌||◌, List, [], ◌∷◌, ◌++◌, ℕ, ◌+◌, ◌≤◌, ◌<◌, leb, ltb, eqb, length, take, pos, Ok, Err}
use Rattle.std.specs.declared.result.Result.{Result}
use Rattle.std.specs.Int.Signed.{lt_z}
use Rattle.integers.specs.Every.{any}
use Rattle.integers.specs.Size.{Within}
use Rattle.lattices.specs.Refusal.{most_square, most_vectors, most_coordinates}
use Rattle.catalogue_rules.specs.Word.{Word, head, coordinate, see, end, draft, head_number, head_size}
use Rattle.catalogue_rules.specs.Read.{checked, size_rows, head_size_rows, coordinate_of, draft_rows}
use Rattle.catalogue_records.specs.declared.Form.{Form}
use Rattle.catalogue_records.specs.declared.Form.TheVariants.{Old, New}
use Rattle.catalogue_records.specs.EntriesIn.{form_in}
use Rattle.catalogue_steps.specs.declared.reading.Phase.{Phase}
use Rattle.catalogue_steps.specs.declared.reading.Phase.TheVariants.{Outside, Numbered, Inside, After, Closed}
use Rattle.catalogue_steps.specs.declared.parts.Part.{Part}
use Rattle.catalogue_steps.specs.declared.reading.Reading.{Reading}
use Rattle.catalogue_steps.specs.Parts.{no_part, started, put_coordinate, put_vector, put_mark}
use Rattle.catalogue_rules.specs.Catalogue.{same_form, most_entries, most_numbers}

abbrev pub is_number : ℕ → ℕ → Bool
is_number n k = eqb k n

abbrev pub going : Phase → ℕ → Form → Part → Reading
going phase count form part = record { phase = phase; count = count; form = form; part = part }

abbrev pub first_reading : Reading
first_reading = going Outside 0 Old no_part

-- what a word does: a state more, or a refusal by its number
abbrev pub Turn : Type 0
Turn = Result Reading ℕ

abbrev pub goes : Phase → ℕ → Form → Part → Turn
goes phase count form part = Ok (going phase count form part)

abbrev pub stopped : ℕ → Turn
stopped n = Err n

-- heads of the other form came before
abbrev pub differs_read : Reading → Form → Bool
differs_read s f = not (eqb s.count 0) && not (same_form (form_in s.form) (form_in f))

-- the rows of a head that look at the entries before it: those of its form, and that of its number
abbrev pub form_read : Reading → Form → List (Bool × ℕ)
form_read s f = (differs_read s f, 10) ∷ (leb most_entries s.count, 15) ∷ []

abbrev pub number_read : List ℕ → ℕ → List (Bool × ℕ)
number_read numbers n = (eqb n 0 || any (is_number n) numbers, 11) ∷ []

abbrev pub head_read : List ℕ → Reading → ℕ → ℕ → ℕ → ℕ → Turn
head_read numbers s number d m i =
    checked stopped (form_read s Old ++ (size_rows d m ++ number_read (take s.count numbers) number)) (goes Inside s.count Old (started number d m i))

-- a head of two words: its number, and its size
abbrev pub head_number_read : List ℕ → Reading → ℕ → ℕ → Turn
head_number_read numbers s number i = checked stopped (form_read s New ++ number_read (take s.count numbers) number) (goes Numbered s.count New (started number 0 0 i))

abbrev pub head_size_read : Reading → ℕ → ℕ → ℕ → Turn
head_size_read s high d m = checked stopped (head_size_rows high d m) (goes Inside s.count s.form (started s.part.number d m s.part.place))

-- the phase after a whole vector
abbrev pub vector_phase : Bool → Phase
vector_phase true = After
vector_phase false = Inside

abbrev pub vector_read : Reading → Part → Turn
vector_read s p =
    checked stopped ((lt_z (pos most_square) p.square, 4) ∷ [])
    (goes (vector_phase (eqb (put_vector p).row (put_vector p).d)) s.count s.form (put_vector p))

abbrev pub column_read : Bool → Reading → Part → Turn
column_read true s p = vector_read s p
column_read false s p = goes Inside s.count s.form p

abbrev pub coordinate_read : Reading → ℕ → Turn
coordinate_read s l =
    let p = put_coordinate s.part (coordinate_of l) in
    checked stopped ((ltb 40000 l, 4) ∷ []) (column_read (eqb p.column p.m) s p)

abbrev pub draft_read : Reading → ℕ → Turn
draft_read s l = checked stopped (draft_rows s.part.draft l) (goes After s.count s.form (put_mark s.part))

abbrev pub entry_read : Reading → Reading
entry_read s = going Outside (s.count + 1) s.form no_part

abbrev pub end_read : Reading → ℕ → Turn
end_read s count = checked stopped ((not (eqb count s.count), 13) ∷ []) (goes Closed s.count s.form no_part)

abbrev pub outside_read : List ℕ → Reading → ℕ → Word → Turn
outside_read numbers s i (head number d m) = head_read numbers s number d m i
outside_read numbers s i (end count) = end_read s count
outside_read numbers s i (head_number number) = head_number_read numbers s number i
outside_read numbers s i _ = stopped 10

abbrev pub numbered_read : Reading → Word → Turn
numbered_read s (head_size high d m) = head_size_read s high d m
numbered_read s _ = stopped 10

abbrev pub inside_read : Reading → Word → Turn
inside_read s (coordinate l) = coordinate_read s l
inside_read s _ = stopped 10

abbrev pub after_read : List ℕ → Reading → ℕ → Word → Turn
after_read numbers s i (head number d m) = head_read numbers (entry_read s) number d m i
after_read numbers s i (see number) = Ok (entry_read s)
after_read numbers s i (end count) = end_read (entry_read s) count
after_read numbers s i (draft l) = draft_read s l
after_read numbers s i (head_number number) = head_number_read numbers (entry_read s) number i
after_read numbers s i _ = stopped 10

-- the word at index i, by what may come next
abbrev pub phase_read : Phase → List ℕ → Reading → ℕ → Word → Turn
phase_read Outside numbers s i w = outside_read numbers s i w
phase_read Numbered numbers s i w = numbered_read s w
phase_read Inside numbers s i w = inside_read s w
phase_read After numbers s i w = after_read numbers s i w
phase_read Closed numbers s i w = stopped 14

abbrev pub step_read : List ℕ → Reading → ℕ → Word → Turn
step_read numbers s i w = phase_read s.phase numbers s i w

-- there is room for what may come next
abbrev pub RoomIn : Phase → List ℕ → Reading → Type 0
RoomIn Outside numbers s = s.count ≤ length numbers
RoomIn Numbered numbers s = Unit {0}
RoomIn Inside numbers s = (s.part.row < most_vectors) × ((s.part.column < most_coordinates) × ((s.part.filled < most_numbers) × Within 4000000000 s.part.square))
RoomIn After numbers s = (s.count < most_entries) × (s.count < length numbers)
RoomIn Closed numbers s = Unit {0}

pub record ReadyFor (numbers : List ℕ) (s : Reading) : Type 0 where
  pub room : RoomIn s.phase numbers s

abbrev pub is_closed : Phase → Bool
is_closed Closed = true
is_closed _ = false
