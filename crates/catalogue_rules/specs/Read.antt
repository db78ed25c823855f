-- Reading any list of bytes: the rows "whole file" to "after reading" of document 01 ("Refused, by place of checking").
-- A state says what may come next; a step takes a state and a word to the next state or to a refusal at that word.
use Rattle.std.specs.Prelude.{Bool, true, false, not, ◌&&◌, ◌||◌, List, [], ◌∷◌, ◌++◌, ℕ, suc, ◌%◌, leb, ltb, eqb, ℤ, pos, ◌-ℤ◌, length}
use Rattle.std.proofs.Math.Option.{Option, none, some}
use Rattle.std.specs.Int.Signed.{lt_z}
use Rattle.lattices.specs.Vector.{Vec, N}
use Rattle.lattices.specs.Volume.{is_dependent}
use Rattle.integers.specs.First.{first_given}
use Rattle.integers.specs.Every.{any}
use Rattle.lattices.specs.Refusal.{one_to, most_vectors, most_coordinates, most_square, most_size}
use Rattle.catalogue_rules.specs.Word.{Word, head, coordinate, see, end, draft, head_number, head_size, other, kind, decode, words_of}
use Rattle.catalogue_rules.specs.Catalogue.{Form, old, new, same_form, head_kind, Head, See, Entry, Outcome, refused, accepted, most_entries, most_bytes, most_load}

-- R6.8, R6.9, R9.10, R9.14: what has been read, by what may come next
pub data State : Type 0 where
  -- a head or the end
  outside : List Entry → State
  -- the second word of a head: the entries before, the number and where it stands
  numbered : List Entry → (number place : ℕ) → State
  -- a coordinate: the entries before, the entry's head and whole vectors, the vector being read
  inside : List Entry → Head → List Vec → Vec → State
  -- a mark unless the entry has it, a see word, a head or the end
  after : List Entry → Head → List Vec → (draft : Bool) → State
  -- nothing
  closed : List Entry → State

pub data Step : Type 0 where
  next : State → Step
  stop : (number : ℕ) → Step

-- R8.1: rows of the table, each a condition and a number: "the first that applies is given, and none otherwise"
abbrev pub checked : {A : Type 0} → (ℕ → A) → List (Bool × ℕ) → A → A
checked refuse [] a = a
checked refuse (r ∷ rows) a = elim r.0 [ true ↦ refuse r.1 | false ↦ checked refuse rows a ]

abbrev pub is_numbered : ℕ → Entry → Bool
is_numbered n e = eqb e.head.number n

-- R6.8, R6.9, R9.10, R9.14: the entries with one more, a draft or not, its see word given or not
abbrev pub with_entry : List Entry → Head → List Vec → Bool → Option See → List Entry
with_entry es h vs d s = es ++ (record { head = h; vectors = vs; draft = d; see = s } ∷ [])

-- R6.13: the form of the heads before; without one there is none yet
abbrev pub form_of : List Entry → Option Form
form_of [] = none
form_of (e ∷ es) = some e.head.form

-- R6.13
abbrev pub differs : Option Form → Form → Bool
differs none f = false
differs (some g) f = not (same_form g f)

-- R6.13, R9.10, R9.15: "heads of both forms in one file give 10 at the first that differs"; then row "head": "15 a 257th head"
abbrev pub form_rows : Form → List Entry → List (Bool × ℕ)
form_rows f es = (differs (form_of es) f, 10) ∷ (leb most_entries (length es), 15) ∷ []

-- R9.1, R9.2
abbrev pub size_rows : (d m : ℕ) → List (Bool × ℕ)
size_rows d m = (not (one_to most_vectors d), 1) ∷ (not (one_to most_coordinates m), 2) ∷ []

-- R9.11: "number zero or already used"
abbrev pub number_rows : List Entry → ℕ → List (Bool × ℕ)
number_rows es n = (eqb n 0 || any (is_numbered n) es, 11) ∷ []

-- R8.5: row "head", for a head of one word: 15, 1, 2, 11
abbrev pub head_rows : List Entry → (number d m : ℕ) → List (Bool × ℕ)
head_rows es n d m = form_rows old es ++ (size_rows d m ++ number_rows es n)

-- R8.5
abbrev pub at_head : List Entry → Head → Step
at_head es h = checked stop (head_rows es h.number h.d h.m) (next (inside es h [] []))

-- R6.13, R8.5: of two words: "The new form has 15, 11 and 5 at the kind 6 word", before the other is looked at
abbrev pub head_number_rows : List Entry → ℕ → List (Bool × ℕ)
head_number_rows es n = form_rows new es ++ number_rows es n

-- R6.13, R8.5
abbrev pub at_head_number : List Entry → (number place : ℕ) → Step
at_head_number es n i = checked stop (head_number_rows es n) (next (numbered es n i))

-- R6.13, R8.5, R9.20: "20 when a kind 7 word has any of bits 8 to 27 set, before its d and m are checked"
abbrev pub head_size_rows : (high d m : ℕ) → List (Bool × ℕ)
head_size_rows high d m = (not (eqb high 0), 20) ∷ size_rows d m

-- R6.13, R8.5, R9.20
abbrev pub at_head_size : List Entry → (high : ℕ) → Head → Step
at_head_size es high h = checked stop (head_size_rows high h.d h.m) (next (inside es h [] []))

-- R6.4: "coordinate plus 20,000"
abbrev pub coordinate_of : ℕ → ℤ
coordinate_of l = pos l -ℤ pos most_size

-- R6.8, R6.9, R9.10, R9.14: d vectors, then the entry is whole
abbrev pub with_vector : List Entry → Head → List Vec → State
with_vector es h vs = elim (eqb (length vs) h.d) [ true ↦ after es h vs false | false ↦ inside es h vs [] ]

-- R6.8, R6.9, R9.10, R9.14: m coordinates, then the vector is whole
abbrev pub with_coordinate : List Entry → Head → List Vec → Vec → State
with_coordinate es h vs v = elim (eqb (length v) h.m) [ true ↦ with_vector es h (vs ++ (v ∷ [])) | false ↦ inside es h vs v ]

-- R8.5, R9.4: row "coordinate", for a vector up to this coordinate
abbrev pub coordinate_rows : Head → Vec → ℕ → List (Bool × ℕ)
coordinate_rows h v l = (ltb most_load l || (eqb (length v) h.m && lt_z (pos most_square) (N v)), 4) ∷ []

-- R8.5, R9.4
abbrev pub at_coordinate : List Entry → Head → List Vec → Vec → ℕ → Step
at_coordinate es h vs v l =
    let u = v ++ (coordinate_of l ∷ []) in
    checked stop (coordinate_rows h u l) (next (with_coordinate es h vs u))

-- R6.12, R8.5, R9.10, R9.18: the mark of a draft: the kind "that cannot stand here" first, then a load that is not 1
abbrev pub draft_rows : (marked : Bool) → ℕ → List (Bool × ℕ)
draft_rows marked l = (marked, 10) ∷ (not (eqb l 1), 18) ∷ []

-- R6.12, R8.5, R9.10, R9.18
abbrev pub at_draft : List Entry → Head → List Vec → (marked : Bool) → ℕ → Step
at_draft es h vs marked l = checked stop (draft_rows marked l) (next (after es h vs true))

-- R8.5, R9.13: row "end", its first condition
abbrev pub end_rows : List Entry → ℕ → List (Bool × ℕ)
end_rows es count = (not (eqb count (length es)), 13) ∷ []

-- R8.5, R9.13
abbrev pub at_end : List Entry → ℕ → Step
at_end es count = checked stop (end_rows es count) (next (closed es))

-- R6.8, R6.9, R6.12, R9.10, R9.14: the word at index i; 10 for "a kind that cannot stand here", 14 for "words follow"
unfoldable pub step : State → ℕ → Word → Step
step (outside es) i (head number d m) = at_head es (record { form = old; number = number; d = d; m = m; place = i })
step (outside es) i (coordinate l) = stop 10
step (outside es) i (see number) = stop 10
step (outside es) i (end count) = at_end es count
step (outside es) i (draft l) = stop 10
step (outside es) i (head_number number) = at_head_number es number i
step (outside es) i (head_size high d m) = stop 10
step (outside es) i (other k l) = stop 10
step (numbered es n p) i (head number d m) = stop 10
step (numbered es n p) i (coordinate l) = stop 10
step (numbered es n p) i (see number) = stop 10
step (numbered es n p) i (end count) = stop 10
step (numbered es n p) i (draft l) = stop 10
step (numbered es n p) i (head_number number) = stop 10
step (numbered es n p) i (head_size high d m) = at_head_size es high (record { form = new; number = n; d = d; m = m; place = p })
step (numbered es n p) i (other k l) = stop 10
step (inside es h vs v) i (head number d m) = stop 10
step (inside es h vs v) i (coordinate l) = at_coordinate es h vs v l
step (inside es h vs v) i (see number) = stop 10
step (inside es h vs v) i (end count) = stop 10
step (inside es h vs v) i (draft l) = stop 10
step (inside es h vs v) i (head_number number) = stop 10
step (inside es h vs v) i (head_size high d m) = stop 10
step (inside es h vs v) i (other k l) = stop 10
step (after es h vs marked) i (head number d m) = at_head (with_entry es h vs marked none) (record { form = old; number = number; d = d; m = m; place = i })
step (after es h vs marked) i (coordinate l) = stop 10
step (after es h vs marked) i (see number) = next (outside (with_entry es h vs marked (some (record { number = number; place = i }))))
step (after es h vs marked) i (end count) = at_end (with_entry es h vs marked none) count
step (after es h vs marked) i (draft l) = at_draft es h vs marked l
step (after es h vs marked) i (head_number number) = at_head_number (with_entry es h vs marked none) number i
step (after es h vs marked) i (head_size high d m) = stop 10
step (after es h vs marked) i (other k l) = stop 10
step (closed es) i w = stop 14

-- R8.5, R8.9, R9.10: no word is left: 10 for "no word where one is due", at the number of words
abbrev pub at_last : State → ℕ → Outcome
at_last (outside es) i = refused 10 i
at_last (numbered es n p) i = refused 10 i
at_last (inside es h vs v) i = refused 10 i
at_last (after es h vs marked) i = refused 10 i
at_last (closed es) i = accepted es

-- R8.5, R8.9: the words from index i on
unfoldable pub read_words : State → ℕ → List ℕ → Outcome
read_words s i [] = at_last s i
read_words s i (w ∷ words) = elim (step s i (decode w)) [ next t ↦ read_words t (suc i) words | stop n ↦ refused n i ]

-- R8.6, R8.9, R9.5, R9.12: 5 stands at the head
abbrev pub dependent_at : Entry → Option ℕ
dependent_at e = elim (is_dependent e.head.m e.vectors) [ true ↦ some e.head.place | false ↦ none ]

-- R8.6, R8.9, R9.5, R9.12: 12 stands at the see word
abbrev pub lost_at : List Entry → Entry → Option ℕ
lost_at es e = elim e.see [
  | none ↦ none
  | some s ↦ elim (any (is_numbered s.number) es) [ true ↦ none | false ↦ some s.place ]
]

-- R8.6, R8.9, R9.5, R9.12: row "after reading": 5 where the first entry has it; where no entry has it, 12 at the first such see word
abbrev pub after_reading : List Entry → Outcome
after_reading es = elim (first_given dependent_at es) [
  | some p ↦ refused 5 p
  | none ↦ elim (first_given (lost_at es) es) [ some p ↦ refused 12 p | none ↦ accepted es ]
]

-- R8.6, R8.9, R9.5, R9.12: of words that were read to the end
abbrev pub after_words : Outcome → Outcome
after_words (refused n p) = refused n p
after_words (accepted es) = after_reading es

-- R6.13: the first word is that of a head in this form
abbrev pub opens_in : Form → List ℕ → Bool
opens_in f [] = false
opens_in f (w ∷ words) = eqb (kind w) (head_kind f)

-- R9.9: the form that the first word shows: new "when the first word is of kind 6", otherwise old
abbrev pub form_shown : List ℕ → Form
form_shown words = elim (opens_in new words) [ true ↦ new | false ↦ old ]

-- R8.4, R9.8, R9.9: row "whole file"
abbrev pub file_rows : List ℕ → List (Bool × ℕ)
file_rows bytes = (not (eqb (length bytes % 4) 0), 8) ∷ (ltb (most_bytes (form_shown (words_of bytes))) (length bytes), 9) ∷ []

-- R8.5, R8.6: what the words of a file give
abbrev pub read_all : List ℕ → Outcome
read_all bytes = after_words (read_words (outside []) 0 (words_of bytes))

-- R8.4 to R8.6, R8.8
unfoldable pub read : List ℕ → Outcome
read bytes = checked (λ n. refused n 0) (file_rows bytes) (read_all bytes)
