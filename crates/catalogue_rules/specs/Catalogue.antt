-- What a catalogue holds (document 01, "The catalogue"): entries, the limits of the form, and the outcome of reading.
use Rattle.std.specs.Prelude.{Bool, true, false, List, [], ◌∷◌, ◌++◌, ℕ, ◌+◌, ◌*◌, ℤ}
use Rattle.std.proofs.Math.Option.{Option, none, some}
use Rattle.lattices.specs.Vector.{Vec}
use Rattle.lattices.specs.Refusal.{Input, most_vectors, most_coordinates}

-- R6.13: the two forms of a head: one word, or two with a longer number
pub data Form : Type 0 where
  old : Form
  new : Form

-- R6.13
abbrev pub other_form : Form → Form
other_form old = new
other_form new = old

-- R6.13
abbrev pub same_form : Form → Form → Bool
same_form old old = true
same_form old new = false
same_form new old = false
same_form new new = true

-- R6.3, R6.13: the kind of a head's first word
abbrev pub head_kind : Form → ℕ
head_kind old = 1
head_kind new = 6

-- R6.3, R6.13: how many words a head has
abbrev pub head_length : Form → ℕ
head_length old = 1
head_length new = 2

-- R2.7, R6.3, R6.13: "Entry numbers run from 1 to 1,048,575"; in the new form "a 28-bit number"
abbrev pub most_number : Form → ℕ
most_number old = 1048575
most_number new = 268435455

-- R2.7: 256 entries, 35,844 bytes or 36,868; a coordinate's load is at most 40,000
abbrev pub most_entries : ℕ
most_entries = 256

-- R2.7, R6.8: d times m coordinates
abbrev pub most_numbers : ℕ
most_numbers = most_vectors * most_coordinates

-- R2.7, R6.8: of the largest entries a head, the coordinates, a mark and a see word each, then an end word
abbrev pub most_words : Form → ℕ
most_words f = most_entries * (head_length f + most_numbers + 2) + 1

-- R2.7: 35,844 in the old form, 36,868 in the new one
abbrev pub most_bytes : Form → ℕ
most_bytes f = most_words f * 4

-- R6.4
abbrev pub most_load : ℕ
most_load = 40000

-- R6.3, R6.5, R6.8, R6.13: a head, and the index of its first word
pub record Head : Type 0 where
  pub form : Form
  pub number : ℕ
  pub d : ℕ
  pub m : ℕ
  pub place : ℕ

-- R6.3, R6.5, R6.8: a see word: the number of the entry referred to, and the index of the word
pub record See : Type 0 where
  pub number : ℕ
  pub place : ℕ

-- R11.4: the number that a see word names, 0 for none
abbrev pub see_number : Option See → ℕ
see_number none = 0
see_number (some w) = w.number

-- R6.3, R6.5, R6.8: "An entry is a head, then d times m coordinates vector by vector, then at most one see word"; a mark "after the coordinates and
-- before any see word, makes an entry a draft"
pub record Entry : Type 0 where
  pub head : Head
  pub vectors : List Vec
  pub draft : Bool
  pub see : Option See

-- R6.3, R6.5, R6.8: the coordinates vector by vector
abbrev pub coordinates : List Vec → List ℤ
coordinates [] = []
coordinates (v ∷ vs) = v ++ coordinates vs

-- R6.10: an entry as the engine's input
abbrev pub input_of : Entry → Input
input_of e = record { numbers = coordinates e.vectors; d = e.head.d; m = e.head.m; target = [] }

-- R5.4, R8.8: the outcome of reading
pub data Outcome : Type 0 where
  refused : (number place : ℕ) → Outcome
  accepted : List Entry → Outcome

-- R5.4, R8.8: its parts; a refusal has no entries
abbrev pub refusal : Outcome → ℕ
refusal (refused n p) = n
refusal (accepted es) = 0

-- R5.4, R8.8
abbrev pub place : Outcome → ℕ
place (refused n p) = p
place (accepted es) = 0

-- R5.4, R8.8
abbrev pub entries : Outcome → List Entry
entries (refused n p) = []
entries (accepted es) = es
