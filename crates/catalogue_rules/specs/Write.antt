-- Writing entries as words, and words as bytes (document 01, "The catalogue").
use Rattle.std.specs.Prelude.{Bool, true, false, List, [], ◌∷◌, ◌++◌, map, ℕ, ℤ, pos, nat_abs, ◌+ℤ◌, length}
use Rattle.std.proofs.Math.Option.{Option, none, some}
use Rattle.lattices.specs.Refusal.{most_size}
use Rattle.catalogue_rules.specs.Word.{Word, head, coordinate, see, end, draft, head_number, head_size, encode, bytes_of}
use Rattle.catalogue_rules.specs.Catalogue.{Form, old, new, Head, See, Entry, coordinates}

-- R6.3, R6.13: a head of one word, or of two
abbrev pub head_words_in : Form → (number d m : ℕ) → List Word
head_words_in old number d m = head number d m ∷ []
head_words_in new number d m = head_number number ∷ head_size 0 d m ∷ []

-- R6.3, R6.13
abbrev pub head_words : Head → List Word
head_words h = head_words_in h.form h.number h.d h.m

-- R6.3 to R6.5, R6.8: "coordinate plus 20,000"
abbrev pub coordinate_word : ℤ → Word
coordinate_word x = coordinate (nat_abs (x +ℤ pos most_size))

-- R6.1, R6.4: the words of coordinates, as numbers
abbrev pub encoded_coordinates : List ℤ → List ℕ
encoded_coordinates xs = map encode (map coordinate_word xs)

-- R6.12: "a word of kind 5 with load 1"
abbrev pub draft_words : Bool → List Word
draft_words true = draft 1 ∷ []
draft_words false = []

-- R6.3 to R6.5, R6.8: "at most one see word"
abbrev pub see_words : Option See → List Word
see_words none = []
see_words (some s) = see s.number ∷ []

-- R6.3 to R6.5, R6.8, R6.12: the mark stands "after the coordinates and before any see word"
abbrev pub entry_words : Entry → List Word
entry_words e = head_words e.head ++ (map coordinate_word (coordinates e.vectors) ++ (draft_words e.draft ++ see_words e.see))

-- R6.3 to R6.5, R6.8
abbrev pub entries_words : List Entry → List Word
entries_words [] = []
entries_words (e ∷ es) = entry_words e ++ entries_words es

-- R6.9, R6.11: "The end word is last and always present"; its load: "how many entries came before"
abbrev pub catalogue_words : List Entry → List Word
catalogue_words es = entries_words es ++ (end (length es) ∷ [])

-- R6.9, R6.11
unfoldable pub write : List Entry → List ℕ
write es = bytes_of (map encode (catalogue_words es))
