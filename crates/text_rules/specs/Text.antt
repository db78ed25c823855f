-- The text of a catalogue, an entry to a line: `number d m ; coordinates`, `; draft` where it is a draft, and `; see` where there is a see word. In
-- the new form a line `new` stands before them.
use Rattle.std.specs.Prelude.{Bool, true, false, List, [], ◌∷◌, ◌++◌, map, ℕ}
use Rattle.std.proofs.Math.Option.{Option, none, some}
use Rattle.integers.specs.Decimal.{decimal, signed}
use Rattle.catalogue_rules.specs.Catalogue.{Form, old, new, See, Entry, coordinates}
use Rattle.catalogue_rules.specs.Read.{form_of}
use Rattle.text_layout.specs.Fields.{line}

-- R13.1
abbrev pub semicolon : List ℕ
semicolon = 59 ∷ []

-- R13.1: "draft"
abbrev pub draft_word : List ℕ
draft_word = 100 ∷ 114 ∷ 97 ∷ 102 ∷ 116 ∷ []

-- R13.1: "a part of its own after the coordinates"
abbrev pub draft_fields : Bool → List (List ℕ)
draft_fields true = semicolon ∷ draft_word ∷ []
draft_fields false = []

-- R13.1
abbrev pub see_fields : Option See → List (List ℕ)
see_fields none = []
see_fields (some s) = semicolon ∷ decimal s.number ∷ []

-- R13.1
abbrev pub entry_fields : Entry → List (List ℕ)
entry_fields e = decimal e.head.d ∷ decimal e.head.m ∷ semicolon ∷ (map signed (coordinates e.vectors) ++ (draft_fields e.draft ++ see_fields e.see))

-- R13.1
abbrev pub entry_text : Entry → List ℕ
entry_text e = line (decimal e.head.number) (entry_fields e)

-- R13.1
abbrev pub entries_text : List Entry → List ℕ
entries_text [] = []
entries_text (e ∷ es) = entry_text e ++ entries_text es

-- R13.9: "new"
abbrev pub new_word : List ℕ
new_word = 110 ∷ 101 ∷ 119 ∷ []

-- R13.9: the first line of a text in the new form
abbrev pub form_text : Option Form → List ℕ
form_text none = []
form_text (some old) = []
form_text (some new) = line new_word []

-- R13.1, R13.9
abbrev pub text_of : List Entry → List ℕ
text_of es = form_text (form_of es) ++ entries_text es
