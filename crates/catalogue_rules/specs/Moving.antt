-- The two moves between the forms (document 02, ask 6): a file is read, the heads of its entries are put into the other form, and it is written to a
-- lent output.
use Rattle.std.specs.Prelude.{Bool, true, false, List, [], ◌∷◌, ◌++◌, map, ℕ, ltb}
use Rattle.std.proofs.Math.Option.{Option, none, some}
use Rattle.integers.specs.First.{first_given}
use Rattle.catalogue_rules.specs.Word.{words_of}
use Rattle.catalogue_rules.specs.Catalogue.{Form, old, most_number, Head, Entry, Outcome, refused, accepted}
use Rattle.catalogue_rules.specs.Read.{checked, opens_in, file_rows, read_all}
use Rattle.catalogue_rules.specs.Form.{see_at, placed}
use Rattle.catalogue_rules.specs.Output.{Output, output}

-- R18.1: a head in this form
abbrev pub head_in : Form → Head → Head
head_in f h = record { form = f; number = h.number; d = h.d; m = h.m; place = h.place }

-- R18.1: "changing nothing but the heads"
abbrev pub entry_to_form : Form → Entry → Entry
entry_to_form f e = record { head = head_in f e.head; vectors = e.vectors; draft = e.draft; see = e.see }

-- R18.1: each word at its new place
abbrev pub to_form : Form → List Entry → List Entry
to_form f es = placed 0 (map (entry_to_form f) es)

-- R18.3: "A move handed the wrong form gives 10 at its first head": a file whose first word is a head of the form that is to be written. It is judged
-- after 8 and 9, before any other word
abbrev pub move_rows : Form → List ℕ → List (Bool × ℕ)
move_rows f bytes = file_rows bytes ++ ((opens_in f (words_of bytes), 10) ∷ [])

-- R18.2, R18.3: otherwise a file is read as ever
abbrev pub read_to_move : Form → List ℕ → Outcome
read_to_move f bytes = checked (λ n. refused n 0) (move_rows f bytes) (read_all bytes)

-- R9.19: a number for which the form has no room, at its head
abbrev pub over_at : Form → Entry → Option ℕ
over_at f e = elim (ltb (most_number f) e.head.number) [ true ↦ some e.head.place | false ↦ none ]

-- R9.19: "19 when the way back meets a number over 1,048,575, at the first such head, after 12 and before 16"
abbrev pub moved : Form → Outcome → Outcome
moved f (refused n p) = refused n p
moved f (accepted es) = elim (first_given (over_at f) es) [ some p ↦ refused 19 p | none ↦ accepted (to_form f es) ]

-- R18: the move of a file to a form, written to a lent output
unfoldable pub move_of : Form → (file out : List ℕ) → Output
move_of f file out = output (moved f (read_to_move f file)) out

-- R18.4: an entry without what a move may change: the form of its head, and where its words stand
abbrev pub bare : Entry → Entry
bare e = record { head = record { form = old; number = e.head.number; d = e.head.d; m = e.head.m; place = 0 }; vectors = e.vectors; draft = e.draft; see = see_at 0 e.see }
