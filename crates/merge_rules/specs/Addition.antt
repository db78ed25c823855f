-- An addition (document 02, ask 7): "one entry's bytes in the new form, with no end word", read after the entries that were added before by the steps
-- of reading a file.
use Rattle.std.specs.Prelude.{Bool, true, false, not, ◌&&◌, ◌||◌, List, [], ◌∷◌, ℕ, suc, ◌%◌, eqb, length}
use Rattle.std.proofs.Math.Option.{none, some}
use Rattle.integers.specs.First.{first_given}
use Rattle.catalogue_rules.specs.Word.{Word, kind_of, decode, words_of}
use Rattle.catalogue_rules.specs.Catalogue.{new, head_kind, Entry, Outcome, refused, accepted}
use Rattle.catalogue_rules.specs.Read.{State, outside, numbered, inside, after, closed, Step, next, stop, checked, with_entry, step, dependent_at}

-- R19.4: "a first word not of kind 6 and a word after the entry give 10": n entries were there before; ahead of the coordinates only a head in the new
-- form may stand, and after them only a mark and a see word
abbrev pub may_stand : ℕ → State → Word → Bool
may_stand n (outside es) w = eqb (length es) n && eqb (kind_of w) (head_kind new)
may_stand n (numbered es k p) w = true
may_stand n (inside es h vs v) w = true
may_stand n (after es h vs marked) w = eqb (kind_of w) 5 || eqb (kind_of w) 3
may_stand n (closed es) w = false

-- R19.3: the word at index i of the bytes handed over, judged "as a file would be that held the earlier additions before it"
abbrev pub add_step : ℕ → State → ℕ → Word → Step
add_step n s i w = elim (may_stand n s w) [ true ↦ step s i w | false ↦ stop 10 ]

-- R19.4: no word is left: the entry is whole, or 10 "where one is due", at the number of words
abbrev pub add_last : ℕ → State → ℕ → Outcome
add_last n (outside es) i = elim (eqb (length es) n) [ true ↦ refused 10 i | false ↦ accepted es ]
add_last n (numbered es k p) i = refused 10 i
add_last n (inside es h vs v) i = refused 10 i
add_last n (after es h vs marked) i = accepted (with_entry es h vs marked none)
add_last n (closed es) i = refused 10 i

-- R19.3: the words from index i on
unfoldable pub add_words : ℕ → State → ℕ → List ℕ → Outcome
add_words n s i [] = add_last n s i
add_words n s i (w ∷ words) = elim (add_step n s i (decode w)) [ next t ↦ add_words n t (suc i) words | stop k ↦ refused k i ]

-- R19.3: "then 5", at the head
abbrev pub after_addition : Outcome → Outcome
after_addition (refused n p) = refused n p
after_addition (accepted es) = elim (first_given dependent_at es) [ some p ↦ refused 5 p | none ↦ accepted es ]

-- R19.3: "by 8, then word by word, then 5"; 9 is never given
abbrev pub addition_rows : List ℕ → List (Bool × ℕ)
addition_rows bytes = (not (eqb (length bytes % 4) 0), 8) ∷ []

-- R19.3: the bytes of one entry after the entries es: a refusal, "with places counted in the bytes handed over", or those entries with the new one
unfoldable pub addition : List Entry → List ℕ → Outcome
addition es bytes = checked (λ n. refused n 0) (addition_rows bytes) (after_addition (add_words (length es) (outside es) 0 (words_of bytes)))
