-- A text with an empty line, a comment and blanks of every kind, the words that it tells, and the lines on which they stand; lines that are wrong
-- behind the coordinates; a text in the new form, and what is wrong with texts in one form or the other.
use Rattle.std.specs.Prelude.{◌≡◌, refl, List, [], ◌∷◌, ◌++◌, map, ℕ}
use Rattle.std.proofs.Math.Option.{none, some}
use Rattle.catalogue_rules.specs.Catalogue.{old}
use Rattle.catalogue_rules.specs.Word.{head, coordinate, see, end, draft, head_number, head_size}
use Rattle.text_parts.specs.Tokens.{token_at}
use Rattle.text_parts.specs.Parts.{taken_at}
use Rattle.text_rules.specs.Encoding.{lines_of, line_from, encoded, told_holding}

-- "9 2 2 ; 2 0 0 3 ; 12", " # no entry", an empty line, "7\t1 1 ;-5#5\r", "8 1 1 ; 6 ;draft" and "6 1 1 ; 6 ; draft ; 7"
pub text : List ℕ
text =
    57 ∷ 32 ∷ 50 ∷ 32 ∷ 50 ∷ 32 ∷ 59 ∷ 32 ∷ 50 ∷ 32 ∷ 48 ∷ 32 ∷ 48 ∷ 32 ∷ 51 ∷ 32 ∷ 59 ∷ 32 ∷ 49 ∷ 50 ∷ 10
    ∷ 32 ∷ 35 ∷ 32 ∷ 110 ∷ 111 ∷ 32 ∷ 101 ∷ 110 ∷ 116 ∷ 114 ∷ 121 ∷ 10
    ∷ 10
    ∷ 55 ∷ 9 ∷ 49 ∷ 32 ∷ 49 ∷ 32 ∷ 59 ∷ 45 ∷ 53 ∷ 35 ∷ 53 ∷ 13 ∷ 10
    ∷ 56 ∷ 32 ∷ 49 ∷ 32 ∷ 49 ∷ 32 ∷ 59 ∷ 32 ∷ 54 ∷ 32 ∷ 59 ∷ 100 ∷ 114 ∷ 97 ∷ 102 ∷ 116 ∷ 10
    ∷ 54 ∷ 32 ∷ 49 ∷ 32 ∷ 49 ∷ 32 ∷ 59 ∷ 32 ∷ 54 ∷ 32 ∷ 59 ∷ 32 ∷ 100 ∷ 114 ∷ 97 ∷ 102 ∷ 116 ∷ 32 ∷ 59 ∷ 32 ∷ 55 ∷ 10
    ∷ []

pub told : encoded text ≡ some
    (head 9 2 2 ∷ coordinate 20002 ∷ coordinate 20000 ∷ coordinate 20000 ∷ coordinate 20003 ∷ see 12
    ∷ head 7 1 1 ∷ coordinate 19995
    ∷ head 8 1 1 ∷ coordinate 20006 ∷ draft 1
    ∷ head 6 1 1 ∷ coordinate 20006 ∷ draft 1 ∷ see 7
    ∷ end 4 ∷ [])
unfolding text encoded line_from taken_at token_at
told = refl

-- the first entry has the words 0 to 5, the next ones 6 and 7, 8 to 10, 11 to 14; the end word is of no line
pub holding : map (told_holding (lines_of text)) (0 ∷ 5 ∷ 6 ∷ 7 ∷ 8 ∷ 10 ∷ 11 ∷ 14 ∷ 15 ∷ []) ≡ 1 ∷ 1 ∷ 4 ∷ 4 ∷ 5 ∷ 5 ∷ 6 ∷ 6 ∷ 0 ∷ []
unfolding text line_from taken_at token_at
holding = refl

-- ---- marks that are wrong

-- "7 1 1 ; 1 ;" and what follows it
abbrev followed_by : List ℕ → List ℕ
followed_by s = (55 ∷ 32 ∷ 49 ∷ 32 ∷ 49 ∷ 32 ∷ 59 ∷ 32 ∷ 49 ∷ 32 ∷ 59 ∷ []) ++ s

-- " drafts", " draft 7", " 7 ; draft", " draft ; draft", " draft ;" and " Draft"
pub wrong_marks : List (List ℕ)
wrong_marks =
    (32 ∷ 100 ∷ 114 ∷ 97 ∷ 102 ∷ 116 ∷ 115 ∷ [])
    ∷ (32 ∷ 100 ∷ 114 ∷ 97 ∷ 102 ∷ 116 ∷ 32 ∷ 55 ∷ [])
    ∷ (32 ∷ 55 ∷ 32 ∷ 59 ∷ 32 ∷ 100 ∷ 114 ∷ 97 ∷ 102 ∷ 116 ∷ [])
    ∷ (32 ∷ 100 ∷ 114 ∷ 97 ∷ 102 ∷ 116 ∷ 32 ∷ 59 ∷ 32 ∷ 100 ∷ 114 ∷ 97 ∷ 102 ∷ 116 ∷ [])
    ∷ (32 ∷ 100 ∷ 114 ∷ 97 ∷ 102 ∷ 116 ∷ 32 ∷ 59 ∷ [])
    ∷ (32 ∷ 68 ∷ 114 ∷ 97 ∷ 102 ∷ 116 ∷ [])
    ∷ []

pub wrong-marks : map (λ s. line_from old (followed_by s)) wrong_marks ≡ none ∷ none ∷ none ∷ none ∷ none ∷ none ∷ []
unfolding wrong_marks line_from taken_at token_at
wrong-marks = refl

-- ---- the new form

-- "\t new # the form", "1048576 1 2 ; 5 0", an empty line and "268435455 1 1 ; -6 ; draft ; 1048576"
pub new_text : List ℕ
new_text =
    9 ∷ 32 ∷ 110 ∷ 101 ∷ 119 ∷ 32 ∷ 35 ∷ 32 ∷ 116 ∷ 104 ∷ 101 ∷ 32 ∷ 102 ∷ 111 ∷ 114 ∷ 109 ∷ 10
    ∷ 49 ∷ 48 ∷ 52 ∷ 56 ∷ 53 ∷ 55 ∷ 54 ∷ 32 ∷ 49 ∷ 32 ∷ 50 ∷ 32 ∷ 59 ∷ 32 ∷ 53 ∷ 32 ∷ 48 ∷ 10
    ∷ 10
    ∷ 50 ∷ 54 ∷ 56 ∷ 52 ∷ 51 ∷ 53 ∷ 52 ∷ 53 ∷ 53 ∷ 32 ∷ 49 ∷ 32 ∷ 49 ∷ 32 ∷ 59 ∷ 32 ∷ 45 ∷ 54 ∷ 32 ∷ 59 ∷ 32 ∷ 100 ∷ 114 ∷ 97 ∷ 102 ∷ 116 ∷ 32 ∷ 59 ∷ 32 ∷ 49 ∷ 48 ∷ 52 ∷ 56 ∷ 53 ∷ 55 ∷ 54 ∷ 10
    ∷ []

pub new_told : encoded new_text ≡ some
    (head_number 1048576 ∷ head_size 0 1 2 ∷ coordinate 20005 ∷ coordinate 20000
    ∷ head_number 268435455 ∷ head_size 0 1 1 ∷ coordinate 19994 ∷ draft 1 ∷ see 1048576
    ∷ end 2 ∷ [])
unfolding new_text encoded line_from taken_at token_at
new_told = refl

-- the first entry has the words 0 to 3, the other one 4 to 8; the line `new` is the first line
pub new-holding : map (told_holding (lines_of new_text)) (0 ∷ 1 ∷ 3 ∷ 4 ∷ 5 ∷ 8 ∷ 9 ∷ []) ≡ 2 ∷ 2 ∷ 2 ∷ 4 ∷ 4 ∷ 4 ∷ 0 ∷ []
unfolding new_text line_from taken_at token_at
new-holding = refl

-- "new" alone, and nothing
pub no-entries : map encoded ((110 ∷ 101 ∷ 119 ∷ []) ∷ [] ∷ []) ≡ some (end 0 ∷ []) ∷ some (end 0 ∷ []) ∷ []
unfolding encoded line_from taken_at token_at
no-entries = refl

-- "7 1 1 ; 1\nnew", "\nnew\n", "new\nnew\n", "New", "news", "new 1", "new;", "new\n268435456 1 1 ; 1\n" and "1048576 1 1 ; 1\n"
pub wrong_texts : List (List ℕ)
wrong_texts =
    (55 ∷ 32 ∷ 49 ∷ 32 ∷ 49 ∷ 32 ∷ 59 ∷ 32 ∷ 49 ∷ 10 ∷ 110 ∷ 101 ∷ 119 ∷ [])
    ∷ (10 ∷ 110 ∷ 101 ∷ 119 ∷ 10 ∷ [])
    ∷ (110 ∷ 101 ∷ 119 ∷ 10 ∷ 110 ∷ 101 ∷ 119 ∷ 10 ∷ [])
    ∷ (78 ∷ 101 ∷ 119 ∷ [])
    ∷ (110 ∷ 101 ∷ 119 ∷ 115 ∷ [])
    ∷ (110 ∷ 101 ∷ 119 ∷ 32 ∷ 49 ∷ [])
    ∷ (110 ∷ 101 ∷ 119 ∷ 59 ∷ [])
    ∷ (110 ∷ 101 ∷ 119 ∷ 10 ∷ 50 ∷ 54 ∷ 56 ∷ 52 ∷ 51 ∷ 53 ∷ 52 ∷ 53 ∷ 54 ∷ 32 ∷ 49 ∷ 32 ∷ 49 ∷ 32 ∷ 59 ∷ 32 ∷ 49 ∷ 10 ∷ [])
    ∷ (49 ∷ 48 ∷ 52 ∷ 56 ∷ 53 ∷ 55 ∷ 54 ∷ 32 ∷ 49 ∷ 32 ∷ 49 ∷ 32 ∷ 59 ∷ 32 ∷ 49 ∷ 10 ∷ [])
    ∷ []

pub wrong-texts : map encoded wrong_texts ≡ none ∷ none ∷ none ∷ none ∷ none ∷ none ∷ none ∷ none ∷ none ∷ []
unfolding wrong_texts encoded line_from taken_at token_at
wrong-texts = refl
