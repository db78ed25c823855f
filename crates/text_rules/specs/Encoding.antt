-- The words that a text tells: of each line that is not blank those of an entry, then the end word; none where a line is wrong. What stands
-- behind a `#` is a comment. The entries are in the new form where the first line is `new`.
use Rattle.std.specs.Prelude.{Bool, true, false, cond, not, ◌&&◌, ◌||◌, List, [], ◌∷◌, ◌++◌, map, ℕ, zero, suc, ◌+◌, ◌-◌, ◌*◌, eqb, leb, ltb, ℤ, pos, negsuc, nat_abs, length, take, drop}
use Rattle.std.proofs.Math.Option.{Option, none, some}
use Rattle.lattices.specs.Vector.{nth}
use Rattle.integers.specs.Every.{any}
use Rattle.lattices.specs.Refusal.{most_size}
use Rattle.catalogue_rules.specs.Catalogue.{Form, old, new, most_number}
use Rattle.catalogue_rules.specs.Word.{Word, see, end, draft}
use Rattle.catalogue_rules.specs.Write.{head_words_in, coordinate_word}
use Rattle.text_parts.specs.declared.Kind.{Kind}
use Rattle.text_parts.specs.Numbers.{leading}
use Rattle.text_parts.specs.Tokens.{is_blank, token_at}
use Rattle.text_parts.specs.Parts.{is_semicolon, is_end, Taken, taken_at}
use Rattle.text_rules.specs.Text.{draft_word, new_word}

-- ---- a line

-- R13.4: from 0 to the most that a field holds
abbrev pub fits : ℕ → ℤ → Bool
fits most (pos n) = leb n most
fits most (negsuc n) = false

abbrev pub at : List ℤ → ℕ → ℕ
at zs i = nat_abs (nth zs i)

-- R13.4: the see word of the last part: one number that fits the word, and nothing behind it
abbrev pub is_see : Taken → Bool
is_see p = is_end p.stop && (eqb (length p.numbers) 1 && fits 268435455 (nth p.numbers 0))

-- R13.1, R13.4
abbrev pub see_from : Taken → Option (List Word)
see_from p = cond (is_see p) (some (see (at p.numbers 0) ∷ [])) none

-- R13.1, R13.4: nothing, or a semicolon and the see word
abbrev pub last_from : Kind → List ℕ → Option (List Word)
last_from k s = cond (is_end k) (some []) (cond (is_semicolon k) (see_from (taken_at 1 s)) none)

abbrev pub before : List Word → Option (List Word) → Option (List Word)
before ws none = none
before ws (some us) = some (ws ++ us)

-- R13.1: the bytes begin with these
abbrev pub begins_with : List ℕ → List ℕ → Bool
begins_with [] s = true
begins_with (a ∷ word) [] = false
begins_with (a ∷ word) (b ∷ s) = eqb b a && begins_with word s

-- R13.1: `draft`, with the blanks before it
abbrev pub is_draft : List ℕ → Bool
is_draft s = begins_with draft_word (drop (leading is_blank s) s)

-- R13.1: what stands behind it
abbrev pub past_draft : List ℕ → List ℕ
past_draft s = drop (leading is_blank s + length draft_word) s

-- R13.1, R13.4: behind `draft` its part ends
abbrev pub after_draft : List ℕ → Option (List Word)
after_draft s = let t = token_at s in last_from t.kind (drop t.length s)

-- R13.1, R13.4: the part behind the coordinates: `draft` and what follows it, or the see word
abbrev pub mark_from : List ℕ → Option (List Word)
mark_from s = cond (is_draft s) (before (draft 1 ∷ []) (after_draft (past_draft s))) (see_from (taken_at 1 s))

-- R13.1, R13.4: what follows the coordinates: nothing, or a semicolon and that part
abbrev pub rest_from : Kind → List ℕ → Option (List Word)
rest_from k s = cond (is_end k) (some []) (cond (is_semicolon k) (mark_from s) none)

-- R13.4: so many coordinates within the limit, and what follows them
abbrev pub are_coordinates : ℕ → List ℤ → Bool
are_coordinates n zs = eqb (length zs) n && not (any (λ z. ltb most_size (nat_abs z)) zs)

-- R13.1, R13.4
abbrev pub coordinates_from : ℕ → Taken → List ℕ → Option (List Word)
coordinates_from n p s = cond (are_coordinates n p.numbers) (before (map coordinate_word p.numbers) (rest_from p.stop (drop p.length s))) none

-- R13.4: d and m have four bits each in a head, so no more coordinates than these are asked for; whether d and m can be is left to reading
abbrev pub most_numbers : ℕ
most_numbers = 225

-- R13.4: number, d and m that fit a head of the form, up to a semicolon; d times m coordinates follow
abbrev pub is_head : Form → Taken → Bool
is_head f p =
    is_semicolon p.stop
    && (eqb (length p.numbers) 3 && (fits (most_number f) (nth p.numbers 0) && (fits 15 (nth p.numbers 1) && fits 15 (nth p.numbers 2))))

-- R13.1, R13.4
abbrev pub head_from : Form → Taken → List ℕ → Option (List Word)
head_from f p s =
    let zs = p.numbers in
    cond (is_head f p) (before (head_words_in f (at zs 0) (at zs 1) (at zs 2)) (coordinates_from (at zs 1 * at zs 2) (taken_at most_numbers s) s)) none

-- R13.1, R13.4
unfoldable pub line_from : Form → List ℕ → Option (List Word)
line_from f s = let p = taken_at 3 s in head_from f p (drop p.length s)

-- ---- lines

-- R13.3
abbrev pub onto : ℕ → List (List ℕ) → List (List ℕ)
onto b [] = (b ∷ []) ∷ []
onto b (l ∷ ls) = (b ∷ l) ∷ ls

-- R13.3: the lines of a text: what stands between newlines
abbrev pub lines_of : List ℕ → List (List ℕ)
lines_of [] = [] ∷ []
lines_of (b ∷ s) = cond (eqb b 10) ([] ∷ lines_of s) (onto b (lines_of s))

-- R13.3: a line without its comment
abbrev pub is_text : ℕ → Bool
is_text b = not (eqb b 35)

-- R13.3
abbrev pub content : List ℕ → List ℕ
content s = take (leading is_text s) s

-- R13.3: nothing but blanks
abbrev pub is_empty : List ℕ → Bool
is_empty s = eqb (leading is_blank s) (length s)

-- ---- the form

-- R13.9: a line without its comment that is `new`, with nothing but blanks around it
abbrev pub is_new_text : List ℕ → Bool
is_new_text s = let n = leading is_blank s in begins_with new_word (drop n s) && is_empty (drop (n + length new_word) s)

-- R13.9
abbrev pub is_new : List ℕ → Bool
is_new s = is_new_text (content s)

-- R13.9: the form that the first line of a text tells
abbrev pub form_told : List (List ℕ) → Form
form_told [] = old
form_told (l ∷ ls) = cond (is_new l) new old

-- R13.9: the lines of the entries: `new` on the first line is passed over as nothing is on a blank one
abbrev pub entry_lines : List (List ℕ) → List (List ℕ)
entry_lines [] = []
entry_lines (l ∷ ls) = cond (is_new l) [] l ∷ ls

-- ---- entries

-- R13.5
abbrev pub is_wrong : Option (List Word) → Bool
is_wrong none = true
is_wrong (some ws) = false

-- R13.5
abbrev pub listed : Option (List Word) → List (List Word)
listed none = []
listed (some ws) = ws ∷ []

-- R13.5: whether a line is wrong, and the words of its entry; a line without content is right and has none
abbrev pub line_wrong : Form → List ℕ → Bool
line_wrong f s = cond (is_empty (content s)) false (is_wrong (line_from f (content s)))

-- R13.5
abbrev pub line_entry : Form → List ℕ → List (List Word)
line_entry f s = cond (is_empty (content s)) [] (listed (line_from f (content s)))

-- R13.5
abbrev pub any_wrong : Form → List (List ℕ) → Bool
any_wrong f [] = false
any_wrong f (l ∷ ls) = line_wrong f l || any_wrong f ls

-- R13.5
abbrev pub entries_from : Form → List (List ℕ) → List (List Word)
entries_from f [] = []
entries_from f (l ∷ ls) = line_entry f l ++ entries_from f ls

-- R13.5
abbrev pub joined : List (List Word) → List Word
joined [] = []
joined (ws ∷ more) = ws ++ joined more

-- R13.5: with the end word behind them
abbrev pub ended : List (List Word) → List Word
ended entries = joined entries ++ (end (length entries) ∷ [])

-- R13.5, R13.9: whether a line of a text is wrong, and the entries that its lines tell
abbrev pub told_wrong : List (List ℕ) → Bool
told_wrong ls = any_wrong (form_told ls) (entry_lines ls)

-- R13.5, R13.9
abbrev pub told_entries : List (List ℕ) → List (List Word)
told_entries ls = entries_from (form_told ls) (entry_lines ls)

-- R13.5
unfoldable pub encoded : List ℕ → Option (List Word)
encoded text = let ls = lines_of text in cond (told_wrong ls) none (some (ended (told_entries ls)))

-- ---- where a word stands

-- R13.7
abbrev pub line_words : Form → List ℕ → ℕ
line_words f s = length (joined (line_entry f s))

-- R13.7: one line further down, where there is a line
abbrev pub further : ℕ → ℕ
further zero = 0
further (suc n) = suc (suc n)

-- R13.7: the line, from 1, whose entry holds the word with this index; 0 for none, as for the end word
abbrev pub line_holding : Form → List (List ℕ) → ℕ → ℕ
line_holding f [] k = 0
line_holding f (l ∷ ls) k = cond (ltb k (line_words f l)) 1 (further (line_holding f ls (k - line_words f l)))

-- R13.7, R13.9: of the lines of a text, of which `new` is one
abbrev pub told_holding : List (List ℕ) → ℕ → ℕ
told_holding ls k = line_holding (form_told ls) (entry_lines ls) k
