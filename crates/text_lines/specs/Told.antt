-- What is read of a line, for every line: its words as numbers, or what is wrong with it, or nothing. Coordinates that are not used hold 0.
use Rattle.std.specs.Prelude.{Bool, true, false, cond, ◌&&◌, ◌||◌, List, [], ◌∷◌, ◌++◌, map, ℕ, ◌-◌, ◌*◌, eqb, ℤ, length, take, drop, replicate, None, Some, Result, Ok, Err}
use Rattle.std.specs.Prelude.{Option as Maybe}
use Rattle.std.proofs.Math.Option.{Option, none, some}
use Rattle.lattices.specs.Vector.{nth}
use Rattle.integers.specs.Every.{any}
use Rattle.catalogue_rules.specs.Catalogue.{Form, old, new, most_number}
use Rattle.catalogue_rules.specs.Word.{Word, head, see, head_number, head_size, encode}
use Rattle.catalogue_rules.specs.Write.{encoded_coordinates, draft_words}
use Rattle.input_checks.specs.Any.{beyond}
use Rattle.text_parts.specs.declared.Kind.{Kind}
use Rattle.text_parts.specs.Tokens.{token_at}
use Rattle.text_parts.specs.Parts.{is_end, is_semicolon, Taken, taken_at}
use Rattle.text_rules.specs.Encoding.{fits, at, is_see, is_draft, past_draft, most_numbers, content, is_empty}
use Rattle.text_lines.specs.declared.Mistake.{Mistake}
use Rattle.text_lines.specs.declared.Mistake.TheVariants.{PartMissing, TooLarge, TooMany, NoNumber, NotThree, NoHead, NotAll, Beyond, NoSee}
use Rattle.text_lines.specs.declared.Head.{Head}
use Rattle.text_lines.specs.declared.Line.{Line}
use Rattle.text_lines.specs.declared.Rest.{Rest}
use Rattle.text_lines.specs.Stops.{is_large, is_many}

-- ---- lines

-- a head, coordinates and what follows them
abbrev pub right_line : Head → List ℤ → Rest → Line
right_line h zs r = record {
  head = h.first;
  size = h.size;
  count = length zs;
  coordinates = encoded_coordinates zs ++ replicate (most_numbers - length zs) 0;
  draft = r.draft;
  see = r.see;
}

-- ---- what is wrong, the first that applies

-- where a part stops in a way that it may not
abbrev pub stop_mistake : Kind → Mistake
stop_mistake k = cond (is_end k) PartMissing (cond (is_large k) TooLarge (cond (is_many k) TooMany NoNumber))

abbrev pub head_checked : Form → Kind → ℕ → ℤ → ℤ → ℤ → Result (Unit {0}) Mistake
head_checked f stop count number d m =
    cond (is_semicolon stop) (cond (eqb count 3) (cond (fits (most_number f) number && (fits 15 d && fits 15 m)) (Ok tt) (Err NoHead)) (Err NotThree)) (Err (stop_mistake stop))

-- ---- the head

-- its words in a form
abbrev pub head_told : Form → ℕ → ℕ → ℕ → Head
head_told old n d m = record { first = encode (head n d m); size = None }
head_told new n d m = record { first = encode (head_number n); size = Some (encode (head_size 0 d m)) }

-- ---- what follows the coordinates

-- how they may stop
abbrev pub is_last : Kind → Bool
is_last k = is_end k || is_semicolon k

-- the see word of the last part
abbrev pub last_see : Taken → Maybe ℕ
last_see p = cond (is_see p) (Some (encode (see (at p.numbers 0)))) None

-- nothing more, behind the mark or without it
abbrev pub end_rest : Bool → Rest
end_rest draft = record { draft = draft; see = None }

-- a part that is a see word
abbrev pub see_rest : Bool → Maybe ℕ → Maybe Rest
see_rest draft None = None
see_rest draft (Some n) = Some (record { draft = draft; see = Some n })

-- behind the mark
abbrev pub last_rest : List ℕ → Maybe Rest
last_rest s =
    let t = token_at s in
    cond (is_end t.kind) (Some (end_rest true)) (cond (is_semicolon t.kind) (see_rest true (last_see (taken_at 1 (drop t.length s)))) None)

-- the mark and what follows it, or a see word
abbrev pub mark_rest : List ℕ → Maybe Rest
mark_rest s = cond (is_draft s) (last_rest (past_draft s)) (see_rest false (last_see (taken_at 1 s)))

abbrev pub rest_read : Kind → List ℕ → Maybe Rest
rest_read k s = cond (is_end k) (Some (end_rest false)) (mark_rest s)

-- ---- all parts

abbrev pub followed_read : Head → List ℤ → Maybe Rest → Result Line Mistake
followed_read h zs None = Err NoSee
followed_read h zs (Some r) = Ok (right_line h zs r)

-- n coordinates, and what follows them
abbrev pub parts_read : Head → ℕ → Taken → List ℕ → Result Line Mistake
parts_read h n p s =
    cond (is_last p.stop)
    (cond (eqb (length p.numbers) n) (cond (any beyond p.numbers) (Err Beyond) (followed_read h p.numbers (rest_read p.stop (drop p.length s)))) (Err NotAll))
    (Err (stop_mistake p.stop))

-- the head, then the other parts
abbrev pub head_read : Form → Result (Unit {0}) Mistake → Taken → List ℕ → Result Line Mistake
head_read f (Err mistake) p s = Err mistake
head_read f (Ok u) p s =
    let zs = p.numbers in parts_read (head_told f (at zs 0) (at zs 1) (at zs 2)) (at zs 1 * at zs 2) (taken_at most_numbers s) s

unfoldable pub content_read : Form → List ℕ → Result Line Mistake
content_read f s =
    let p = taken_at 3 s in
    let zs = p.numbers in
    head_read f (head_checked f p.stop (length zs) (nth zs 0) (nth zs 1) (nth zs 2)) p (drop p.length s)

-- a line that is not blank
abbrev pub shown : Result Line Mistake → Result (Maybe Line) Mistake
shown (Ok l) = Ok (Some l)
shown (Err mistake) = Err mistake

abbrev pub text_read : Form → List ℕ → Result (Maybe Line) Mistake
text_read f s = cond (is_empty s) (Ok None) (shown (content_read f s))

-- the line that stands before a comment
abbrev pub line_read : Form → List ℕ → Result (Maybe Line) Mistake
line_read f s = text_read f (content s)

-- ---- its words

-- a word, or none
abbrev pub word_told : Maybe ℕ → List ℕ
word_told None = []
word_told (Some n) = n ∷ []

-- the mark, or none
abbrev pub draft_told : Bool → List ℕ
draft_told b = map encode (draft_words b)

abbrev pub words_in : Line → List ℕ
words_in l = l.head ∷ (word_told l.size ++ (take l.count l.coordinates ++ (draft_told l.draft ++ word_told l.see)))

-- if nothing is wrong
abbrev pub told : Result Line Mistake → Option (List ℕ)
told (Ok l) = some (words_in l)
told (Err mistake) = none

-- the same of a line that may be blank
abbrev pub words_told : Result (Maybe Line) Mistake → Option (List ℕ)
words_told (Ok (Some l)) = some (words_in l)
words_told (Ok None) = none
words_told (Err mistake) = none

-- whether it was
abbrev pub blank_told : Result (Maybe Line) Mistake → Bool
blank_told (Ok (Some l)) = false
blank_told (Ok None) = true
blank_told (Err mistake) = false

abbrev pub encoded_line : Option (List Word) → Option (List ℕ)
encoded_line none = none
encoded_line (some ws) = some (map encode ws)

abbrev pub behind : List ℕ → Option (List ℕ) → Option (List ℕ)
behind ws none = none
behind ws (some us) = some (ws ++ us)
