-- The parts of a line, one case of the definition after another.
use Rattle.std.specs.Prelude.{◌≡◌, refl, Bool, true, false, ◌&&◌, ◌||◌, List, [], ◌∷◌, ◌++◌, map, ℕ, eqb, length, drop, None, Some}
use Rattle.std.specs.Prelude.{Option as Maybe}
use Rattle.std.proofs.Common.{sym, ◌∙◌}
use Rattle.std.proofs.Math.Path.{ap}
use Rattle.std.proofs.Math.Bool.{cond}
use Rattle.std.proofs.lemmas.Bool.{false≢true}
use Rattle.std.proofs.lemmas.List.{map-append}
use Rattle.std.proofs.Math.Option.{Option, none, some}
use Rattle.integers.specs.Tests.{neither, both}
use Rattle.lattices.specs.Vector.{nth}
use Rattle.catalogue_rules.specs.Catalogue.{Form, old, new, most_number}
use Rattle.catalogue_rules.specs.Word.{Word, see, draft, encode}
use Rattle.catalogue_rules.specs.Write.{head_words_in, draft_words}
use Rattle.text_parts.specs.declared.Kind.{Kind}
use Rattle.text_parts.specs.Tokens.{token_at}
use Rattle.text_parts.specs.Parts.{is_end, is_semicolon, Taken, taken_at}
use Rattle.text_rules.specs.Encoding.{fits, at, is_see, see_from, before, is_draft, past_draft, after_draft, mark_from, rest_from, is_head}
use Rattle.text_lines.specs.declared.Head.{Head}
use Rattle.text_lines.specs.declared.Rest.{Rest}
use Rattle.text_lines.specs.Told.{is_last, last_see, end_rest, see_rest, last_rest, mark_rest, rest_read, head_told, word_told, draft_told, encoded_line, behind}

pub told-before : (ws : List Word) (o : Option (List Word)) → behind (map encode ws) (encoded_line o) ≡ encoded_line (before ws o)
told-before ws none = refl
told-before ws (some us) = ap some (sym (map-append encode ws us))

-- ---- the head

abbrev pub head_numbers : Head → List ℕ
head_numbers h = h.first ∷ word_told h.size

pub head-told : (f : Form) (n d m : ℕ) → head_numbers (head_told f n d m) ≡ map encode (head_words_in f n d m)
head-told old n d m = refl
head-told new n d m = refl

-- ---- what follows the coordinates, as numbers

abbrev pub rest_told : Maybe Rest → Option (List ℕ)
rest_told None = none
rest_told (Some r) = some (draft_told r.draft ++ word_told r.see)

-- a see word or none, behind the mark or without it
told-see : (b : Bool) (n : ℕ) (t : Bool) → rest_told (see_rest b (cond t (Some (encode (see n))) None)) ≡ encoded_line (before (draft_words b) (cond t (some (see n ∷ [])) none))
told-see b n true = told-before (draft_words b) (some (see n ∷ []))
told-see b n false = refl

see-told : (b : Bool) (p : Taken) → rest_told (see_rest b (last_see p)) ≡ encoded_line (before (draft_words b) (see_from p))
see-told b p = told-see b (at p.numbers 0) (is_see p)

last-told : (s : List ℕ) → rest_told (last_rest s) ≡ encoded_line (before (draft 1 ∷ []) (after_draft s))
last-told s = go (is_end (token_at s).kind) (is_semicolon (token_at s).kind)
  where
    p : Taken
    p = taken_at 1 (drop (token_at s).length s)

    go : (ended more : Bool)
        → rest_told (cond ended (Some (end_rest true)) (cond more (see_rest true (last_see p)) None)) ≡ encoded_line (before (draft 1 ∷ []) (cond ended (some []) (cond more (see_from p) none)))
    go true more = refl
    go false true = see-told true p
    go false false = refl

before-none : (o : Option (List Word)) → before [] o ≡ o
before-none none = refl
before-none (some ws) = refl

mark-told : (s : List ℕ) → rest_told (mark_rest s) ≡ encoded_line (mark_from s)
mark-told s = go (is_draft s)
  where
    p : Taken
    p = taken_at 1 s

    go : (b : Bool) → rest_told (cond b (last_rest (past_draft s)) (see_rest false (last_see p))) ≡ encoded_line (cond b (before (draft 1 ∷ []) (after_draft (past_draft s))) (see_from p))
    go true = last-told (past_draft s)
    go false = see-told false p ∙ ap encoded_line (before-none (see_from p))

-- where they may stop as they do
pub rest-told : (k : Kind) (s : List ℕ) → is_last k ≡ true → rest_told (rest_read k s) ≡ encoded_line (rest_from k s)
rest-told k s = go (is_end k) (is_semicolon k)
  where
    go : (ended more : Bool) → ended || more ≡ true → rest_told (cond ended (Some (end_rest false)) (mark_rest s)) ≡ encoded_line (cond ended (some []) (cond more (mark_from s) none))
    go true more e = refl
    go false true e = mark-told s
    go false false e = absurd (false≢true e)

pub rest-wrong : (k : Kind) (s : List ℕ) → is_last k ≡ false → rest_from k s ≡ none
rest-wrong k s e =
    let n = neither (is_end k) (is_semicolon k) e in
    λ i. cond (n.0 i) (some []) (cond (n.1 i) (mark_from s) none)

-- ---- the line

pub head-fits : (f : Form) (p : Taken) → is_head f p ≡ true → (fits (most_number f) (nth p.numbers 0) ≡ true) × ((fits 15 (nth p.numbers 1) ≡ true) × (fits 15 (nth p.numbers 2) ≡ true))
head-fits f p e =
    let number = fits (most_number f) (nth p.numbers 0) in
    let d = fits 15 (nth p.numbers 1) in
    let m = fits 15 (nth p.numbers 2) in
    let three = eqb (length p.numbers) 3 in
    let all = (both three (number && (d && m)) (both (is_semicolon p.stop) (three && (number && (d && m))) e).1).1 in
    let n = both number (d && m) all in
    (n.0, both d m n.1)
