-- What is read of a line is what the rules of text say.
use Rattle.std.specs.Prelude.{◌≡◌, refl, Bool, true, false, not, ◌&&◌, List, ◌++◌, map, ℕ, ◌-◌, ◌*◌, eqb, ℤ, length, drop, replicate, None, Some, Result, Ok, Err, is_ok}
use Rattle.std.specs.Prelude.{Option as Maybe}
use Rattle.std.proofs.Math.Path.{sym}
use Rattle.std.proofs.Common.{ap, ◌∙◌, take_at, true≢false}
use Rattle.std.proofs.Math.Bool.{cond}
use Rattle.std.proofs.Math.Option.{Option, none, some}
use Rattle.std.proofs.lemmas.List.{length-map}
use Rattle.lattices.specs.Vector.{nth}
use Rattle.integers.specs.Every.{any}
use Rattle.catalogue_rules.specs.Catalogue.{Form, most_number}
use Rattle.catalogue_rules.specs.Word.{Word, encode}
use Rattle.catalogue_rules.specs.Write.{head_words_in, coordinate_word, encoded_coordinates}
use Rattle.input_checks.specs.Any.{beyond}
use Rattle.text_parts.specs.Parts.{is_semicolon, Taken, taken_at}
use Rattle.text_rules.specs.Encoding.{fits, at, before, rest_from, coordinates_from, most_numbers, is_head, line_from, content, is_empty}
use Rattle.text_lines.specs.declared.Mistake.{Mistake}
use Rattle.text_lines.specs.declared.Mistake.TheVariants.{NotThree, NoHead, NotAll, Beyond}
use Rattle.text_lines.specs.declared.Head.{Head}
use Rattle.text_lines.specs.declared.Line.{Line}
use Rattle.text_lines.specs.declared.Rest.{Rest}
use Rattle.text_lines.specs.Told.{right_line, stop_mistake, head_checked, head_told, is_last, rest_read, followed_read, parts_read, head_read, content_read, shown, line_read, word_told, draft_told, words_in, told, words_told, blank_told, encoded_line, behind}
use Rattle.text_lines.specs.Parts.{head_numbers, rest_told, told-before, head-told, rest-told, rest-wrong}

-- ---- the other parts

-- the words of a line that is right
right-told : (h : Head) (zs : List ℤ) (r : Rest) → told (Ok (right_line h zs r)) ≡ some (head_numbers h ++ (encoded_coordinates zs ++ (draft_told r.draft ++ word_told r.see)))
right-told h zs r =
    let long : length (encoded_coordinates zs) ≡ length zs = length-map (map coordinate_word zs) encode ∙ length-map zs coordinate_word in
    ap (λ l. some (head_numbers h ++ (l ++ (draft_told r.draft ++ word_told r.see)))) (take_at (encoded_coordinates zs) (replicate (most_numbers - length zs) 0) (length zs) long)

followed-told : (h : Head) (zs : List ℤ) (r : Maybe Rest) → told (followed_read h zs r) ≡ behind (head_numbers h) (behind (encoded_coordinates zs) (rest_told r))
followed-told h zs None = refl
followed-told h zs (Some r) = right-told h zs r

module _ (h : Head) (n : ℕ) (p : Taken) (s : List ℕ) where
  abbrev words : List Word
  words = map coordinate_word p.numbers

  abbrev more : List ℕ
  more = drop p.length s

  abbrev followed : Result Line Mistake
  followed = followed_read h p.numbers (rest_read p.stop more)

  -- so many coordinates within the limit, before what the rules say
  counted : (all far : Bool) → is_last p.stop ≡ true
      → told (cond all (cond far (Err Beyond) followed) (Err NotAll)) ≡ behind (head_numbers h) (encoded_line (cond (all && not far) (before words (rest_from p.stop more)) none))
  counted true true e = refl
  counted true false e =
      followed-told h p.numbers (rest_read p.stop more)
      ∙ ap (λ o. behind (head_numbers h) (behind (map encode words) o)) (rest-told p.stop more e)
      ∙ ap (behind (head_numbers h)) (told-before words (rest_from p.stop more))
  counted false far e = refl

  none_told : (b : Bool) → none ≡ behind (head_numbers h) (encoded_line (cond b (before words none) none))
  none_told true = refl
  none_told false = refl

  parts-told : told (parts_read h n p s) ≡ behind (head_numbers h) (encoded_line (coordinates_from n p s))
  parts-told = go (is_last p.stop) refl
    where
      all : Bool
      all = eqb (length p.numbers) n

      far : Bool
      far = any beyond p.numbers

      go : (b : Bool) → is_last p.stop ≡ b
          → told (cond b (cond all (cond far (Err Beyond) followed) (Err NotAll)) (Err (stop_mistake p.stop))) ≡ behind (head_numbers h) (encoded_line (cond (all && not far) (before words (rest_from p.stop more)) none))
      go true e = counted all far e
      go false e =
          none_told (all && not far)
          ∙ ap (λ o. behind (head_numbers h) (encoded_line (cond (all && not far) (before words o) none))) (sym (rest-wrong p.stop more e))

-- ---- the line

module _ (f : Form) (s : List ℕ) where
  abbrev pub first : Taken
  first = taken_at 3 s

  abbrev pub rest : List ℕ
  rest = drop first.length s

  abbrev pub checked : Result (Unit {0}) Mistake
  checked = head_checked f first.stop (length first.numbers) (nth first.numbers 0) (nth first.numbers 1) (nth first.numbers 2)

  abbrev pub head_in : Head
  head_in = head_told f (at first.numbers 0) (at first.numbers 1) (at first.numbers 2)

  abbrev pub asked : ℕ
  asked = at first.numbers 1 * at first.numbers 2

  -- a first part is a head exactly where nothing is wrong with it
  pub is-head : is_ok checked ≡ is_head f first
  is-head = go (is_semicolon first.stop) (eqb (length first.numbers) 3) (fits (most_number f) (nth first.numbers 0) && (fits 15 (nth first.numbers 1) && fits 15 (nth first.numbers 2)))
    where
      go : (a b c : Bool) → is_ok (cond a (cond b (cond c (Ok (tt {0})) (Err NoHead)) (Err NotThree)) (Err (stop_mistake first.stop))) ≡ a && (b && c)
      go true true true = refl
      go true true false = refl
      go true false c = refl
      go false b c = refl

  pub content-wrong : {mistake : Mistake} → checked ≡ Err mistake → Err mistake ≡ content_read f s
  unfolding content_read
  content-wrong e = sym (ap (λ r. head_read f r first rest) e)

  pub content-right : checked ≡ Ok (tt {0}) → parts_read head_in asked (taken_at most_numbers rest) rest ≡ content_read f s
  unfolding content_read
  content-right e = sym (ap (λ r. head_read f r first rest) e)

  pub content-told : told (content_read f s) ≡ encoded_line (line_from f s)
  unfolding content_read line_from
  content-told = go (is_semicolon first.stop) (eqb (length first.numbers) 3) (fits (most_number f) (nth first.numbers 0) && (fits 15 (nth first.numbers 1) && fits 15 (nth first.numbers 2)))
    where
      words : List Word
      words = head_words_in f (at first.numbers 0) (at first.numbers 1) (at first.numbers 2)

      coordinates : Option (List Word)
      coordinates = coordinates_from asked (taken_at most_numbers rest) rest

      go : (a b c : Bool)
          → told (head_read f (cond a (cond b (cond c (Ok (tt {0})) (Err NoHead)) (Err NotThree)) (Err (stop_mistake first.stop))) first rest) ≡ encoded_line (cond (a && (b && c)) (before words coordinates) none)
      go true true true =
          parts-told head_in asked (taken_at most_numbers rest) rest
          ∙ ap (λ ws. behind ws (encoded_line coordinates)) (head-told f (at first.numbers 0) (at first.numbers 1) (at first.numbers 2))
          ∙ told-before words coordinates
      go true true false = refl
      go true false c = refl
      go false b c = refl

-- ---- lines that are blank, right and wrong

module _ (f : Form) (s : List ℕ) where
  -- which case a line is
  record Read (r : Result (Maybe Line) Mistake) : Type 0 where
    pub blank : r ≡ Ok None → is_empty (content s) ≡ true
    pub right : {l : Line} → r ≡ Ok (Some l) → (is_empty (content s) ≡ false) × (some (words_in l) ≡ encoded_line (line_from f (content s)))
    pub wrong : {mistake : Mistake} → r ≡ Err mistake → (is_empty (content s) ≡ false) × (none ≡ encoded_line (line_from f (content s)))

  read-line : Read (line_read f s)
  read-line = go (is_empty (content s)) refl (content_read f (content s)) (content-told f (content s))
    where
      go : (b : Bool) → is_empty (content s) ≡ b → (r : Result Line Mistake) → told r ≡ encoded_line (line_from f (content s)) → Read (cond b (Ok None) (shown r))
      go true e r t = record { blank = λ h. e; right = λ h. absurd (cc); wrong = λ h. absurd (cc) }
      go false e (Ok l) t = record { blank = λ h. absurd (cc); right = λ h. (e, cc); wrong = λ h. absurd (cc) }
      go false e (Err mistake) t = record { blank = λ h. absurd (cc); right = λ h. absurd (cc); wrong = λ h. (e, t) }

  pub line-none : line_read f s ≡ Ok None → is_empty (content s) ≡ true
  line-none = read-line.blank

  pub line-right : {l : Line} → line_read f s ≡ Ok (Some l) → (is_empty (content s) ≡ false) × (some (words_in l) ≡ encoded_line (line_from f (content s)))
  line-right = read-line.right

  pub line-wrong : {mistake : Mistake} → line_read f s ≡ Err mistake → (is_empty (content s) ≡ false) × (none ≡ encoded_line (line_from f (content s)))
  line-wrong = read-line.wrong

  pub line-blank : blank_told (line_read f s) ≡ is_empty (content s)
  line-blank = go (line_read f s) refl
    where
      go : (r : Result (Maybe Line) Mistake) → line_read f s ≡ r → blank_told r ≡ is_empty (content s)
      go (Ok (Some l)) e = sym (line-right e).0
      go (Ok None) e = sym (line-none e)
      go (Err mistake) e = sym (line-wrong e).0

  pub line-told : is_empty (content s) ≡ false → words_told (line_read f s) ≡ encoded_line (line_from f (content s))
  line-told h = go (line_read f s) refl
    where
      go : (r : Result (Maybe Line) Mistake) → line_read f s ≡ r → words_told r ≡ encoded_line (line_from f (content s))
      go (Ok (Some l)) e = (line-right e).1
      go (Ok None) e = absurd (true≢false (sym (line-none e) ∙ h))
      go (Err mistake) e = (line-wrong e).1
