-- How many words a line tells, and how many lines are passed before the one that holds a word.
use Rattle.std.specs.Prelude.{◌≡◌, refl, true, false, cond, List, [], ◌++◌, map, ℕ, zero, suc, ◌+◌, ◌-◌, ◌≤◌, ◌<◌, ltb, length, take, drop}
use Rattle.std.proofs.Common.{sym, ap, ◌∙◌, append-nil, arith, length-append, drop_of_length-le, drop-drop, length-take-le, lt-ltb, le-ltb}
use Rattle.std.proofs.Math.Option.{Option, none, some, some-ne-none}
use Rattle.std.proofs.lemmas.List.{length-map}
use Rattle.catalogue_rules.specs.Catalogue.{Form}
use Rattle.catalogue_rules.specs.Word.{Word, encode}
use Rattle.text_rules.specs.Encoding.{line_from, lines_of, content, is_empty, listed, joined, line_words, further, line_holding}
use Rattle.text_lines.specs.declared.Line.{Line}
use Rattle.text_lines.specs.Told.{word_told, draft_told, words_in, encoded_line}
use Rattle.text_encoding.specs.Splits.{line_length, holding-split, nothing-holds}

-- ---- of a line

pub blank-words : (f : Form) (s : List ℕ) → is_empty (content s) ≡ true → 0 ≡ line_words f s
blank-words f s e = sym (ap (λ b. length (joined (cond b [] (listed (line_from f (content s)))))) e)

pub wrong-words : (f : Form) (s : List ℕ) → is_empty (content s) ≡ false → none ≡ encoded_line (line_from f (content s)) → 0 ≡ line_words f s
wrong-words f s e h = go (line_from f (content s)) refl
  where
    go : (o : Option (List Word)) → line_from f (content s) ≡ o → 0 ≡ line_words f s
    go none g = sym (λ i. length (joined (cond (e i) [] (listed (g i)))))
    go (some ws) g = absurd (some-ne-none (map encode ws) (sym (h ∙ ap encoded_line g)))

pub right-words : (f : Form) (s : List ℕ) {xs : List ℕ} → is_empty (content s) ≡ false → some xs ≡ encoded_line (line_from f (content s)) → length xs ≡ line_words f s
right-words f s {xs} e h = go (line_from f (content s)) refl
  where
    go : (o : Option (List Word)) → line_from f (content s) ≡ o → length xs ≡ line_words f s
    go none g = absurd (some-ne-none xs (h ∙ ap encoded_line g))
    go (some ws) g =
        let same : xs ≡ map encode ws = ap (λ o. elim o as (λ o. List ℕ) [ none ↦ [] | some l ↦ l ]) (h ∙ ap encoded_line g) in
        ap length same ∙ length-map ws encode ∙ ap length (sym (append-nil ws)) ∙ sym (λ i. length (joined (cond (e i) [] (listed (g i)))))

-- the words of a line that is right are its head, of one word or two, its coordinates, its mark and its see word
pub words_count : (l : Line) → l.count ≤ length l.coordinates
    → 1 + length (word_told l.size) + l.count + length (draft_told l.draft) + length (word_told l.see) ≡ length (words_in l)
words_count l h =
    let size = word_told l.size in
    let coordinates = take l.count l.coordinates in
    let mark = draft_told l.draft in
    let see = word_told l.see in
    omega (
      arith,
      length-append size (coordinates ++ (mark ++ see)),
      length-append coordinates (mark ++ see),
      length-append mark see,
      length-take-le l.count l.coordinates h,
    )

-- ---- of a text

-- a line's number, counted from the text's first line where k lines are passed
abbrev pub counted : ℕ → ℕ → ℕ
counted k zero = 0
counted k (suc n) = k + suc n

counted-further : (k n : ℕ) → counted k (further n) ≡ counted (k + 1) n
counted-further k zero = refl
counted-further k (suc n) = omega arith

-- `passed` lines have been passed, `left` words further the word is
pub record Passing (f : Form) (text : List ℕ) (k from passed left : ℕ) : Type 0 where
  pub few : passed ≤ from
  pub same : line_holding f (lines_of text) k ≡ counted passed (line_holding f (lines_of (drop from text)) left)

counted_none : (n : ℕ) → n ≡ counted 0 n
counted_none zero = refl
counted_none (suc n) = omega arith

pub passing_begins : (f : Form) (text : List ℕ) (k : ℕ) → Passing f text k 0 0 k
passing_begins f text k = record { few = omega arith; same = counted_none (line_holding f (lines_of text) k) }

module _ {f : Form} {text : List ℕ} {k from passed left n : ℕ} (p : Passing f text k from passed left) (is : n ≡ line_length (drop from text)) {here : ℕ} (words : here ≡ line_words f (take n (drop from text))) where
  abbrev others : ℕ
  others = line_holding f (lines_of (drop (n + 1) (drop from text))) (left - here)

  split : line_holding f (lines_of (drop from text)) left ≡ cond (ltb left here) 1 (further others)
  split =
      let s = drop from text in
      holding-split f s left
      ∙ ap (λ m. let w = line_words f (take m s) in cond (ltb left w) 1 (further (line_holding f (lines_of (drop (m + 1) s)) (left - w)))) (sym is)
      ∙ ap (λ w. cond (ltb left w) 1 (further (line_holding f (lines_of (drop (n + 1) s)) (left - w)))) (sym words)

  pub passing-found : left < here → passed + 1 ≡ line_holding f (lines_of text) k
  passing-found h = sym (p.same ∙ ap (counted passed) (split ∙ ap (λ b. cond b 1 (further others)) (lt-ltb left here h)))

  past : here ≤ left → line_holding f (lines_of text) k ≡ counted (passed + 1) others
  past h = p.same ∙ ap (counted passed) (split ∙ ap (λ b. cond b 1 (further others)) (le-ltb left here h)) ∙ counted-further passed others

  next : drop (n + 1) (drop from text) ≡ drop (from + n + 1) text
  next =
      let far : from + (n + 1) ≡ from + n + 1 = omega arith in
      drop-drop (n + 1) from text ∙ ap (λ i. drop i text) far

  pub passing-on : here ≤ left → Passing f text k (from + n + 1) (passed + 1) (left - here)
  passing-on h = record { few = omega (arith, p.few); same = past h ∙ ap (λ s. counted (passed + 1) (line_holding f (lines_of s) (left - here))) next }

  -- no line is left
  pub passing-ends : here ≤ left → length text ≤ from + n + 1 → 0 ≡ line_holding f (lines_of text) k
  passing-ends h l =
      sym (past h
      ∙ ap (λ s. counted (passed + 1) (line_holding f (lines_of s) (left - here))) (next ∙ drop_of_length-le text {i = from + n + 1} l)
      ∙ ap (counted (passed + 1)) (sym (nothing-holds f (left - here))))

pub passing-none : {f : Form} {text : List ℕ} {k from passed left : ℕ} → Passing f text k from passed left → length text ≤ from → 0 ≡ line_holding f (lines_of text) k
passing-none {f} {text} {k} {from} {passed} {left} p h =
    sym (p.same ∙ ap (λ s. counted passed (line_holding f (lines_of s) left)) (drop_of_length-le text {i = from} h) ∙ ap (counted passed) (sym (nothing-holds f left)))

-- ---- a line more

pub further-one : (n : ℕ) → 1 ≤ n → n + 1 ≡ further n
further-one zero h = absurd (omega arith)
further-one (suc n) h = omega arith
