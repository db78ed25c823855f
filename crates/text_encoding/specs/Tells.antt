-- How far a text is told: the words of its first lines, and what the others will add.
use Rattle.std.specs.Prelude.{◌≡◌, refl, Bool, true, false, cond, ◌||◌, List, [], ◌∷◌, ◌++◌, map, ℕ, ◌+◌, ◌≤◌, ◌<◌, length, take, drop}
use Rattle.std.proofs.Common.{sym, ap, ◌∙◌, subst, append-nil, append_assoc, arith, drop_of_length-le, length-append, drop-drop, lt-ltb, le-ltb}
use Rattle.std.proofs.lemmas.List.{map-append}
use Rattle.std.proofs.Math.Option.{Option, none, some, some-ne-none}
use Rattle.catalogue_rules.specs.Catalogue.{Form}
use Rattle.catalogue_rules.specs.Word.{Word, end, encode}
use Rattle.text_rules.specs.Encoding.{line_from, lines_of, content, is_empty, is_wrong, listed, line_wrong, line_entry, any_wrong, entries_from, joined, ended, told_wrong, told_entries, encoded}
use Rattle.text_lines.specs.Told.{encoded_line}
use Rattle.text_encoding.specs.declared.Told.{Told}
use Rattle.text_encoding.specs.Encoded.{most_text, is_long, text_words, text_wrong, Tells}
use Rattle.text_encoding.specs.Stores.{Stores, Room, stores-none, stores-room, stores-then, stored-count, stored_bytes}
use Rattle.text_encoding.specs.Splits.{line_length, entries-split, wrong-split}

-- ---- one line more

joined-append : (a b : List (List Word)) → joined (a ++ b) ≡ joined a ++ joined b
joined-append [] b = refl
joined-append (ws ∷ a) b = ap (λ us. ws ++ us) (joined-append a b) ∙ sym (append_assoc ws (joined a) (joined b))

abbrev pub numbers : List (List Word) → List ℕ
numbers es = map encode (joined es)

numbers-append : (a b : List (List Word)) → numbers a ++ numbers b ≡ numbers (a ++ b)
numbers-append a b = sym (ap (map encode) (joined-append a b) ∙ map-append encode (joined a) (joined b))

-- what a line adds
pub record Adds (f : Form) (line before : List ℕ) (e : Told) (after : List ℕ) (r : Told) : Type 0 where
  pub stored : Stores (numbers (line_entry f line)) before e.words after r.words
  pub counted : r.entries ≡ e.entries + length (line_entry f line)
  pub wrong : r.wrong ≡ e.wrong || line_wrong f line

or_false : (b : Bool) → b ≡ b || false
or_false true = refl
or_false false = refl

or_true : (b : Bool) → true ≡ b || true
or_true true = refl
or_true false = refl

pub adds-nothing : (f : Form) (line before : List ℕ) (e : Told) → is_empty (content line) ≡ true → Adds f line before e before e
adds-nothing f line before e h =
    let entry : line_entry f line ≡ [] = ap (λ b. cond b [] (listed (line_from f (content line)))) h in
    record {
      stored = subst (λ es. Stores (numbers es) before e.words before e.words) (sym entry) (stores-none before e.words);
      counted = omega (arith, ap length entry);
      wrong = or_false e.wrong ∙ ap (λ b. e.wrong || cond b false (is_wrong (line_from f (content line)))) (sym h);
    }

nothing-told : (o : Option (List Word)) → none ≡ encoded_line o → o ≡ none
nothing-told none e = refl
nothing-told (some ws) e = absurd (some-ne-none (map encode ws) (sym e))

pub adds-wrong : (f : Form) (line before : List ℕ) (e : Told) → is_empty (content line) ≡ false → none ≡ encoded_line (line_from f (content line))
    → Adds f line before e before (record { words = e.words; entries = e.entries; wrong = true })
adds-wrong f line before e h same =
    let o = nothing-told (line_from f (content line)) same in
    let entry : line_entry f line ≡ [] = λ i. cond (h i) [] (listed (o i)) in
    let bad : line_wrong f line ≡ true = λ i. cond (h i) false (is_wrong (o i)) in
    record {
      stored = subst (λ es. Stores (numbers es) before e.words before e.words) (sym entry) (stores-none before e.words);
      counted = omega (arith, ap length entry);
      wrong = or_true e.wrong ∙ ap (λ b. e.wrong || b) (sym bad);
    }

pub adds-entry : (f : Form) (line : List ℕ) {before after : List ℕ} {e : Told} {k : ℕ} {xs : List ℕ} → is_empty (content line) ≡ false → some xs ≡ encoded_line (line_from f (content line))
    → Stores xs before e.words after k → Adds f line before e after (record { words = k; entries = e.entries + 1; wrong = e.wrong })
adds-entry f line {before} {after} {e} {k} {xs} h same p = go (line_from f (content line)) refl
  where
    go : (o : Option (List Word)) → line_from f (content line) ≡ o → Adds f line before e after (record { words = k; entries = e.entries + 1; wrong = e.wrong })
    go none g = absurd (some-ne-none xs (same ∙ ap encoded_line g))
    go (some ws) g =
        let entry : line_entry f line ≡ ws ∷ [] = λ i. cond (h i) [] (listed (g i)) in
        let right : line_wrong f line ≡ false = λ i. cond (h i) false (is_wrong (g i)) in
        let words : xs ≡ numbers (ws ∷ []) = ap (λ o. elim o as (λ o. List ℕ) [ none ↦ [] | some l ↦ l ]) (same ∙ ap encoded_line g) ∙ ap (map encode) (sym (append-nil ws)) in
        record {
          stored = subst (λ us. Stores us before e.words after k) (words ∙ ap numbers (sym entry)) p;
          counted = omega (arith, ap length entry);
          wrong = or_false e.wrong ∙ ap (λ b. e.wrong || b) (sym right);
        }

-- a line has one entry at most
pub one_entry : (f : Form) (line : List ℕ) → length (line_entry f line) ≤ 1
one_entry f line = go (is_empty (content line)) (line_from f (content line))
  where
    go : (b : Bool) (o : Option (List Word)) → length (cond b [] (listed o)) ≤ 1
    go true o = omega arith
    go false none = omega arith
    go false (some ws) = omega arith

-- ---- line after line

pub record Going (f : Form) (text before : List ℕ) (from : ℕ) (out : List ℕ) (e : Told) : Type 0 where
  pub entries : List (List Word)
  pub stored : Stores (numbers entries) before 0 out e.words
  pub counted : e.entries ≡ length entries
  pub few : e.entries ≤ from
  pub told : entries_from f (lines_of text) ≡ entries ++ entries_from f (lines_of (drop from text))
  pub wrong : any_wrong f (lines_of text) ≡ e.wrong || any_wrong f (lines_of (drop from text))

pub going-begins : (f : Form) (text before : List ℕ) → Going f text before 0 before (record { words = 0; entries = 0; wrong = false })
going-begins f text before = record { entries = []; stored = stores-none before 0; counted = refl; few = omega arith; told = refl; wrong = refl }

or_assoc : (a b c : Bool) → a || (b || c) ≡ (a || b) || c
or_assoc true b c = refl
or_assoc false b c = refl

module _ {f : Form} {text before : List ℕ} {from : ℕ} {out : List ℕ} {e : Told} (room : Room before 0) (g : Going f text before from out e) where
  pub going-room : Room out e.words
  going-room = stores-room room g.stored

  pub going_on : {n : ℕ} {after : List ℕ} {r : Told} → n ≡ line_length (drop from text) → Adds f (take n (drop from text)) out e after r → Going f text before (from + n + 1) after r
  going_on {n} {after} {r} h a =
      let s = drop from text in
      let l = take n s in
      let far : from + (n + 1) ≡ from + n + 1 = omega arith in
      let next : drop (n + 1) s ≡ drop (from + n + 1) text = drop-drop (n + 1) from text ∙ ap (λ k. drop k text) far in
      let split : entries_from f (lines_of s) ≡ line_entry f l ++ entries_from f (lines_of (drop (n + 1) s)) =
      entries-split f s ∙ ap (λ k. line_entry f (take k s) ++ entries_from f (lines_of (drop (k + 1) s))) (sym h) in
      let parted : any_wrong f (lines_of s) ≡ line_wrong f l || any_wrong f (lines_of (drop (n + 1) s)) =
      wrong-split f s ∙ ap (λ k. line_wrong f (take k s) || any_wrong f (lines_of (drop (k + 1) s))) (sym h) in
      record {
        entries = g.entries ++ line_entry f l;
        stored = subst (λ ws. Stores ws before 0 after r.words) (numbers-append g.entries (line_entry f l)) (stores-then room g.stored a.stored);
        counted = omega (arith, a.counted, g.counted, length-append g.entries (line_entry f l));
        few = omega (arith, g.few, a.counted, one_entry f l);
        told =
            g.told ∙ ap (λ es. g.entries ++ es) (split ∙ ap (λ t. line_entry f l ++ entries_from f (lines_of t)) next)
            ∙ sym (append_assoc g.entries (line_entry f l) (entries_from f (lines_of (drop (from + n + 1) text))));
        wrong =
            g.wrong ∙ ap (λ b. e.wrong || b) (parted ∙ ap (λ t. line_wrong f l || any_wrong f (lines_of t)) next)
            ∙ or_assoc e.wrong (line_wrong f l) (any_wrong f (lines_of (drop (from + n + 1) text)))
            ∙ ap (λ b. b || any_wrong f (lines_of (drop (from + n + 1) text))) (sym a.wrong);
      }

-- ---- the end

-- what lines in a form tell, as `Tells` has it of a text
pub record LinesTell (f : Form) (ls : List (List ℕ)) (before after : List ℕ) (r : Told) : Type 0 where
  pub stored : Stores (map encode (ended (entries_from f ls))) before 0 after r.words
  pub counted : r.entries ≡ length (entries_from f ls)
  pub wrong : r.wrong ≡ any_wrong f ls

-- after the last line, and the end word
pub going-ends : {f : Form} {text before : List ℕ} {from : ℕ} {out : List ℕ} {e : Told} {after : List ℕ} {k w : ℕ} → Room before 0 → Going f text before from out e → length text ≤ from
    → w ≡ encode (end e.entries) → Stores (w ∷ []) out e.words after k → LinesTell f (lines_of text) before after (record { words = k; entries = e.entries; wrong = e.wrong })
going-ends {f} {text} {before} {from} {out} {e} {after} {k} {w} room g h same p =
    let rest : drop from text ≡ [] = drop_of_length-le text {i = from} h in
    let all : entries_from f (lines_of text) ≡ g.entries = g.told ∙ ap (λ t. g.entries ++ entries_from f (lines_of t)) rest ∙ append-nil g.entries in
    let last : w ∷ [] ≡ map encode (end (length g.entries) ∷ []) = ap (λ n. n ∷ []) (same ∙ ap (λ n. encode (end n)) g.counted) in
    let words : numbers g.entries ++ (w ∷ []) ≡ map encode (ended (entries_from f (lines_of text))) =
    ap (λ us. numbers g.entries ++ us) last
    ∙ sym (map-append encode (joined g.entries) (end (length g.entries) ∷ []))
    ∙ ap (λ es. map encode (ended es)) (sym all) in
    record {
      stored = subst (λ ws. Stores ws before 0 after k) words (stores-then room g.stored p);
      counted = g.counted ∙ ap length (sym all);
      wrong = or_false e.wrong ∙ sym (g.wrong ∙ ap (λ t. e.wrong || any_wrong f (lines_of t)) rest);
    }

-- the lines of a text, without a first line `new`
pub text_tells : {f : Form} {ls : List (List ℕ)} (text : List ℕ) {before after : List ℕ} {r : Told} → length text ≤ most_text
    → told_entries (lines_of text) ≡ entries_from f ls → told_wrong (lines_of text) ≡ any_wrong f ls → LinesTell f ls before after r → Tells text before after r
text_tells text {before} {after} {r} small entries wrong t =
    let short : is_long text ≡ false = le-ltb most_text (length text) small in
    let words : text_words text ≡ map encode (ended (told_entries (lines_of text))) = ap (λ b. cond b [] (map encode (ended (told_entries (lines_of text))))) short in
    let stored = subst (λ ws. Stores ws before 0 after r.words) (sym (words ∙ ap (λ es. map encode (ended es)) entries)) t.stored in
    record {
      stored = stored-count stored;
      lent = stored_bytes stored;
      counted = t.counted ∙ ap length (sym entries) ∙ sym (ap (λ b. length (cond b [] (told_entries (lines_of text)))) short);
      wrong = t.wrong ∙ sym wrong ∙ sym (ap (λ b. cond b true (told_wrong (lines_of text))) short);
    }

pub tells_nothing : (text before : List ℕ) → most_text < length text → Tells text before before (record { words = 0; entries = 0; wrong = true })
tells_nothing text before h =
    let long : is_long text ≡ true = lt-ltb most_text (length text) h in
    let words : text_words text ≡ [] = ap (λ b. cond b [] (map encode (ended (told_entries (lines_of text))))) long in
    let stored = subst (λ ws. Stores ws before 0 before 0) (sym words) (stores-none before 0) in
    record {
      stored = stored-count stored;
      lent = stored_bytes stored;
      counted = sym (ap (λ b. length (cond b [] (told_entries (lines_of text)))) long);
      wrong = sym (ap (λ b. cond b true (told_wrong (lines_of text))) long);
    }

-- ---- as the rules of text have it

-- a text that tells words is right, and these are the words; so what `file-back` says of `encoded` holds of what is stored
pub told-words : (text : List ℕ) (ws : List Word) → length text ≤ most_text → encoded text ≡ some ws → (text_wrong text ≡ false) × (text_words text ≡ map encode ws)
unfolding encoded
told-words text ws small e = go (told_wrong (lines_of text)) refl
  where
    short : is_long text ≡ false
    short = le-ltb most_text (length text) small

    words : List Word
    words = ended (told_entries (lines_of text))

    go : (b : Bool) → told_wrong (lines_of text) ≡ b → (text_wrong text ≡ false) × (text_words text ≡ map encode ws)
    go true f = absurd (some-ne-none ws (sym (sym (ap (λ b. cond b none (some words)) f) ∙ e)))
    go false f =
        let same : words ≡ ws = ap (λ o. elim o as (λ o. List Word) [ none ↦ [] | some l ↦ l ]) (sym (ap (λ b. cond b none (some words)) f) ∙ e) in
        ((λ i. cond (short i) true (f i)), ap (λ b. cond b [] (map encode words)) short ∙ ap (map encode) same)
