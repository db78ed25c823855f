-- A text line by line: what stands before the first newline, and what stands behind it; and a first line that is `new`.
use Rattle.std.specs.Prelude.{◌≡◌, refl, Bool, true, false, cond, not, ◌||◌, List, [], ◌∷◌, ◌++◌, ℕ, suc, ◌+◌, ◌-◌, ◌≤◌, eqb, ltb, length, take, drop}
use Rattle.std.proofs.Common.{sym, ap, ◌∙◌, add-one, arith, length-take, drop_of_length-le, eqb-true, le-ltb}
use Rattle.integers.specs.Tests.{both}
use Rattle.catalogue_rules.specs.Catalogue.{Form, old, new}
use Rattle.text_parts.specs.Numbers.{leading}
use Rattle.text_parts.specs.Tokens.{is_blank}
use Rattle.text_rules.specs.Text.{new_word}
use Rattle.text_rules.specs.Encoding.{begins_with, lines_of, onto, is_text, content, is_empty, is_new, form_told, entry_lines, line_wrong, line_entry, any_wrong, entries_from, told_wrong, told_entries, line_words, further, line_holding, told_holding}
use Rattle.text_lines.specs.Lengths.{length_before}
use Rattle.text_lines.specs.Begins.{new-long}

abbrev pub line_length : List ℕ → ℕ
line_length s = length_before 10 s

-- the lines behind the first
abbrev behind : List ℕ → List (List ℕ)
behind [] = []
behind (b ∷ s) = cond (eqb b 10) (lines_of s) (behind s)

lines_split : (s : List ℕ) → lines_of s ≡ take (line_length s) s ∷ behind s
lines_split [] = refl
lines_split (b ∷ s) = go (eqb b 10) (lines_split s)
  where
    go : (t : Bool) → lines_of s ≡ take (line_length s) s ∷ behind s
        → cond t ([] ∷ lines_of s) (onto b (lines_of s)) ≡ take (cond (not t) (suc (line_length s)) 0) (b ∷ s) ∷ cond t (lines_of s) (behind s)
    go true h = refl
    go false h = ap (onto b) h

-- of a text that ends without a newline f gives as much as with one, where an empty line gives nothing
module _ {X : Type 0} (f : List (List ℕ) → X) (empty : f [] ≡ f ([] ∷ [])) where
  behind-drop : (s : List ℕ) → f (behind s) ≡ f (lines_of (drop (suc (line_length s)) s))
  behind-drop [] = empty
  behind-drop (b ∷ s) = go (eqb b 10) (behind-drop s)
    where
      go : (t : Bool) → f (behind s) ≡ f (lines_of (drop (suc (line_length s)) s))
          → f (cond t (lines_of s) (behind s)) ≡ f (lines_of (drop (suc (cond (not t) (suc (line_length s)) 0)) (b ∷ s)))
      go true h = refl
      go false h = h

  others : (s : List ℕ) → f (behind s) ≡ f (lines_of (drop (line_length s + 1) s))
  others s = behind-drop s ∙ ap (λ n. f (lines_of (drop n s))) (sym (add-one (line_length s)))

module _ (f : Form) where
  pub entries-split : (s : List ℕ) → entries_from f (lines_of s) ≡ line_entry f (take (line_length s) s) ++ entries_from f (lines_of (drop (line_length s + 1) s))
  entries-split s = ap (entries_from f) (lines_split s) ∙ ap (λ es. line_entry f (take (line_length s) s) ++ es) (others (entries_from f) refl s)

  pub wrong-split : (s : List ℕ) → any_wrong f (lines_of s) ≡ line_wrong f (take (line_length s) s) || any_wrong f (lines_of (drop (line_length s + 1) s))
  wrong-split s = ap (any_wrong f) (lines_split s) ∙ ap (λ b. line_wrong f (take (line_length s) s) || b) (others (any_wrong f) refl s)

  pub nothing-holds : (k : ℕ) → 0 ≡ line_holding f ([] ∷ []) k
  nothing-holds k = sym (ap (λ b. cond b 1 0) (le-ltb k 0 (omega arith)))

  pub holding-split : (s : List ℕ) (k : ℕ)
      → let n = line_words f (take (line_length s) s) in line_holding f (lines_of s) k ≡ cond (ltb k n) 1 (further (line_holding f (lines_of (drop (line_length s + 1) s)) (k - n)))
  holding-split s k =
      let n = line_words f (take (line_length s) s) in
      ap (λ ls. line_holding f ls k) (lines_split s)
      ∙ ap (λ j. cond (ltb k n) 1 (further j)) (others (λ ls. line_holding f ls (k - n)) (nothing-holds (k - n)) s)

-- ---- the first line

abbrev pub opens_new : List ℕ → Bool
opens_new s = is_new (take (line_length s) s)

-- where the second line begins, or the end where there is none
abbrev pub second_line : List ℕ → ℕ
second_line s = cond (eqb (line_length s) (length s)) (line_length s) (line_length s + 1)

drop-second : (s : List ℕ) → drop (line_length s + 1) s ≡ drop (second_line s) s
drop-second s = go (eqb (line_length s) (length s)) refl
  where
    n : ℕ
    n = line_length s

    go : (b : Bool) → eqb n (length s) ≡ b → drop (n + 1) s ≡ drop (cond b n (n + 1)) s
    go true e =
        let all : length s ≤ n = omega (arith, eqb-true n (length s) e) in
        drop_of_length-le s {i = n + 1} (omega arith) ∙ sym (drop_of_length-le s {i = n} all)
    go false e = refl

-- a line `new` has bytes
pub new-second : (s : List ℕ) → opens_new s ≡ true → 1 ≤ second_line s
new-second s e =
    let l = take (line_length s) s in
    let t = content l in
    let n = leading is_blank t in
    let word = (both (begins_with new_word (drop n t)) (is_empty (drop (n + 3) t)) e).0 in
    let far : 3 ≤ line_length s = omega (arith, new-long t word, length-take (leading is_text l) l, length-take (line_length s) s) in
    go (eqb (line_length s) (length s)) far
  where
    go : (b : Bool) → 3 ≤ line_length s → 1 ≤ cond b (line_length s) (line_length s + 1)
    go true h = omega arith
    go false h = omega arith

-- what f gives of the form and the lines that a text tells
module _ {X : Type 0} (f : Form → List (List ℕ) → X) (s : List ℕ) where
  told-by : {b : Bool} → opens_new s ≡ b → f (form_told (lines_of s)) (entry_lines (lines_of s)) ≡ f (cond b new old) (cond b [] (take (line_length s) s) ∷ behind s)
  told-by e = ap (λ ls. f (form_told ls) (entry_lines ls)) (lines_split s) ∙ ap (λ b. f (cond b new old) (cond b [] (take (line_length s) s) ∷ behind s)) e

  told-old : opens_new s ≡ false → f (form_told (lines_of s)) (entry_lines (lines_of s)) ≡ f old (lines_of s)
  told-old e = told-by e ∙ sym (ap (f old) (lines_split s))

behind-second : {X : Type 0} (f : List (List ℕ) → X) → f [] ≡ f ([] ∷ []) → (s : List ℕ) → f (behind s) ≡ f (lines_of (drop (second_line s) s))
behind-second f empty s = others f empty s ∙ ap (λ t. f (lines_of t)) (drop-second s)

pub wrong-old : (s : List ℕ) → opens_new s ≡ false → told_wrong (lines_of s) ≡ any_wrong old (lines_of s)
wrong-old s e = told-old any_wrong s e

pub entries-old : (s : List ℕ) → opens_new s ≡ false → told_entries (lines_of s) ≡ entries_from old (lines_of s)
entries-old s e = told-old entries_from s e

pub holding-old : (s : List ℕ) (k : ℕ) → opens_new s ≡ false → told_holding (lines_of s) k ≡ line_holding old (lines_of s) k
holding-old s k e = told-old (λ f ls. line_holding f ls k) s e

pub wrong-new : (s : List ℕ) → opens_new s ≡ true → told_wrong (lines_of s) ≡ any_wrong new (lines_of (drop (second_line s) s))
wrong-new s e = told-by any_wrong s e ∙ behind-second (any_wrong new) refl s

pub entries-new : (s : List ℕ) → opens_new s ≡ true → told_entries (lines_of s) ≡ entries_from new (lines_of (drop (second_line s) s))
entries-new s e = told-by entries_from s e ∙ behind-second (entries_from new) refl s

-- the first line counts
pub holding-new : (s : List ℕ) (k : ℕ) → opens_new s ≡ true → told_holding (lines_of s) k ≡ further (line_holding new (lines_of (drop (second_line s) s)) k)
holding-new s k e =
    let same : k - 0 ≡ k = omega arith in
    told-by (λ f ls. line_holding f ls k) s e
    ∙ ap (λ b. cond b 1 (further (line_holding new (behind s) (k - 0)))) (le-ltb k 0 (omega arith))
    ∙ ap (λ n. further (line_holding new (behind s) n)) same
    ∙ ap further (behind-second (λ ls. line_holding new ls k) (nothing-holds new k) s)
