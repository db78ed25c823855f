-- Bytes held against a word, one after another.
use Rattle.std.specs.Prelude.{◌≡◌, refl, true, ◌&&◌, List, [], ◌∷◌, ℕ, ◌+◌, ◌≤◌, eqb, nat_eq, length, take, drop, ◌-◌}
use Rattle.std.specs.Cmp.Lexicographic.{pointwise}
use Rattle.std.proofs.Common.{sym, ap, ◌∙◌, arith, length-drop, drop-drop}
use Rattle.std.proofs.lemmas.Bool.{false≢true}
use Rattle.integers.specs.Tests.{both}
use Rattle.text_parts.specs.Numbers.{leading}
use Rattle.text_parts.specs.Tokens.{is_blank}
use Rattle.text_rules.specs.Text.{new_word}
use Rattle.text_rules.specs.Encoding.{begins_with}
use Rattle.text_lines.specs.Fields.{to_end}

-- what begins with a word is as long
pub begins-long : (word s : List ℕ) → begins_with word s ≡ true → length word ≤ length s
begins-long [] s e = omega arith
begins-long (a ∷ word) [] e = absurd (false≢true e)
begins-long (a ∷ word) (b ∷ s) e = omega (arith, begins-long word s (both (eqb b a) (begins_with word s) e).1)

pub begins-pointwise : (word s : List ℕ) → pointwise nat_eq (take (length word) s) word ≡ begins_with word s
begins-pointwise [] s = refl
begins-pointwise (a ∷ word) [] = refl
begins-pointwise (a ∷ word) (b ∷ s) = ap (λ t. eqb b a && t) (begins-pointwise word s)

-- what stands behind a word and the n blanks before it
pub behind-word : (word s : List ℕ) (n : ℕ) {rest : List ℕ} → n ≡ leading is_blank s → pointwise nat_eq (take (length word) (take (length s - n) (drop n s))) word ≡ true
    → rest ≡ drop (length word) (take (length s - n) (drop n s)) → (begins_with word (drop (leading is_blank s) s) ≡ true) × (rest ≡ drop (leading is_blank s + length word) s)
behind-word word s n e h g =
    let all : take (length s - n) (drop n s) ≡ drop (leading is_blank s) s = to_end n s ∙ ap (λ n. drop n s) e in (
      sym (begins-pointwise word (drop (leading is_blank s) s)) ∙ ap (λ l. pointwise nat_eq (take (length word) l) word) (sym all) ∙ h,
      g ∙ ap (drop (length word)) all ∙ drop-drop (length word) (leading is_blank s) s,
    )

-- and for `new`
pub new-long : (s : List ℕ) → begins_with new_word (drop (leading is_blank s) s) ≡ true → leading is_blank s + 3 ≤ length s
new-long s e = let n = leading is_blank s in omega (arith, begins-long new_word (drop n s) e, length-drop n s)
