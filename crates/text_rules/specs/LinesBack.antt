-- The text of a catalogue is cut into the lines of its entries: none holds a newline, none is blank, and none is `new`.
use Rattle.std.specs.Prelude.{◌≡◌, refl, Bool, true, false, cond, not, ◌&&◌, List, [], ◌∷◌, ◌++◌, map, ℕ, suc, ◌+◌, eqb, ℤ, pos, negsuc, length, take, drop}
use Rattle.std.proofs.Common.{ap, ◌∙◌, inl, inr, arith, ne_eqb}
use Rattle.std.proofs.Math.Option.{Option, none, some}
use Rattle.integers.specs.All.{All}
use Rattle.integers.specs.AllLaws.{all_append, all_imp}
use Rattle.integers.specs.Decimal.{decimal, signed}
use Rattle.catalogue_rules.specs.Catalogue.{See, Entry, coordinates}
use Rattle.text_parts.specs.Numbers.{leading}
use Rattle.text_parts.specs.Tokens.{is_blank}
use Rattle.text_rules.specs.Text.{semicolon, draft_fields, see_fields, entry_fields, new_word}
use Rattle.text_rules.specs.Encoding.{onto, lines_of, is_text, content, is_empty, begins_with, is_new_text, is_new}
use Rattle.text_rules.specs.DecimalBack.{Tells, decimal_tells}
use Rattle.text_rules.specs.NumberBack.{digit-is-not, digit-no-blank}
use Rattle.text_rules.specs.PartBack.{spaced}
use Rattle.text_rules.specs.LineBack.{line_of}

-- ---- neither a newline nor a comment

pub record Plain (b : ℕ) : Type 0 where
  pub inside : eqb b 10 ≡ false
  pub text : eqb b 35 ≡ false

abbrev pub AllPlain : List ℕ → Type 0
AllPlain s = All Plain s

plain : (b : ℕ) → eqb b 10 ≡ false → eqb b 35 ≡ false → Plain b
plain b e f = record { inside = e; text = f }

decimal-plain : (n : ℕ) → AllPlain (decimal n)
decimal-plain n = all_imp (λ b e. plain b (digit-is-not b 10 e (inl (omega arith))) (digit-is-not b 35 e (inl (omega arith)))) (decimal n) (decimal_tells n).digits

signed-plain : (z : ℤ) → AllPlain (signed z)
signed-plain (pos n) = decimal-plain n
signed-plain (negsuc n) = (plain 45 refl refl, decimal-plain (suc n))

numbers-plain : (zs : List ℤ) → All AllPlain (map signed zs)
numbers-plain [] = tt
numbers-plain (z ∷ zs) = (signed-plain z, numbers-plain zs)

semicolon-plain : AllPlain semicolon
semicolon-plain = (plain 59 refl refl, tt)

draft-plain : (b : Bool) → All AllPlain (draft_fields b)
draft-plain true = (semicolon-plain, ((plain 100 refl refl, (plain 114 refl refl, (plain 97 refl refl, (plain 102 refl refl, (plain 116 refl refl, tt))))), tt))
draft-plain false = tt

see-plain : (o : Option See) → All AllPlain (see_fields o)
see-plain none = tt
see-plain (some s) = (semicolon-plain, (decimal-plain s.number, tt))

spaced-plain : (fields : List (List ℕ)) → All AllPlain fields → AllPlain (spaced fields)
spaced-plain [] p = tt
spaced-plain (field ∷ fields) p = (plain 32 refl refl, all_append Plain field (spaced fields) p.0 (spaced-plain fields p.1))

fields_plain : (e : Entry) → All AllPlain (entry_fields e)
fields_plain e =
    let zs = coordinates e.vectors in
    let mark = draft_fields e.draft in
    let see = see_fields e.see in
    (decimal-plain e.head.d, (decimal-plain e.head.m, (semicolon-plain, all_append AllPlain (map signed zs) (mark ++ see) (numbers-plain zs) (all_append AllPlain mark see (draft-plain e.draft) (see-plain e.see)))))

pub line_plain : (e : Entry) → AllPlain (line_of e)
line_plain e = all_append Plain (decimal e.head.number) (spaced (entry_fields e)) (decimal-plain e.head.number) (spaced-plain (entry_fields e) (fields_plain e))

pub lines_cut : (l rest : List ℕ) → AllPlain l → lines_of (l ++ (10 ∷ rest)) ≡ l ∷ lines_of rest
lines_cut [] rest p = refl
lines_cut (b ∷ l) rest p =
    let more = lines_of (l ++ (10 ∷ rest)) in
    ap (λ c. cond c ([] ∷ more) (onto b more)) p.0.inside ∙ ap (onto b) (lines_cut l rest p.1)

-- a line without a comment is all content
pub content-all : (l : List ℕ) → AllPlain l → content l ≡ l
content-all [] p = refl
content-all (b ∷ l) p = ap (λ c. take (cond (not c) (suc (leading is_text l)) 0) (b ∷ l)) p.0.text ∙ ap (λ s. b ∷ s) (content-all l p.1)

-- ---- not blank

told-shown : (n : ℕ) (s rest : List ℕ) → Tells n s → is_empty (s ++ rest) ≡ false
told-shown n [] rest t = absurd (omega (arith, t.one))
told-shown n (b ∷ s) rest t =
    let l = s ++ rest in
    ap (λ c. eqb (cond c (suc (leading is_blank l)) 0) (suc (length l))) (digit-no-blank b t.digits.0) ∙ ne_eqb 0 (suc (length l)) (λ e. omega arith)

pub line-shown : (e : Entry) → is_empty (line_of e) ≡ false
line-shown e = told-shown e.head.number (decimal e.head.number) (spaced (entry_fields e)) (decimal_tells e.head.number)

-- ---- not `new`

told-no-new : (n : ℕ) (s rest : List ℕ) → Tells n s → is_new_text (s ++ rest) ≡ false
told-no-new n [] rest t = absurd (omega (arith, t.one))
told-no-new n (b ∷ s) rest t =
    let l = s ++ rest in
    ap (λ c. let k = cond c (suc (leading is_blank l)) 0 in begins_with new_word (drop k (b ∷ l)) && is_empty (drop (k + 3) (b ∷ l))) (digit-no-blank b t.digits.0)
    ∙ ap (λ c. c && begins_with (101 ∷ 119 ∷ []) l && is_empty (drop 3 (b ∷ l))) (digit-is-not b 110 t.digits.0 (inr (omega arith)))

pub line-no-new : (e : Entry) → is_new (line_of e) ≡ false
line-no-new e =
    ap is_new_text (content-all (line_of e) (line_plain e))
    ∙ told-no-new e.head.number (decimal e.head.number) (spaced (entry_fields e)) (decimal_tells e.head.number)
