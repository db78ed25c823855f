-- A number written with its sign is read as one token of that value, wherever its bytes may end and with a blank before it or none.
use Rattle.std.specs.Prelude.{◌≡◌, refl, ◌⊎◌, Bool, true, false, cond, ◌||◌, List, [], ◌∷◌, ◌++◌, ℕ, suc, ◌+◌, ◌≤◌, leb, eqb, ℤ, pos, negsuc, nat_abs, length, drop}
use Rattle.std.proofs.Common.{sym, ap, ap₂, ◌∙◌, inl, inr, arith, leb-true, ne_eqb, le-ltb}
use Rattle.std.proofs.lemmas.Bool.{false≢true, eqb-false}
use Rattle.std.proofs.Math.Seq.{take-append_seam, drop-append_seam}
use Rattle.integers.specs.All.{All}
use Rattle.integers.specs.Tests.{both}
use Rattle.integers.specs.Decimal.{decimal, signed}
use Rattle.text_parts.specs.declared.Kind.TheVariants.{TooLarge}
use Rattle.text_parts.specs.Numbers.{is_digit, leading, digits, value, wrong, read, sized, with_sign, signed_at, minus_at, number_at}
use Rattle.text_parts.specs.NumberLaws.{signed-some}
use Rattle.text_parts.specs.Tokens.{is_blank, ends, later, token_here, token_at}
use Rattle.text_parts.specs.TokenLaws.{token-number}
use Rattle.text_rules.specs.DecimalBack.{Tells, decimal_tells}

-- ---- bytes

digit_range : (b : ℕ) → is_digit b ≡ true → (48 ≤ b) × (b ≤ 57)
digit_range b e = let p = both (leb 48 b) (leb b 57) e in (leb-true 48 b p.0, leb-true b 57 p.1)

-- a digit is neither a blank nor a semicolon, a minus or a newline
pub digit-is-not : (b c : ℕ) → is_digit b ≡ true → (c ≤ 47) ⊎ (58 ≤ c) → eqb b c ≡ false
digit-is-not b c e (inl h) = let r = digit_range b e in ne_eqb b c (λ p. omega arith)
digit-is-not b c e (inr h) = let r = digit_range b e in ne_eqb b c (λ p. omega arith)

pub digit-no-blank : (b : ℕ) → is_digit b ≡ true → is_blank b ≡ false
digit-no-blank b e =
    let p = digit-is-not b 9 e (inl (omega arith)) in
    let q = digit-is-not b 13 e (inl (omega arith)) in
    let r = digit-is-not b 32 e (inl (omega arith)) in
    λ k. p k || (q k || r k)

no_digit : (b : ℕ) → eqb b 59 || is_blank b ≡ true → is_digit b ≡ false
no_digit b e = go (is_digit b) refl
  where
    go : (t : Bool) → is_digit b ≡ t → t ≡ false
    go true p = absurd (false≢true (sym (ap₂ ◌||◌ (digit-is-not b 59 p (inr (omega arith))) (digit-no-blank b p)) ∙ e))
    go false p = refl

-- ---- digits

all-leading : (f : ℕ → Bool) (s t : List ℕ) → All (λ b. f b ≡ true) s → leading f (s ++ t) ≡ length s + leading f t
all-leading f [] t p = omega arith
all-leading f (b ∷ s) t p = ap (λ c. cond c (suc (leading f (s ++ t))) 0) p.0 ∙ omega (arith, all-leading f s t p.1)

ends-digits : (rest : List ℕ) → ends rest ≡ true → digits rest ≡ 0
ends-digits [] e = refl
ends-digits (b ∷ rest) e = ap (λ c. cond c (suc (leading is_digit rest)) 0) (no_digit b e)

module _ (minus n : ℕ) (s rest : List ℕ) (small : n ≤ 9223372036854775807 + minus) (t : Tells n s) (e : ends rest ≡ true) where
  digits-told : length s ≡ digits (s ++ rest)
  digits-told = omega (arith, all-leading is_digit s rest t.digits, ends-digits rest e)

  digits-read : (k : ℕ) → length s + minus ≡ k → signed_at minus (s ++ rest) ≡ read k (with_sign minus n)
  digits-read k long =
      signed-some minus (s ++ rest) (length s) digits-told (λ z. omega (arith, t.one))
      ∙ ap (λ l. sized minus (length s) (value 0 l)) (take-append_seam s rest)
      ∙ ap (sized minus (length s)) t.worth
      ∙ ap (λ c. cond c (wrong TooLarge (length s + minus)) (read (length s + minus) (with_sign minus n))) (le-ltb (9223372036854775807 + minus) n small)
      ∙ ap (λ k. read k (with_sign minus n)) long

-- ---- tokens

-- the bytes s are the number z
pub record Reads (s : List ℕ) (z : ℤ) : Type 0 where
  pub token : (rest : List ℕ) → ends rest ≡ true → token_at (s ++ rest) ≡ read (length s) z

first_reads : (b : ℕ) (s rest : List ℕ) (z : ℤ) → is_blank b ≡ false → eqb b 59 ≡ false → ends rest ≡ true
    → number_at (b ∷ (s ++ rest)) ≡ read (suc (length s)) z → token_at (b ∷ (s ++ rest)) ≡ read (suc (length s)) z
first_reads b s rest z p q e f =
    let l = b ∷ (s ++ rest) in
    let k = suc (length s) in
    let same : 0 + k ≡ k = omega arith in
    let blanks : leading is_blank l ≡ 0 = ap (λ c. cond c (suc (leading is_blank (s ++ rest))) 0) p in
    token-number l 0 (sym blanks) (omega arith) (eqb-false b 59 q) (read k z) (sym f)
    (ap (λ j. ends (drop j l)) same ∙ ap ends (drop-append_seam s rest) ∙ e) ∙ ap (λ j. read j z) same

told_reads : (n : ℕ) (s : List ℕ) → n ≤ 9223372036854775807 → Tells n s → Reads s (pos n)
told_reads n [] h t = absurd (omega (arith, t.one))
told_reads n (b ∷ s) h t = record {
  token = λ rest e.
      let d = t.digits.0 in
      let l = b ∷ (s ++ rest) in
      let none : minus_at l ≡ 0 = ap (λ c. cond c 1 0) (digit-is-not b 45 d (inl (omega arith))) in
      first_reads b s rest (pos n) (digit-no-blank b d) (digit-is-not b 59 d (inr (omega arith))) e
      (ap (λ m. signed_at m (drop m l)) none ∙ digits-read 0 n (b ∷ s) rest (omega arith) t e (suc (length s)) (omega arith));
}

-- no larger than a token's value may be
abbrev pub Written : ℤ → Type 0
Written z = nat_abs z ≤ 9223372036854775807

pub signed_reads : (z : ℤ) → Written z → Reads (signed z) z
signed_reads (pos n) h = told_reads n (decimal n) h (decimal_tells n)
signed_reads (negsuc n) h = record {
  token = λ rest e.
      let s = decimal (suc n) in
      first_reads 45 s rest (negsuc n) refl refl e
      (digits-read 1 (suc n) s rest (omega arith) (decimal_tells (suc n)) e (suc (length s)) (omega arith));
}

later-blank : (s : List ℕ) → token_at (32 ∷ s) ≡ later 1 (token_at s)
unfolding token_at
later-blank s =
    let n = leading is_blank s in
    let t = token_here (drop n s) in
    let e : suc n + t.length ≡ 1 + (n + t.length) = omega arith in
    ap (λ k. record { kind = t.kind; length = k }) e

pub blank_reads : (s : List ℕ) (z : ℤ) → Reads s z → Reads (32 ∷ s) z
blank_reads s z r =
    let one : 1 + length s ≡ suc (length s) = omega arith in
    record { token = λ rest e. later-blank (s ++ rest) ∙ ap (later 1) (r.token rest e) ∙ ap (λ k. read k z) one }
