-- Why digits and values may be read from left to right, and why a value may be cut off, at the first number that no i64 has or at the largest
-- of 64 bits.
use Rattle.std.specs.Prelude.{◌≡◌, refl, Bool, true, false, cond, List, [], ◌∷◌, ◌++◌, ℕ, suc, ◌+◌, ◌-◌, ◌*◌, ◌≤◌, ◌<◌, min, length, get_or, drop, take, leb, ltb, eqb, not, Option, None, Some, unwrap_or, position, nat_lt}
use Rattle.std.specs.List.{position_or_len}
use Rattle.std.proofs.lemmas.List.Recursion.{is_position_or_len}
use Rattle.std.proofs.Common.{sym, ap, ◌∙◌, arith, drop_of_length-le, length-drop, drop-cons, take-suc, leb-true, ne_eqb, ltb-false}
use Rattle.integers.specs.Tests.{both}
use Rattle.text_parts.specs.declared.Token.{Token}
use Rattle.text_parts.specs.Numbers.{is_digit, leading, digits, value, beyond, largest, sized, signed_at, minus_at, number_at}

pub leading-bound : (f : ℕ → Bool) (s : List ℕ) → leading f s ≤ length s
leading-bound f [] = omega arith
leading-bound f (b ∷ bs) = go (f b) (leading-bound f bs)
  where
    go : (t : Bool) → leading f bs ≤ length bs → cond t (suc (leading f bs)) 0 ≤ suc (length bs)
    go true h = omega (arith, h)
    go false h = omega arith

pub drop-next : (s : List ℕ) (i : ℕ) → i < length s → drop i s ≡ get_or s i 0 ∷ drop (i + 1) s
drop-next s i h =
    let e : suc i ≡ i + 1 = omega arith in
    drop-cons s i 0 h ∙ ap (λ j. get_or s i 0 ∷ drop j s) e

pub leading-next : (f : ℕ → Bool) (s : List ℕ) (i : ℕ) {t : Bool} → i < length s → f (get_or s i 0) ≡ t → leading f (drop i s) ≡ cond t (suc (leading f (drop (i + 1) s))) 0
leading-next f s i h e = ap (leading f) (drop-next s i h) ∙ ap (λ t. cond t (suc (leading f (drop (i + 1) s))) 0) e

pub leading_end : (f : ℕ → Bool) (s : List ℕ) (i : ℕ) → length s ≤ i → leading f (drop i s) ≡ 0
leading_end f s i h = ap (leading f) (drop_of_length-le s h)

pub leading-position : (f : ℕ → Bool) (s : List ℕ) → leading f s ≡ position_or_len (λ b. not (f b)) s
leading-position f = is_position_or_len (leading f) (λ b. not (f b)) refl (λ b s. step s (f b))
  where
    step : (s : List ℕ) (t : Bool) → cond t (suc (leading f s)) 0 ≡ cond (not t) 0 (1 + leading f s)
    step s true = omega arith
    step s false = refl

-- where the first byte of another kind is found, if there is one
pub leading-found : (f : ℕ → Bool) (s : List ℕ) (r : Option ℕ) → r ≡ position (λ b. not (f b)) s → unwrap_or r (length s) ≡ leading f s
leading-found f s r e = ap (λ r. unwrap_or r (length s)) (e ∙ ap found (sym (leading-position f s))) ∙ go (leading f s) (leading-bound f s)
  where
    found : ℕ → Option ℕ
    found n = cond (nat_lt n (length s)) (Some n) None

    go : (n : ℕ) → n ≤ length s → unwrap_or (found n) (length s) ≡ n
    go n h = decide (nat_lt n (length s)) refl
      where
        decide : (t : Bool) → nat_lt n (length s) ≡ t → unwrap_or (found n) (length s) ≡ n
        decide true e = rw e
        decide false e = rw e (omega (arith, ltb-false n (length s) e))

pub digit_range : (b : ℕ) → is_digit b ≡ true → (48 ≤ b) × (b ≤ 57)
digit_range b e = let h = both (leb 48 b) (leb b 57) e in (leb-true 48 b h.0, leb-true b 57 h.1)

-- one digit more
value-last : (n : ℕ) (s : List ℕ) (b : ℕ) → value n (s ++ (b ∷ [])) ≡ value n s * 10 + (b - 48)
value-last n [] b = refl
value-last n (a ∷ s) b = value-last (n * 10 + (a - 48)) s b

value-longer : (s : List ℕ) (i : ℕ) → i < length s → value 0 (take (i + 1) s) ≡ value 0 (take i s) * 10 + (get_or s i 0 - 48)
value-longer s i h =
    let e : i + 1 ≡ suc i = omega arith in
    ap (λ j. value 0 (take j s)) e ∙ ap (value 0) (take-suc s i 0 h) ∙ value-last 0 (take i s) (get_or s i 0)

-- a value that is cut off on the way is cut off with one digit more
pub value-more : (s : List ℕ) (i n : ℕ) → i < length s → n ≡ min beyond (value 0 (take i s)) → min beyond (n * 10 + (get_or s i 0 - 48)) ≡ min beyond (value 0 (take (i + 1) s))
value-more s i n h e = omega (arith, value-longer s i h, e)

-- the same of one that is cut off at the largest number of 64 bits, after the product and after the sum
pub value-more-largest : (s : List ℕ) (i n : ℕ) → i < length s → n ≡ min largest (value 0 (take i s))
    → min (min (n * 10) largest + (get_or s i 0 - 48)) largest ≡ min largest (value 0 (take (i + 1) s))
value-more-largest s i n h e = omega (arith, value-longer s i h, e)

either-bound : (t : Bool) (a b : Token) (k : ℕ) → a.length ≤ k → b.length ≤ k → (cond t a b).length ≤ k
either-bound true a b k h j = h
either-bound false a b k h j = j

signed-bound : (minus : ℕ) (s : List ℕ) → (signed_at minus s).length ≤ digits s + minus
signed-bound minus s =
    either-bound (eqb (digits s) 0) _ _ _ (omega arith)
    (either-bound (ltb (9223372036854775807 + minus) (value 0 (take (digits s) s))) _ _ _ (omega arith) (omega arith))

pub minus-bound : (s : List ℕ) → minus_at s ≤ length s
minus-bound [] = omega arith
minus-bound (b ∷ bs) = go (eqb b 45)
  where
    go : (t : Bool) → cond t 1 0 ≤ suc (length bs)
    go true = omega arith
    go false = omega arith

-- a number lies within the bytes that it is read from
pub number_bound : (s : List ℕ) → (number_at s).length ≤ length s
number_bound s =
    let m = minus_at s in
    omega (arith, signed-bound m (drop m s), leading-bound is_digit (drop m s), length-drop m s, minus-bound s)

pub signed-some : (minus : ℕ) (s : List ℕ) (n : ℕ) → n ≡ digits s → (n ≡ 0 → ⊥) → signed_at minus s ≡ sized minus n (value 0 (take n s))
signed-some minus s n d e = rw (sym d, ne_eqb n 0 e)
