-- The number that bytes begin with: its digits, the value that they write, and what is read of it.
use Rattle.std.specs.Prelude.{Bool, cond, Option, None, Some, ◌&&◌, List, [], ◌∷◌, ℕ, suc, ◌+◌, ◌-◌, ◌*◌, get_or, take, drop, ℤ, pos, neg_ℤ, leb, ltb, eqb}
use Rattle.text_parts.specs.declared.Kind.{Kind}
use Rattle.text_parts.specs.declared.Kind.TheVariants.{Number, Unexpected, TooLarge}
use Rattle.text_parts.specs.declared.Token.{Token}

abbrev pub is_digit : ℕ → Bool
is_digit b = leb 48 b && leb b 57

-- how many bytes of the kind f the bytes begin with
abbrev pub leading : (ℕ → Bool) → List ℕ → ℕ
leading f [] = 0
leading f (b ∷ bs) = cond (f b) (suc (leading f bs)) 0

-- how many digits the bytes begin with
abbrev pub digits : List ℕ → ℕ
digits s = leading is_digit s

-- the bytes as digits after the number n
abbrev pub value : ℕ → List ℕ → ℕ
value n [] = n
value n (b ∷ bs) = value (n * 10 + (b - 48)) bs

-- the least number whose size no i64 has
abbrev pub beyond : ℕ
beyond = 9223372036854775809

-- the largest number of 64 bits
abbrev pub largest : ℕ
largest = 18446744073709551615

-- minus says how many signs there are
abbrev pub with_sign : ℕ → ℕ → ℤ
with_sign minus n = cond (eqb minus 0) (pos n) (neg_ℤ (pos n))

-- the number with that size, where an i64 has it
abbrev pub signed_within : ℕ → ℕ → Option ℤ
signed_within minus n = cond (ltb (9223372036854775807 + minus) n) None (Some (with_sign minus n))

abbrev pub wrong : Kind → ℕ → Token
wrong k n = record { kind = k; length = n }

abbrev pub read : ℕ → ℤ → Token
read n z = record { kind = Number z; length = n }

-- a number of n digits and that size
abbrev pub sized : ℕ → ℕ → ℕ → Token
sized minus n size = cond (ltb (9223372036854775807 + minus) size) (wrong TooLarge (n + minus)) (read (n + minus) (with_sign minus size))

-- the number whose digits the bytes begin with
abbrev pub signed_at : ℕ → List ℕ → Token
signed_at minus s = cond (eqb (digits s) 0) (wrong Unexpected 0) (sized minus (digits s) (value 0 (take (digits s) s)))

abbrev pub minus_at : List ℕ → ℕ
minus_at s = cond (eqb (get_or s 0 0) 45) 1 0

-- R13.2: the number that the bytes begin with
abbrev pub number_at : List ℕ → Token
number_at s = signed_at (minus_at s) (drop (minus_at s) s)
