-- The tokens of a request: numbers, semicolons and the end, with the blanks before them.
use Rattle.std.specs.Prelude.{Bool, true, cond, ◌||◌, List, [], ◌∷◌, ℕ, ◌+◌, drop, eqb}
use Rattle.text_parts.specs.declared.Kind.TheVariants.{Semicolon, End, Unexpected}
use Rattle.text_parts.specs.declared.Token.{Token}
use Rattle.text_parts.specs.Numbers.{leading, wrong, number_at}

-- R13.2: tab, carriage return, space
abbrev pub is_blank : ℕ → Bool
is_blank b = eqb b 9 || (eqb b 13 || eqb b 32)

-- R13.2: whether a number may end before the bytes: a semicolon, a blank, or nothing
abbrev pub ends : List ℕ → Bool
ends [] = true
ends (b ∷ bs) = eqb b 59 || is_blank b

-- a number is one only where it may end
abbrev pub ended : List ℕ → Token → Token
ended s t = cond (ends (drop t.length s)) t (wrong Unexpected 0)

-- the token that the bytes begin with
abbrev pub token_here : List ℕ → Token
token_here [] = wrong End 0
token_here (b ∷ bs) = cond (eqb b 59) (wrong Semicolon 1) (ended (b ∷ bs) (number_at (b ∷ bs)))

-- a token with n blanks before it
abbrev pub later : ℕ → Token → Token
later n t = record { kind = t.kind; length = n + t.length }

-- R13.2: the first token of the bytes
unfoldable pub token_at : List ℕ → Token
token_at s = later (leading is_blank s) (token_here (drop (leading is_blank s) s))
