-- Bytes as hexadecimal digits, two to a byte, the higher first.
use Rattle.std.specs.Prelude.{Bool, cond, ◌&&◌, ◌||◌, List, [], ◌∷◌, ℕ, ◌+◌, ◌-◌, ◌*◌, leb}

abbrev pub between : (low high b : ℕ) → Bool
between low high b = leb low b && leb b high

-- "0" to "9", "A" to "F", "a" to "f"
abbrev pub is_digit : ℕ → Bool
is_digit b = between 48 57 b || (between 65 70 b || between 97 102 b)

-- what a digit counts; 0 for what is none
abbrev pub digit : ℕ → ℕ
digit b = cond (between 48 57 b) (b - 48) (cond (between 65 70 b) (b - 55) (cond (between 97 102 b) (b - 87) 0))

abbrev pub byte_of : (high low : ℕ) → ℕ
byte_of high low = digit high * 16 + digit low

-- the bytes that digits write; a last one that has no fellow writes none
abbrev pub bytes_in : List ℕ → List ℕ
bytes_in [] = []
bytes_in (high ∷ []) = []
bytes_in (high ∷ low ∷ s) = byte_of high low ∷ bytes_in s
