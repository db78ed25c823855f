-- Fields and lines: "One space stands between fields, and every line ends with a newline."
use Rattle.std.specs.Prelude.{List, [], ◌∷◌, ◌++◌, ℕ}

-- R11.1: the fields behind the first, and the end of the line
abbrev pub after : List (List ℕ) → List ℕ
after [] = 10 ∷ []
after (field ∷ fields) = 32 ∷ (field ++ after fields)

-- R11.1
abbrev pub line : List ℕ → List (List ℕ) → List ℕ
line field fields = field ++ after fields
