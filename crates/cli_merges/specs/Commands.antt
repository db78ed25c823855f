-- The commands of a merge: the word that a line begins with.
use Rattle.std.specs.Prelude.{Bool, true, false, cond, not, ◌&&◌, List, [], ◌∷◌, ℕ, ◌+◌, eqb, take, drop}
use Rattle.text_parts.specs.Numbers.{leading}
use Rattle.text_parts.specs.Tokens.{is_blank}
use Rattle.cli_merges.specs.declared.commands.Command.{Command}
use Rattle.cli_merges.specs.declared.commands.Command.TheVariants.{Add, Bytes, Look, Close, Listing, Fold, Unknown}

-- ---- the first word

-- how long the word is that the bytes begin with: up to a blank, or to the end
abbrev pub word_length : List ℕ → ℕ
word_length s = leading (λ b. not (is_blank b)) s

-- where the first word ends, behind the blanks before it
abbrev pub word_end : List ℕ → ℕ
word_end s = let n = leading is_blank s in n + word_length (drop n s)

abbrev pub first_word : List ℕ → List ℕ
first_word s = let rest = drop (leading is_blank s) s in take (word_length rest) rest

-- ---- the command that it is

abbrev pub same : List ℕ → List ℕ → Bool
same [] [] = true
same [] (b ∷ w) = false
same (a ∷ s) [] = false
same (a ∷ s) (b ∷ w) = eqb a b && same s w

-- "add"
abbrev pub add_word : List ℕ
add_word = 97 ∷ 100 ∷ 100 ∷ []

-- "bytes"
abbrev pub bytes_word : List ℕ
bytes_word = 98 ∷ 121 ∷ 116 ∷ 101 ∷ 115 ∷ []

-- "look"
abbrev pub look_word : List ℕ
look_word = 108 ∷ 111 ∷ 111 ∷ 107 ∷ []

-- "close"
abbrev pub close_word : List ℕ
close_word = 99 ∷ 108 ∷ 111 ∷ 115 ∷ 101 ∷ []

-- "list"
abbrev pub list_word : List ℕ
list_word = 108 ∷ 105 ∷ 115 ∷ 116 ∷ []

-- "fold"
abbrev pub fold_word : List ℕ
fold_word = 102 ∷ 111 ∷ 108 ∷ 100 ∷ []

abbrev pub command_of : List ℕ → Command
command_of w =
    cond (same w add_word) Add (cond (same w bytes_word) Bytes (cond (same w look_word) Look (cond (same w close_word) Close (cond (same w list_word) Listing (cond (same w fold_word) Fold Unknown)))))
