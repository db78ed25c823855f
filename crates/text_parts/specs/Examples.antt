-- The definitions at texts that can be read at a glance.
use Rattle.std.specs.Prelude.{◌≡◌, refl, [], ◌∷◌, pos, negsuc}
use Rattle.text_parts.specs.declared.Kind.TheVariants.{Semicolon, End, Unexpected, TooMany}
use Rattle.text_parts.specs.Tokens.{token_at}
use Rattle.text_parts.specs.Parts.{taken_at}
use Rattle.text_parts.specs.Counts.{counts_at}

-- "7 -3;"
two-numbers : taken_at 4 (55 ∷ 32 ∷ 45 ∷ 51 ∷ 59 ∷ []) ≡ record { numbers = pos 7 ∷ negsuc 2 ∷ []; length = 5; stop = Semicolon }
unfolding taken_at token_at
two-numbers = refl

-- "7 -3;" with room for one: the second stays where it is
no_room : taken_at 1 (55 ∷ 32 ∷ 45 ∷ 51 ∷ 59 ∷ []) ≡ record { numbers = pos 7 ∷ []; length = 1; stop = TooMany }
unfolding taken_at token_at
no_room = refl

-- "4x"
a_letter : taken_at 4 (52 ∷ 120 ∷ []) ≡ record { numbers = []; length = 0; stop = Unexpected }
unfolding taken_at token_at
a_letter = refl

-- "2 3 ;"
two-counts : counts_at (50 ∷ 32 ∷ 51 ∷ 32 ∷ 59 ∷ []) ≡ record { d = 2; m = 3; length = 5; stop = Semicolon }
unfolding taken_at token_at
two-counts = refl

-- nothing but a blank
empty : counts_at (32 ∷ []) ≡ record { d = 0; m = 0; length = 1; stop = End }
unfolding taken_at token_at
empty = refl
