-- How many bytes stand before a byte.
use Rattle.std.specs.Prelude.{Bool, not, List, ℕ, eqb}
use Rattle.text_parts.specs.Numbers.{leading}

abbrev pub is_other : ℕ → ℕ → Bool
is_other b c = not (eqb c b)

abbrev pub length_before : ℕ → List ℕ → ℕ
length_before b s = leading (is_other b) s
