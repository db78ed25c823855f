-- The places of an entry's words.
use Rattle.std.specs.Prelude.{Bool, true, false, ℕ, ◌+◌, ◌*◌, ◌≤◌, Option, is_some}
use Rattle.std.proofs.Common.{arith}
use mir.Val.{bool_byte}

-- of its see word, or after it where it has none, the head being at this place
abbrev pub see_place_at : ℕ → ℕ → ℕ → Bool → ℕ
see_place_at place d m draft = place + 2 + d * m + bool_byte draft

-- after the entry
abbrev pub after_word : ℕ → Option ℕ → ℕ
after_word at see = at + bool_byte (is_some see)

pub bit-most : (b : Bool) → bool_byte b ≤ 1
bit-most true = omega arith
bit-most false = omega arith
