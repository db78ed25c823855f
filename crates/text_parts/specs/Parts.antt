-- The parts of a request: numbers up to a semicolon, the end or a mistake.
use Rattle.std.specs.Prelude.{Bool, true, false, cond, List, [], ◌∷◌, ◌++◌, ℕ, zero, suc, ◌+◌, ℤ, pos, length, drop}
use Rattle.text_parts.specs.declared.Kind.{Kind}
use Rattle.text_parts.specs.declared.Kind.TheVariants.{Number, Semicolon, End, Unexpected, TooLarge, TooMany, NoCount}
use Rattle.text_parts.specs.declared.Token.{Token}
use Rattle.text_parts.specs.declared.Part.{Part}
use Rattle.text_parts.specs.Tokens.{token_at}

abbrev pub is_number : Kind → Bool
is_number (Number z) = true
is_number Semicolon = false
is_number End = false
is_number Unexpected = false
is_number TooLarge = false
is_number TooMany = false
is_number NoCount = false

abbrev pub is_semicolon : Kind → Bool
is_semicolon (Number z) = false
is_semicolon Semicolon = true
is_semicolon End = false
is_semicolon Unexpected = false
is_semicolon TooLarge = false
is_semicolon TooMany = false
is_semicolon NoCount = false

abbrev pub is_end : Kind → Bool
is_end (Number z) = false
is_end Semicolon = false
is_end End = true
is_end Unexpected = false
is_end TooLarge = false
is_end TooMany = false
is_end NoCount = false

-- the number that a token is
abbrev pub number_in : Kind → ℤ
number_in (Number z) = z
number_in Semicolon = pos 0
number_in End = pos 0
number_in Unexpected = pos 0
number_in TooLarge = pos 0
number_in TooMany = pos 0
number_in NoCount = pos 0

-- the numbers of a part, how many bytes they take with the token after them, and that token's kind
pub record Taken : Type 0 where
  pub numbers : List ℤ
  pub length : ℕ
  pub stop : Kind

abbrev pub stopped : ℕ → Kind → Taken
stopped n k = record { numbers = []; length = n; stop = k }

-- a number before the others
abbrev pub more : Token → Taken → Taken
more t p = record { numbers = number_in t.kind ∷ p.numbers; length = t.length + p.length; stop = p.stop }

-- R13.1, R14.1: what the bytes begin with, where there is room for so many numbers: one too many stays where it is
unfoldable pub taken_at : ℕ → List ℕ → Taken
taken_at zero s = let t = token_at s in cond (is_number t.kind) (stopped 0 TooMany) (stopped t.length t.kind)
taken_at (suc room) s = let t = token_at s in cond (is_number t.kind) (more t (taken_at room (drop t.length s))) (stopped t.length t.kind)

abbrev pub part_of : Taken → Part
part_of p = record { count = length p.numbers; length = p.length; stop = p.stop }

-- a lent run of numbers after they are put at its beginning
abbrev pub filled : Taken → List ℤ → List ℤ
filled p before = p.numbers ++ drop (length p.numbers) before
