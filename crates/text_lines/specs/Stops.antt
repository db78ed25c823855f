-- How a part may stop wrongly.
use Rattle.std.specs.Prelude.{Bool, true, false}
use Rattle.text_parts.specs.declared.Kind.{Kind}
use Rattle.text_parts.specs.declared.Kind.TheVariants.{Number, Semicolon, End, Unexpected, TooLarge, TooMany, NoCount}

-- at a number beyond 64 bits
abbrev pub is_large : Kind → Bool
is_large (Number z) = false
is_large Semicolon = false
is_large End = false
is_large Unexpected = false
is_large TooLarge = true
is_large TooMany = false
is_large NoCount = false

-- at a number too many
abbrev pub is_many : Kind → Bool
is_many (Number z) = false
is_many Semicolon = false
is_many End = false
is_many Unexpected = false
is_many TooLarge = false
is_many TooMany = true
is_many NoCount = false
