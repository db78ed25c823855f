-- The test of a number for zero.
use Rattle.std.specs.Prelude.{Bool, true, false, zero, suc, ℤ, pos, negsuc}

abbrev pub nonzero : ℤ → Bool
nonzero (pos zero) = false
nonzero (pos (suc n)) = true
nonzero (negsuc n) = true
