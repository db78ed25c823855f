-- Lookups in a merge.
use Rattle.std.specs.Prelude.{Bool, true, false, ℕ, eqb, Option, Some, None, Ok, Err}
use Rattle.std.specs.declared.result.Result.{Result}
use Rattle.refusals.specs.declared.Refusal.TheVariants.{NoSuchEntry}
use Rattle.refusals.specs.declared.Refused.{Refused}
use Rattle.merges.specs.declared.Answer.{Answer}
use Rattle.merges.specs.declared.Answer.TheVariants.{Provisional, Final, NotYet}

-- a see word names n
abbrev pub names : ℕ → Option ℕ → Bool
names n (Some m) = eqb m n
names n None = false

-- a number that no entry has: 17, unless the merge is open and a see word names it
abbrev pub missing_as : Bool → Bool → Result Answer Refused
missing_as false true = Ok NotYet
missing_as false false = Err (record { refusal = NoSuchEntry; place = 0 })
missing_as true named = Err (record { refusal = NoSuchEntry; place = 0 })

abbrev pub found_as : Bool → ℕ → Answer
found_as true standing = Final standing
found_as false standing = Provisional standing
