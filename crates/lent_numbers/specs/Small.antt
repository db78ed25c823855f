-- Numbers of a refusal that fit signed numbers.
use Rattle.std.specs.Prelude.{ℕ, ◌≤◌, Ok, Err}
use Rattle.std.specs.declared.result.Result.{Result}
use Rattle.std.proofs.Common.{arith}
use Rattle.refusals.specs.declared.Refusal.{Refusal}
use Rattle.refusals.specs.declared.Refusal.TheVariants.{VectorCount, CoordinateCount, NumberCount, TooLong, Dependent, TargetCount, TargetTooLong, PartOfAWord, TooManyBytes, WordOutOfPlace, NumberNotFree, SeesNoEntry, WrongEnd, WordBehindEnd, TooManyEntries, OutputTooShort, NoSuchEntry, WrongMark, NumberTooLarge, HighBits, MergeClosed}
use Rattle.refusals.specs.declared.Refused.{Refused}
use Rattle.refusals.specs.Number.{number_of}
use Rattle.separation_rules.specs.Separation.{Separated, refused_at, told}

abbrev pub Small : Separated → Type 0
Small (refused_at number place) = (number ≤ 1000000000000) × (place ≤ 1000000000000)
Small (told s) = Unit {0}

-- what a writing gave: the refusal's number is small
abbrev pub SmallCount : Result ℕ Refused → Type 0
SmallCount (Ok count) = count ≤ 1000000000000
SmallCount (Err r) = r.place ≤ 1000000000000

pub number_of-most : (e : Refusal) → number_of e ≤ 21
number_of-most VectorCount = omega arith
number_of-most CoordinateCount = omega arith
number_of-most NumberCount = omega arith
number_of-most TooLong = omega arith
number_of-most Dependent = omega arith
number_of-most TargetCount = omega arith
number_of-most TargetTooLong = omega arith
number_of-most PartOfAWord = omega arith
number_of-most TooManyBytes = omega arith
number_of-most WordOutOfPlace = omega arith
number_of-most NumberNotFree = omega arith
number_of-most SeesNoEntry = omega arith
number_of-most WrongEnd = omega arith
number_of-most WordBehindEnd = omega arith
number_of-most TooManyEntries = omega arith
number_of-most OutputTooShort = omega arith
number_of-most NoSuchEntry = omega arith
number_of-most WrongMark = omega arith
number_of-most NumberTooLarge = omega arith
number_of-most HighBits = omega arith
number_of-most MergeClosed = omega arith
