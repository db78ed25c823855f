-- The number that the documents give each refusal, as the code names them.
use Rattle.std.specs.Prelude.{◌≡◌, refl, ◌≢◌, List, [], ◌∷◌, ℕ, Ok, Err, get_or}
use Rattle.std.proofs.Common.{sym, ap, ◌∙◌, arith}
use Rattle.std.specs.declared.result.Result.{Result}
use Rattle.refusals.specs.declared.Refusal.{Refusal}
use Rattle.refusals.specs.declared.Refusal.TheVariants.{VectorCount, CoordinateCount, NumberCount, TooLong, Dependent, TargetCount, TargetTooLong, PartOfAWord, TooManyBytes, WordOutOfPlace, NumberNotFree, SeesNoEntry, WrongEnd, WordBehindEnd, TooManyEntries, OutputTooShort, NoSuchEntry, WrongMark, NumberTooLarge, HighBits, MergeClosed}

-- R9.1 to R9.21
abbrev pub number_of : Refusal → ℕ
number_of VectorCount = 1
number_of CoordinateCount = 2
number_of NumberCount = 3
number_of TooLong = 4
number_of Dependent = 5
number_of TargetCount = 6
number_of TargetTooLong = 7
number_of PartOfAWord = 8
number_of TooManyBytes = 9
number_of WordOutOfPlace = 10
number_of NumberNotFree = 11
number_of SeesNoEntry = 12
number_of WrongEnd = 13
number_of WordBehindEnd = 14
number_of TooManyEntries = 15
number_of OutputTooShort = 16
number_of NoSuchEntry = 17
number_of WrongMark = 18
number_of NumberTooLarge = 19
number_of HighBits = 20
number_of MergeClosed = 21

-- R8.1: what was refused, by its number, and 0 for what was not
abbrev pub refusal_in : {A : Type 0} → Result A Refusal → ℕ
refusal_in (Ok a) = 0
refusal_in (Err e) = number_of e

-- 0 is no refusal's number
pub number_of-nonzero : (e : Refusal) → number_of e ≢ 0
number_of-nonzero VectorCount e = absurd (omega arith)
number_of-nonzero CoordinateCount e = absurd (omega arith)
number_of-nonzero NumberCount e = absurd (omega arith)
number_of-nonzero TooLong e = absurd (omega arith)
number_of-nonzero Dependent e = absurd (omega arith)
number_of-nonzero TargetCount e = absurd (omega arith)
number_of-nonzero TargetTooLong e = absurd (omega arith)
number_of-nonzero PartOfAWord e = absurd (omega arith)
number_of-nonzero TooManyBytes e = absurd (omega arith)
number_of-nonzero WordOutOfPlace e = absurd (omega arith)
number_of-nonzero NumberNotFree e = absurd (omega arith)
number_of-nonzero SeesNoEntry e = absurd (omega arith)
number_of-nonzero WrongEnd e = absurd (omega arith)
number_of-nonzero WordBehindEnd e = absurd (omega arith)
number_of-nonzero TooManyEntries e = absurd (omega arith)
number_of-nonzero OutputTooShort e = absurd (omega arith)
number_of-nonzero NoSuchEntry e = absurd (omega arith)
number_of-nonzero WrongMark e = absurd (omega arith)
number_of-nonzero NumberTooLarge e = absurd (omega arith)
number_of-nonzero HighBits e = absurd (omega arith)
number_of-nonzero MergeClosed e = absurd (omega arith)

-- the refusals by their numbers; at 0, which is no number of one, stands the first too
abbrev by_number : List Refusal
by_number = VectorCount ∷ VectorCount ∷ CoordinateCount ∷ NumberCount ∷ TooLong ∷ Dependent ∷ TargetCount ∷ TargetTooLong ∷ PartOfAWord ∷ TooManyBytes ∷ WordOutOfPlace ∷ NumberNotFree ∷ SeesNoEntry ∷ WrongEnd ∷ WordBehindEnd ∷ TooManyEntries ∷ OutputTooShort ∷ NoSuchEntry ∷ WrongMark ∷ NumberTooLarge ∷ HighBits ∷ MergeClosed ∷ []

by_number-back : (e : Refusal) → get_or by_number (number_of e) VectorCount ≡ e
by_number-back VectorCount = refl
by_number-back CoordinateCount = refl
by_number-back NumberCount = refl
by_number-back TooLong = refl
by_number-back Dependent = refl
by_number-back TargetCount = refl
by_number-back TargetTooLong = refl
by_number-back PartOfAWord = refl
by_number-back TooManyBytes = refl
by_number-back WordOutOfPlace = refl
by_number-back NumberNotFree = refl
by_number-back SeesNoEntry = refl
by_number-back WrongEnd = refl
by_number-back WordBehindEnd = refl
by_number-back TooManyEntries = refl
by_number-back OutputTooShort = refl
by_number-back NoSuchEntry = refl
by_number-back WrongMark = refl
by_number-back NumberTooLarge = refl
by_number-back HighBits = refl
by_number-back MergeClosed = refl

-- no two refusals share a number
pub number_of-once : (e f : Refusal) → number_of e ≡ number_of f → e ≡ f
number_of-once e f h = sym (by_number-back e) ∙ ap (λ n. get_or by_number n VectorCount) h ∙ by_number-back f
