-- The answer is fixed by what it says.
use Rattle.std.specs.Prelude.{◌≡◌, refl, ℕ, eqb, cond, Ok, Err}
use Rattle.std.proofs.Common.{sym, ap, ◌∙◌}
use Rattle.std.specs.declared.result.Result.{Result}
use Rattle.refusals.specs.declared.Refusal.{Refusal}
use Rattle.refusals.specs.declared.Refusal.TheVariants.{VectorCount, CoordinateCount, NumberCount, TooLong, Dependent, TargetCount, TargetTooLong, PartOfAWord, TooManyBytes, WordOutOfPlace, NumberNotFree, SeesNoEntry, WrongEnd, WordBehindEnd, TooManyEntries, OutputTooShort, NoSuchEntry, WrongMark, NumberTooLarge, HighBits, MergeClosed}
use Rattle.refusals.specs.declared.Refused.{Refused}
use Rattle.refusals.specs.Number.{number_of}
use Rattle.separation_answers.specs.declared.Separation as declared
use Rattle.separation_answers.specs.declared.Separation.TheVariants.{Same, DifferentM, DifferentD, FirstOutside, SecondOutside}
use Rattle.separation_rules.specs.Separation.{same, different_m, different_d, first_outside, second_outside, Separated, refused_at, told}
use Rattle.separation_answers.specs.Said.{said_by}

-- a refusal is found again by its number
refusal_of : ℕ → Refusal
refusal_of n =
    cond (eqb n 1) VectorCount (cond (eqb n 2) CoordinateCount (cond (eqb n 3) NumberCount (cond (eqb n 4) TooLong (cond (eqb n 5) Dependent (cond (eqb n 6) TargetCount (cond (eqb n 7) TargetTooLong (cond (eqb n 8) PartOfAWord (cond (eqb n 9) TooManyBytes (cond (eqb n 10) WordOutOfPlace (cond (eqb n 11) NumberNotFree (cond (eqb n 12) SeesNoEntry (cond (eqb n 13) WrongEnd (cond (eqb n 14) WordBehindEnd (cond (eqb n 15) TooManyEntries (cond (eqb n 16) OutputTooShort (cond (eqb n 17) NoSuchEntry (cond (eqb n 18) WrongMark (cond (eqb n 19) NumberTooLarge (cond (eqb n 20) HighBits MergeClosed)))))))))))))))))))

back-refusal : (e : Refusal) → refusal_of (number_of e) ≡ e
unfolding refusal_of
back-refusal VectorCount = refl
back-refusal CoordinateCount = refl
back-refusal NumberCount = refl
back-refusal TooLong = refl
back-refusal Dependent = refl
back-refusal TargetCount = refl
back-refusal TargetTooLong = refl
back-refusal PartOfAWord = refl
back-refusal TooManyBytes = refl
back-refusal WordOutOfPlace = refl
back-refusal NumberNotFree = refl
back-refusal SeesNoEntry = refl
back-refusal WrongEnd = refl
back-refusal WordBehindEnd = refl
back-refusal TooManyEntries = refl
back-refusal OutputTooShort = refl
back-refusal NoSuchEntry = refl
back-refusal WrongMark = refl
back-refusal NumberTooLarge = refl
back-refusal HighBits = refl
back-refusal MergeClosed = refl

pub number_of-once : (e f : Refusal) → number_of e ≡ number_of f → e ≡ f
number_of-once e f h = sym (back-refusal e) ∙ ap refusal_of h ∙ back-refusal f

-- the case and its values are found again
back : Separated → Result declared.Separation Refused
back (refused_at number place) = Err (record { refusal = refusal_of number; place = place })
back (told same) = Ok Same
back (told different_m) = Ok DifferentM
back (told different_d) = Ok DifferentD
back (told (first_outside position square)) = Ok (FirstOutside position square)
back (told (second_outside position square)) = Ok (SecondOutside position square)

back-said : (r : Result declared.Separation Refused) → back (said_by r) ≡ r
unfolding back
back-said (Err r) = ap (λ e. Err (record { refusal = e; place = r.place })) (back-refusal r.refusal)
back-said (Ok Same) = refl
back-said (Ok DifferentM) = refl
back-said (Ok DifferentD) = refl
back-said (Ok (FirstOutside position square)) = refl
back-said (Ok (SecondOutside position square)) = refl

pub said-once : (r s : Result declared.Separation Refused) → said_by r ≡ said_by s → r ≡ s
said-once r s e = sym (back-said r) ∙ ap back e ∙ back-said s
