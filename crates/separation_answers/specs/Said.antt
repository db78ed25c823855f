-- The answer's enum: what number and values each of its cases stands for.
use Rattle.std.specs.Prelude.{Ok, Err}
use Rattle.std.specs.declared.result.Result.{Result}
use Rattle.refusals.specs.declared.Refused.{Refused}
use Rattle.refusals.specs.Number.{number_of}
use Rattle.separation_answers.specs.declared.Separation as declared
use Rattle.separation_answers.specs.declared.Separation.TheVariants.{Same, DifferentM, DifferentD, FirstOutside, SecondOutside}
use Rattle.separation_rules.specs.Separation.{Separation, same, different_m, different_d, first_outside, second_outside, Separated, refused_at, told}

-- R17.1, R17.2: the one of the five with its position and its squared distance
abbrev pub told_by : declared.Separation → Separation
told_by Same = same
told_by DifferentM = different_m
told_by DifferentD = different_d
told_by (FirstOutside position square) = first_outside position square
told_by (SecondOutside position square) = second_outside position square

-- or the refusal's number and its place
abbrev pub said_by : Result declared.Separation Refused → Separated
said_by (Ok s) = told (told_by s)
said_by (Err r) = refused_at (number_of r.refusal) r.place
