-- The sum of squares of a vector stays small.
use Rattle.std.proofs.Common.{sym, subst, arith, pos, ◌-ℤ◌, to_z, of_z}
use Rattle.std.specs.Int.{w64}
use Rattle.std.proofs.lemmas.Int.{ints}
use Rattle.integers.specs.Size.{Within, within-le, within-add, within-mul}
use Rattle.catalogue_steps.proofs.reading.Reading.at_coordinate.Goals as goal

pub at_vector-requires-clause-within : goal.at_vector-requires-clause-within
at_vector-requires-clause-within c =
    let small : Within 20000 (to_z w64 (of_z w64 (to_z w64 (of_z w64 c.from.result) -ℤ pos 20000))) = record { within = omega (arith, ints, c.from.ensures) } in
    subst (λ p. Within 8000000000 p.square) (sym c.with_coordinate-part.ensures) (within-le (omega arith) (within-add c.requires.within (within-mul small small)))
