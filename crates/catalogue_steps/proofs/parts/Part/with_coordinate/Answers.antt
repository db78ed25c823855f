-- The sum of squares stays small.
use Rattle.std.proofs.Common.{◌+ℤ◌, ◌*ℤ◌, SFits, to_z-of_z}
use Rattle.std.specs.Int.{w64}
use Rattle.integers.specs.Size.{within-add, within-mul, fits-within}
use Rattle.catalogue_steps.proofs.parts.Part.with_coordinate.Goals as goal

pub returns : goal.returns
returns c =
    let before : SFits w64 c.args.self.square = fits-within c.requires.within tt in
    let factor : SFits w64 c.args.x = fits-within c.requires.within_2 tt in
    let product : SFits w64 (c.args.x *ℤ c.args.x) = fits-within (within-mul c.requires.within_2 c.requires.within_2) tt in
    let sum : SFits w64 (c.args.self.square +ℤ c.args.x *ℤ c.args.x) = fits-within (within-add c.requires.within (within-mul c.requires.within_2 c.requires.within_2)) tt in
    simp (to_z-of_z, before, factor, product, sum)
