-- `level` tests both sides.
use mir.Facts.{to_z-of_z}
use Rattle.solution_tenths.specs.Tests.{Tested, tested}
use Rattle.solution_tenths.proofs.level.Goals as goal

pub overflow_mul-most : goal.overflow_mul-most
overflow_mul-most c =
    let here : Tested c.args.n c.args.p =
    tested c.requires.within c.requires.within_2 in
    let f = here in simp (to_z-of_z, f.square) f.most

pub overflow_mul-twice : goal.overflow_mul-twice
overflow_mul-twice c =
    let here : Tested c.args.n c.args.p =
    tested c.requires.within c.requires.within_2 in
    let f = here in simp (to_z-of_z, f.inner) f.twice
