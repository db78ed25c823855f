-- The coordinates stand where the part was.
use Rattle.std.proofs.Common.{◌≡◌, ◌+◌, ◌-◌, length, take, arith, rules, length-take-le}
use Rattle.integers.specs.Runs.{part-sets}
use Rattle.lattices.specs.Refusal.{most_coordinates}
use Rattle.catalogue_fold.proofs.printing.put_row.Goals as goal

pub returns : goal.returns
returns c =
    let wide : length c.args.v.now ≡ most_coordinates = search rules in
    let long : length (take c.args.m c.args.v.now) ≡ c.args.n + c.args.m - c.args.n = omega (arith, length-take-le c.args.m c.args.v.now (omega (arith, wide, c.requires.m_le_most_coordinates))) in
    part-sets c.args.n (c.args.n + c.args.m - c.args.n) c.args.out.now c.copy_from_slice.new.self (take c.args.m c.args.v.now) c.copy_from_slice.ensures.after long (omega arith)
