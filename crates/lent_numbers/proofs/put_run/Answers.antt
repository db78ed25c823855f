-- The numbers stand where the part was.
use Rattle.std.specs.Prelude.{◌+◌, ◌-◌, length}
use Rattle.std.proofs.Common.{arith}
use Rattle.integers.specs.Runs.{part-sets}
use Rattle.lent_numbers.proofs.put_run.Goals as goal

pub returns : goal.returns
returns c = part-sets c.args.at (c.args.at + length c.args.run.now - c.args.at) c.args.out.now c.copy_from_slice.new.self c.args.run.now c.copy_from_slice.ensures.after (omega arith) (omega arith)
