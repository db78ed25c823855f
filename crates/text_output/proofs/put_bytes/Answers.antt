-- The bytes copied over a part are stored there one after another.
use Rattle.std.proofs.Common.{arith}
use Rattle.integers.specs.Runs.{part-sets}
use Rattle.text_output.proofs.put_bytes.Goals as goal

pub returns : goal.returns
returns c = record { bytes = part-sets _ _ _ _ _ c.copy_from_slice.ensures.after (omega arith) (omega arith); place = omega arith }
