-- The bytes from place from on stand at the start.
use Rattle.cli_lines.specs.Moved.{moved-kept}
use Rattle.cli_lines.proofs.keep.Goals as goal

pub returns-clause-bytes_after : goal.returns-clause-bytes_after
returns-clause-bytes_after c =
    moved-kept c.args.from c.args.end c.args.bytes.now c.copy_within.new.self c.min-n.result c.requires.from_le_end c.requires.end_in_bounds c.min-n.ensures c.copy_within.ensures.after
