-- What came into the text.
use Rattle.std.proofs.Common.{replicate}
use Rattle.merge_rules.specs.Merge.{file_of}
use Rattle.merges.specs.Stored.{merge_in}
use Rattle.cli_merges.specs.Prefix.{listed-few, few-written}
use Rattle.cli_merges.proofs.replies.put_listing.Goals as goal

pub put_written-requires-clause-length_in_bounds : goal.put_written-requires-clause-length_in_bounds
put_written-requires-clause-length_in_bounds c = few-written c.list-w.result c.list-w.new.out c.list-w.ensures (listed-few (file_of (merge_in c.args.merge)) (replicate 70152 0))
