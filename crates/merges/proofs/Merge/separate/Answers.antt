-- The catalogue of the entries is that of the file.
use Rattle.std.proofs.Common.{◌∙◌}
use Rattle.merges.specs.Closing.{few-filed, was_read, separate_filed}
use Rattle.merges.proofs.Merge.separate.Goals as goal

pub list-requires : goal.list-requires
list-requires c = few-filed c.args.self c.requires.merge c.catalogue-c.ensures

pub separate_read-requires : goal.separate_read-requires
separate_read-requires c = was_read c.args.self c.requires.merge c.catalogue-c.ensures c.list.ensures c.requires.closed_value

pub returns : goal.returns
returns c = c.separate_read.ensures ∙ separate_filed c.args.self c.requires.merge c.catalogue-c.ensures c.list.ensures c.requires.closed_value c.args.first c.args.second
