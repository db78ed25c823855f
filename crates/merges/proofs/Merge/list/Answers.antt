-- The catalogue of the entries is that of the file.
use Rattle.std.proofs.Common.{◌∙◌}
use Rattle.merges.specs.Closing.{few-filed, was_read, list-filed}
use Rattle.merges.proofs.Merge.list.Goals as goal

pub list-requires : goal.list-requires
list-requires c = few-filed c.args.self c.requires.merge c.catalogue-c.ensures

pub list_read-requires : goal.list_read-requires
list_read-requires c = was_read c.args.self c.requires.merge c.catalogue-c.ensures c.list.ensures c.requires.closed_value

pub returns : goal.returns
returns c = c.list_read.ensures.value ∙ list-filed c.args.self c.requires.merge c.catalogue-c.ensures c.list.ensures c.requires.closed_value c.args.out.now
