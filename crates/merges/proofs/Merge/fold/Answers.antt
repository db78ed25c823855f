-- The catalogue of the entries is that of the file.
use Rattle.std.proofs.Common.{◌∙◌}
use Rattle.merges.specs.Closing.{few-filed, was_read, fold-filed}
use Rattle.merges.proofs.Merge.fold.Goals as goal

pub list-requires : goal.list-requires
list-requires c = few-filed c.args.self c.requires.merge c.catalogue-c.ensures

pub fold_read-requires : goal.fold_read-requires
fold_read-requires c = was_read c.args.self c.requires.merge c.catalogue-c.ensures c.list.ensures c.requires.closed_value

pub returns : goal.returns
returns c = c.fold_read.ensures ∙ fold-filed c.args.self c.requires.merge c.catalogue-c.ensures c.list.ensures c.requires.closed_value c.args.out.now
