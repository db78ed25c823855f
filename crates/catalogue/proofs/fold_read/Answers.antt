-- The list is closed, then folded, then written.
use Rattle.std.proofs.Common.{◌∙◌}
use Rattle.catalogue.specs.Outcome.{few-folded, formed-folded, fold-written}
use Rattle.catalogue.proofs.fold_read.Goals as goal

pub list-requires : goal.list-requires
list-requires c = few-folded c.args.entries.now c.requires c.folded-f.ensures

pub write_entries-requires : goal.write_entries-requires
write_entries-requires c = formed-folded c.args.entries.now c.requires c.folded-f.ensures c.list.ensures

pub returns : goal.returns
returns c = c.write_entries.ensures ∙ fold-written c.args.entries.now c.requires c.folded-f.ensures c.list.ensures c.args.out.now
