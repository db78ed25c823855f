use Rattle.std.proofs.Common.{◌∙◌, rules}
use Rattle.catalogue_rules.specs.Read.{read_all, read}
use Rattle.catalogue_reader.proofs.read.Goals as goal

pub returns-in_err-file-clause-outcome : goal.returns-in_err-file-clause-outcome
unfolding read
returns-in_err-file-clause-outcome c =
    let e = c.in_err-file.ensures (read_all c.args.bytes.now) in
    search rules

pub returns-clause-outcome : goal.returns-clause-outcome
unfolding read
returns-clause-outcome c = c.read_all.ensures.outcome ∙ c.in_ok-file.ensures (read_all c.args.bytes.now)
