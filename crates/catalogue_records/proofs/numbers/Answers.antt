use Rattle.std.proofs.Common.{ap, ◌∙◌, arith, set}
use Rattle.integers.specs.FilledLaws.{filled_more}
use Rattle.catalogue_rules.specs.Catalogue.{most_entries}
use Rattle.catalogue_records.specs.Entries.{beyond, entry_at}
use Rattle.catalogue_records.proofs.numbers.Goals as goal

pub loop-k-preserved : goal.loop-k-preserved
loop-k-preserved c =
    let entries = c.args.entries.now in
    let k = c.loop-k.k in
    ap (λ ns. set ns k (entry_at entries k).number) c.loop-k.invariant ∙ filled_more 0 most_entries (λ e. e.number) entries k beyond (omega arith) (omega arith)
