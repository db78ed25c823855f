use Rattle.std.proofs.Common.{ap₂, ◌∙◌, arith, set}
use Rattle.integers.specs.FilledLaws.{filled_more}
use Rattle.catalogue_rules.specs.Catalogue.{most_entries}
use Rattle.catalogue_records.specs.Stored.{no_entry}
use Rattle.catalogue_records.specs.Entries.{beyond}
use Rattle.catalogue_moves.specs.Moved.{stored_in}
use Rattle.catalogue_moves.proofs.in_form.Goals as goal

pub loop-k-preserved : goal.loop-k-preserved
loop-k-preserved c =
    ap₂ (λ es e. set es c.loop-k.k e) c.loop-k.invariant c.with_form.ensures
    ∙ filled_more no_entry most_entries (stored_in c.args.form) c.args.entries.now c.loop-k.k beyond (omega arith) (omega arith)
