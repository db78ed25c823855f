use Rattle.std.proofs.Common.{sym, ◌∙◌, rules}
use Rattle.catalogue_rules.specs.Form.{EntryFits}
use Rattle.catalogue_records.specs.Entries.{entry_at, entry_has, first-here, first-later}
use Rattle.catalogue_rules.specs.Read.{dependent_at}
use Rattle.catalogue_reader.specs.Ended.{dependent-here, dependent-none}
use Rattle.catalogue_reader.proofs.first_dependent.Goals as goal

pub dependent-requires : goal.dependent-requires
dependent-requires c = entry_has c.args.entries.now _ (search rules) EntryFits c.requires

pub returns-then-dependent : goal.returns-then-dependent
returns-then-dependent c =
    let e = entry_at c.args.entries.now c.loop-e.e-index in
    sym (c.loop-e.invariant ∙ first-here c.args.entries.now _ (search rules) dependent_at (dependent-here e (sym c.dependent.ensures ∙ c.if-dependent.true)))

pub loop-e-preserved : goal.loop-e-preserved
loop-e-preserved c =
    let e = entry_at c.args.entries.now c.loop-e.e-index in
    c.loop-e.invariant ∙ first-later c.args.entries.now _ (search rules) dependent_at (dependent-none e (sym c.dependent.ensures ∙ c.if-dependent.false))
