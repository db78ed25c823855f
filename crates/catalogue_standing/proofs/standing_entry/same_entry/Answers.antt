-- Each test decides what is left.
use Rattle.std.proofs.Common.{sym, ◌∙◌}
use Rattle.catalogue_records.specs.EntriesIn.{entry_in}
use Rattle.fold_rules.proofs.Laws.Deciding.{different-m, different-d}
use Rattle.catalogue_standing.specs.OneEntry.{entered_generates}
use Rattle.catalogue_standing.proofs.standing_entry.same_entry.Goals as goal

pub returns-then-f-e : goal.returns-then-f-e
returns-then-f-e c = sym (different-m (entry_in c.args.f.now) (entry_in c.args.e.now) c.requires.sound.0 c.requires.sound.1 c.if-f-e.true)

pub returns-then-f-e-2 : goal.returns-then-f-e-2
returns-then-f-e-2 c = sym (different-d (entry_in c.args.f.now) (entry_in c.args.e.now) c.requires.sound.0 c.requires.sound.1 c.if-f-e-2.true)

pub returns : goal.returns
returns c =
    c.generates.ensures c.requires.chosen
    ∙ entered_generates (entry_in c.args.f.now) (entry_in c.args.e.now) c.requires.sound.0 c.requires.sound.1 c.if-f-e.false c.if-f-e-2.false c.requires.lattice_of c.requires.chosen.known
