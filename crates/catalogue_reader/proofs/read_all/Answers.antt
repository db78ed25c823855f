use Rattle.std.proofs.Common.{sym, subst, map}
use Rattle.catalogue_rules.specs.Form.{EntryFits}
use Rattle.integers.specs.All.{All}
use Rattle.catalogue_records.specs.EntriesIn.{entry_in}
use Rattle.catalogue_reader.specs.Whole.{entered, few-entries}
use Rattle.catalogue_reader.proofs.read_all.Goals as goal

pub list-requires : goal.list-requires
list-requires c = few-entries c.args.bytes.now c.in_ok-c.c c.in_ok-c.ensures.outcome c.in_ok-c.ensures.stored

pub first_dependent-requires : goal.first_dependent-requires
first_dependent-requires c =
    subst (λ l. All EntryFits (map entry_in l)) (sym c.list.ensures) (entered c.args.bytes.now c.in_ok-c.c c.in_ok-c.ensures.outcome).fits
