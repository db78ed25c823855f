use Rattle.std.proofs.Common.{◌+◌, arith, rules}
use Rattle.catalogue_rules.specs.Form.{EntryFits}
use Rattle.catalogue_records.specs.Entries.{entry_has}
use Rattle.catalogue_writer.specs.Upto.{up-to-most, length-next, few_words}
use Rattle.catalogue_writer.proofs.count_words.Goals as goal

pub count_entry-n-requires : goal.count_entry-n-requires
count_entry-n-requires c = entry_has c.args.entries.now _ (search rules) EntryFits c.requires.all

pub overflow_add-n : goal.overflow_add-n
overflow_add-n c =
    let l = c.args.entries.now in
    let i = c.loop-e.e-index in
    omega (arith, c.count_entry-n.ensures, length-next l i (search rules), up-to-most l (i + 1), few_words l c.requires.entries_few c.requires.all)

pub loop-e-preserved : goal.loop-e-preserved
loop-e-preserved c = omega (arith, c.count_entry-n.ensures, length-next c.args.entries.now c.loop-e.e-index (search rules))
