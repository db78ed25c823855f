use Rattle.std.proofs.Common.{◌+◌, arith, rules, subst}
use Rattle.catalogue_rules.specs.Write.{entry_words}
use Rattle.catalogue_rules.specs.Form.{EntryFits}
use Rattle.catalogue_rules.proofs.Laws.ReadEntries.{SeeFits}
use Rattle.catalogue_records.specs.EntriesIn.{entry_in}
use Rattle.catalogue_records.specs.Entries.{entry_at, entry_has}
use Rattle.catalogue_writer.specs.Puts.{Puts, puts_both}
use Rattle.catalogue_writer.specs.Upto.{up_to, up-to-most, up-to-next, length-next}
use Rattle.catalogue_writer.proofs.put_entries.Goals as goal

pub put_entry-n-requires : goal.put_entry-n-requires
put_entry-n-requires c =
    let l = c.args.entries.now in
    let i = c.loop-e.e-index in
    let has = entry_has l i (search rules) in record {
      entry_fits = has EntryFits c.requires.all;
      see_fits = has (λ e. SeeFits e.see) c.requires.all_2;
      room = omega (arith, length-next l i (search rules), up-to-most l (i + 1), c.loop-e.invariant.next, c.requires.room);
    }

pub loop-e-preserved : goal.loop-e-preserved
loop-e-preserved c =
    let l = c.args.entries.now in
    let i = c.loop-e.e-index in
    subst (λ ws. Puts c.args.out.now 0 ws c.put_entry-n.new.out c.put_entry-n.result) (up-to-next l i (search rules))
    (puts_both (up_to l i) (entry_words (entry_in (entry_at l i))) (omega (arith, up-to-most l i, c.requires.room)) c.loop-e.invariant c.put_entry-n.ensures)
