use Rattle.std.proofs.Common.{sym, ap, subst, arith, length, length-append, map, ◌++◌}
use Rattle.catalogue_rules.specs.Form.{EntryFits}
use Rattle.catalogue_rules.specs.Read.{form_of}
use Rattle.catalogue_records.specs.EntriesIn.{entry_in}
use Rattle.catalogue_records.specs.Entries.{beyond, inside, at_place, entry_has}
use Rattle.text_rules.specs.Text.{entry_text, form_text}
use Rattle.text_output.specs.Puts.{Puts, puts-length}
use Rattle.text_output.specs.Joined.{joined, joined-room, puts-next}
use Rattle.text_decoding.specs.Parts.{text-joined}
use Rattle.text_decoding.proofs.put_entries.Goals as goal

pub put_entry-n-requires : goal.put_entry-n-requires
put_entry-n-requires c =
    let l = c.args.entries.now in
    let es = map entry_in l in
    let k = c.loop-e.e-index in
    let here = c.loop-e-test.true in
    let first = form_text (form_of es) in record {
      entry_fits = entry_has l k here EntryFits c.requires.all;
      e_in_bounds = omega (
        arith,
        joined-room entry_text es k (entry_in beyond) (inside l k here),
        ap (λ e. length (entry_text e)) (at_place l k here),
        length-append first (joined entry_text es),
        ap (λ t. length (first ++ t)) (text-joined es),
        c.requires.entries_in_bounds,
        c.put_form-n.ensures.place,
        puts-length c.put_form-n.ensures,
        c.loop-e.invariant.place,
        puts-length c.loop-e.invariant,
      );
    }

pub loop-e-preserved : goal.loop-e-preserved
loop-e-preserved c =
    let l = c.args.entries.now in
    let k = c.loop-e.e-index in
    let here = c.loop-e-test.true in
    puts-next entry_text (map entry_in l) k (entry_in beyond) (inside l k here) c.loop-e.invariant
    (subst (λ e. Puts (entry_text e) c.loop-e.out c.loop-e.n c.put_entry-n.new.out c.put_entry-n.result) (sym (at_place l k here)) c.put_entry-n.ensures)
