-- A blank line, a wrong one, or an entry.
use Rattle.std.proofs.Common.{sym, ap, ◌∙◌, Ok}
use Rattle.catalogue_records.specs.EntriesIn.{form_in}
use Rattle.text_lines.specs.ToldLaws.{line-right, line-wrong}
use Rattle.text_encoding.specs.Tells.{adds-wrong, adds-entry}
use Rattle.text_encoding.proofs.with_line.Goals as goal

pub returns-in-Ok-Some : goal.returns-in-Ok-Some
returns-in-Ok-Some c =
    let h = line-right (form_in c.args.form) c.args.s.now (sym c.read_line.ensures.value ∙ c.in-Ok-Some.is ∙ ap Ok c.in-Ok-Some.field-0-is) in
    adds-entry (form_in c.args.form) c.args.s.now h.0 h.1 c.put_line.ensures

pub returns-in-Err : goal.returns-in-Err
returns-in-Err c =
    let h = line-wrong (form_in c.args.form) c.args.s.now (sym c.read_line.ensures.value ∙ c.in-Err.is) in
    adds-wrong (form_in c.args.form) c.args.s.now c.args.out.now c.args.e h.0 h.1
