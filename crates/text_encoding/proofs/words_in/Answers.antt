-- A blank line, a wrong one, or an entry.
use Rattle.std.proofs.Common.{sym, ap, ◌∙◌, Ok}
use Rattle.catalogue_records.specs.EntriesIn.{form_in}
use Rattle.text_lines.specs.ToldLaws.{line-right, line-wrong}
use Rattle.text_encoding.specs.Counts.{wrong-words, right-words}
use Rattle.text_encoding.proofs.words_in.Goals as goal

pub returns-in-Ok-Some : goal.returns-in-Ok-Some
returns-in-Ok-Some c =
    let h = line-right (form_in c.args.form) c.args.s.now (sym c.read_line.ensures.value ∙ c.in-Ok-Some.is ∙ ap Ok c.in-Ok-Some.field-0-is) in
    c.count_words.ensures ∙ right-words (form_in c.args.form) c.args.s.now h.0 h.1

pub returns-in-Err : goal.returns-in-Err
returns-in-Err c =
    let h = line-wrong (form_in c.args.form) c.args.s.now (sym c.read_line.ensures.value ∙ c.in-Err.is) in
    wrong-words (form_in c.args.form) c.args.s.now h.0 h.1
