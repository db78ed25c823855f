-- The case of the first word.
use Rattle.std.proofs.Common.{ap, ◌∙◌}
use Rattle.catalogue_rules.specs.Word.{decode}
use Rattle.catalogue_records.specs.EntriesIn.{form_in}
use Rattle.catalogue_reader.specs.Opening.{opens-first}
use Rattle.catalogue_reader.proofs.opens_in.Goals as goal

pub returns-then-bytes-ge4 : goal.returns-then-bytes-ge4
returns-then-bytes-ge4 c =
    c.opens.ensures ∙ opens-first (form_in c.args.form) c.args.bytes.now c.if-bytes-ge4.true (c.decode.ensures ∙ ap decode c.word_at.ensures)
