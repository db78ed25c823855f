-- What was read has room in the text.
use Rattle.std.proofs.Common.{sym, ap, subst, arith, length, map}
use Rattle.integers.specs.All.{All}
use Rattle.catalogue_rules.specs.Form.{EntryFits}
use Rattle.catalogue_records.specs.Again.{formed}
use Rattle.catalogue_records.specs.EntriesIn.{entry_in}
use Rattle.text_rules.specs.Text.{text_of}
use Rattle.text_decoding.specs.Size.{text-size}
use Rattle.cli_merges.proofs.replies.put_decoded.Goals as goal

pub put_text-requires-clause-all : goal.put_text-requires-clause-all
put_text-requires-clause-all c =
    let w = formed _ c.in-Ok.c c.in-Ok.ensures.outcome in
    subst (All EntryFits) (sym (ap (map entry_in) c.list.ensures)) w.entered.fits

pub put_text-requires-clause-length_bound : goal.put_text-requires-clause-length_bound
put_text-requires-clause-length_bound c =
    let w = formed _ c.in-Ok.c c.in-Ok.ensures.outcome in
    omega (arith, text-size _ w, ap (λ l. length (text_of (map entry_in l))) c.list.ensures)
