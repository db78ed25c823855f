-- What was read has room in the text.
use Rattle.std.proofs.Common.{sym, ap, subst, arith, length, map}
use Rattle.integers.specs.All.{All}
use Rattle.catalogue_rules.specs.Form.{EntryFits}
use Rattle.catalogue_records.specs.Again.{formed}
use Rattle.catalogue_records.specs.EntriesIn.{entry_in}
use Rattle.text_rules.specs.Text.{text_of}
use Rattle.text_decoding.specs.Size.{text-size}
use Rattle.cli_catalogues.proofs.decode.Goals as goal

pub put_entries-length-requires : goal.put_entries-length-requires
put_entries-length-requires g c =
    let w = formed _ c.in-Ok.c c.in-Ok.ensures.outcome in
    let same = ap (map entry_in) c.list.ensures in record {
      all = subst (All EntryFits) (sym same) w.entered.fits;
      entries_in_bounds = omega (arith, text-size _ w, ap (λ l. length (text_of l)) same);
    }
