-- One word or two for the head, d times m for the coordinates, one for a mark, one for a see word.
use Rattle.std.proofs.Common.{◌≡◌, refl, ap, arith, rules, length, Bool, true, false, Some, None}
use Rattle.std.specs.Prelude.{Option, is_some}
use mir.Val.{bool_byte}
use Rattle.catalogue_rules.specs.Catalogue.{most_numbers}
use Rattle.catalogue_rules.specs.Write.{draft_words, see_words}
use Rattle.catalogue_rules.proofs.Laws.WrittenSize.{length-head}
use Rattle.catalogue_records.specs.declared.See.{See}
use Rattle.catalogue_records.specs.EntriesIn.{see_in, entry_in}
use Rattle.catalogue_writer.specs.Loads.{length-basis, length-parts}
use Rattle.catalogue_writer.proofs.count_entry.Goals as goal

mark-counted : (t : Bool) → length (draft_words t) ≡ bool_byte t
mark-counted true = refl
mark-counted false = refl

see-counted : (s : Option See) → length (see_words (see_in s)) ≡ bool_byte (is_some s)
see-counted None = refl
see-counted (Some s) = refl

pub returns : goal.returns
returns c =
    let e = c.args.e.now in
    let long : length e.coordinates ≡ most_numbers = search rules in
    omega (
      arith,
      c.head_length.ensures,
      c.from.ensures,
      c.from-2.ensures,
      ap bool_byte c.is_some.ensures,
      length-head (entry_in e).head,
      length-basis e c.requires long,
      length-parts (entry_in e),
      mark-counted e.draft,
      see-counted e.see,
    )
