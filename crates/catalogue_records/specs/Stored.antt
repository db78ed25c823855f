-- An entry of the definition as the code stores it.
use Rattle.std.specs.Prelude.{false, pos, replicate, Option, Some, None}
use Rattle.std.proofs.Math.Option as maybe
use Rattle.catalogue_rules.specs.Catalogue as definition
use Rattle.catalogue_rules.specs.Catalogue.{old, new, coordinates, most_numbers}
use Rattle.catalogue_records.specs.declared.Form.{Form}
use Rattle.catalogue_records.specs.declared.Form.TheVariants.{Old, New}
use Rattle.catalogue_records.specs.declared.See.{See}
use Rattle.catalogue_records.specs.declared.Entry.{Entry}
use Rattle.integers.specs.Filled.{filled}

abbrev pub no_entry : Entry
no_entry = record { form = Old; number = 0; d = 0; m = 0; place = 0; draft = false; see = None; coordinates = replicate most_numbers (pos 0) }

abbrev pub stored_form : definition.Form → Form
stored_form old = Old
stored_form new = New

abbrev pub stored_see : maybe.Option definition.See → Option See
stored_see maybe.none = None
stored_see (maybe.some s) = Some (record { number = s.number; place = s.place })

abbrev pub entry_of : definition.Entry → Entry
entry_of e = record {
  form = stored_form e.head.form;
  number = e.head.number;
  d = e.head.d;
  m = e.head.m;
  place = e.head.place;
  draft = e.draft;
  see = stored_see e.see;
  coordinates = filled (pos 0) most_numbers (coordinates e.vectors);
}
