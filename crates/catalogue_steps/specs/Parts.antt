-- An entry while it is read, as the code stores it: what each operation does to the stored fields.
use Rattle.std.specs.Prelude.{true, false, List, ℕ, ◌+◌, ℤ, pos, ◌+ℤ◌, ◌*ℤ◌, Option}
use Rattle.std.proofs.Math.Option as maybe
use Rattle.catalogue_rules.specs.Word.{Word, see}
use Rattle.catalogue_rules.specs.Catalogue as definition
use Rattle.catalogue_records.specs.declared.Form.{Form}
use Rattle.catalogue_records.specs.declared.Entry.{Entry}
use Rattle.catalogue_records.specs.declared.See.{See}
use Rattle.catalogue_records.specs.Stored.{stored_see}
use Rattle.catalogue_steps.specs.declared.parts.Part.{Part}

abbrev pub started : ℕ → ℕ → ℕ → ℕ → Part
started number d m place = record { number = number; d = d; m = m; place = place; row = 0; column = 0; square = pos 0; filled = 0; draft = false }

abbrev pub no_part : Part
no_part = started 0 0 0 0

abbrev pub put_coordinate : Part → ℤ → Part
put_coordinate p x = record p { column = p.column + 1; square = p.square +ℤ x *ℤ x; filled = p.filled + 1 }

abbrev pub put_vector : Part → Part
put_vector p = record p { row = p.row + 1; column = 0; square = pos 0 }

abbrev pub put_mark : Part → Part
put_mark p = record p { draft = true }

-- with the form of its head, its coordinates and its see word
abbrev pub whole : Part → Form → List ℤ → Option See → Entry
whole p f cs s = record { form = f; number = p.number; d = p.d; m = p.m; place = p.place; draft = p.draft; see = s; coordinates = cs }

-- the see word that a word at index i is
abbrev pub see_at : ℕ → Word → maybe.Option definition.See
see_at i (see number) = maybe.some (record { number = number; place = i })
see_at i _ = maybe.none

-- the entry that it makes whole
abbrev pub whole_at : Part → Form → List ℤ → ℕ → Word → Entry
whole_at p f cs i w = whole p f cs (stored_see (see_at i w))
