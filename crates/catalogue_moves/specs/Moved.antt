-- Stored entries with their heads in a form.
use Rattle.std.specs.Prelude.{◌≡◌, refl, List, [], ◌∷◌, map, ◌≤◌, length, take}
use Rattle.std.proofs.Common.{sym, ap, ◌∙◌, arith}
use Rattle.std.proofs.lemmas.List.{length-map}
use Rattle.integers.specs.Filled.{filled}
use Rattle.integers.specs.FilledLaws.{take-filled}
use Rattle.catalogue_rules.specs.Catalogue.{most_entries}
use Rattle.catalogue_rules.specs.Moving.{entry_to_form}
use Rattle.catalogue_records.specs.declared.Form.{Form}
use Rattle.catalogue_records.specs.declared.Entry.{Entry}
use Rattle.catalogue_records.specs.declared.Catalogue.{Catalogue}
use Rattle.catalogue_records.specs.Stored.{no_entry}
use Rattle.catalogue_records.specs.Catalogues.{holding}
use Rattle.catalogue_records.specs.EntriesIn.{form_in, entry_in, entries_in}

abbrev pub stored_in : Form → Entry → Entry
stored_in f e = record e { form = f }

abbrev pub catalogue_in : Form → List Entry → Catalogue
catalogue_in f l = holding (length l) (filled no_entry most_entries (map (stored_in f) l))

entries-in : (f : Form) (l : List Entry) → map entry_in (map (stored_in f) l) ≡ map (entry_to_form (form_in f)) (map entry_in l)
entries-in f [] = refl
entries-in f (e ∷ l) = ap (λ m. entry_to_form (form_in f) (entry_in e) ∷ m) (entries-in f l)

-- what is stored are the entries of the definition in that form
pub in_form : (f : Form) (l : List Entry) → length l ≤ most_entries → entries_in (catalogue_in f l) ≡ map (entry_to_form (form_in f)) (map entry_in l)
in_form f l few =
    let n : length (map (stored_in f) l) ≡ length l = length-map l (stored_in f) in
    ap (λ k. map entry_in (take k (filled no_entry most_entries (map (stored_in f) l)))) (sym n)
    ∙ ap (map entry_in) (take-filled no_entry most_entries (map (stored_in f) l) (omega (arith, n)))
    ∙ entries-in f l
