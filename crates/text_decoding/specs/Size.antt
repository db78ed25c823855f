-- The text of a catalogue has for each entry a line of at most 36 bytes and seven for a coordinate, and four bytes before them: at most 66,564, so
-- that it has room where a listing has (`text-size`), and that a text so long as `encode` takes holds it (`text-fits`).
use Rattle.std.specs.Prelude.{◌≡◌, Bool, true, false, List, [], ◌∷◌, ◌++◌, map, ℕ, ◌+◌, ◌*◌, ◌≤◌, ltb, ℤ, nat_abs, length}
use Rattle.std.proofs.Math.Option.{Option, none, some}
use Rattle.std.proofs.Common.{arith, length-append, ltb-false}
use Rattle.catalogue_rules.proofs.Laws.TextSize.{most_text}
use Rattle.integers.specs.All.{All}
use Rattle.integers.specs.Decimal.{decimal, signed}
use Rattle.integers.specs.DecimalLaws.{decimal-length}
use Rattle.integers.specs.Tests.{neither}
use Rattle.integers.specs.Every.{any}
use Rattle.lattices.specs.Refusal.{most_size, most_vectors, most_coordinates}
use Rattle.lattices.specs.Laws.Refusal.{one-to}
use Rattle.catalogue_rules.specs.Catalogue.{Form, old, new, most_number, See, Entry, coordinates, most_numbers, most_entries}
use Rattle.catalogue_rules.specs.Read.{form_of}
use Rattle.catalogue_rules.specs.Form.{EntryFits, WellFormed}
use Rattle.catalogue_rules.proofs.Laws.Opening.{numbers-room}
use Rattle.catalogue_rules.proofs.Laws.ReadEntries.{SeeFits}
use Rattle.catalogue_rules.proofs.Laws.ReadBack.{sees-fit}
use Rattle.catalogue_rules.proofs.Laws.EntriesAccepted.{few-coordinates, all_near}
use Rattle.text_layout.specs.Fields.{after}
use Rattle.text_layout.specs.Sizes.{signed-length}
use Rattle.text_rules.specs.Text.{semicolon, draft_fields, see_fields, entry_fields, entry_text, entries_text, form_text, text_of}

draft-length : (b : Bool) (fields : List (List ℕ)) → length (after (draft_fields b ++ fields)) ≤ 8 + length (after fields)
draft-length true fields = omega arith
draft-length false fields = omega arith

see-length : (o : Option See) → SeeFits o → length (after (see_fields o)) ≤ 13
see-length none h = omega arith
see-length (some s) h = omega (arith, length-append (decimal s.number) (after []), decimal-length 9 s.number (omega arith) (omega arith))

coordinates-length : (zs : List ℤ) → any (λ z. ltb most_size (nat_abs z)) zs ≡ false → (fields : List (List ℕ))
    → length (after (map signed zs ++ fields)) ≤ length zs * 7 + length (after fields)
coordinates-length [] h fields = omega arith
coordinates-length (z ∷ zs) h fields =
    let p = neither (ltb most_size (nat_abs z)) (any (λ y. ltb most_size (nat_abs y)) zs) h in
    omega (arith, length-append (signed z) (after (map signed zs ++ fields)), signed-length 5 z (omega arith) (omega (arith, ltb-false most_size (nat_abs z) p.0)), coordinates-length zs p.1 fields)

-- an entry's line
abbrev pub most_line : ℕ
most_line = most_numbers * 7 + 36

pub entry-size : (e : Entry) → EntryFits e → SeeFits e.see → length (entry_text e) ≤ most_line
entry-size e f s =
    let h = e.head in
    let cs = coordinates e.vectors in
    let rest = draft_fields e.draft ++ see_fields e.see in
    omega (
      arith,
      length-append (decimal h.number) (after (entry_fields e)),
      length-append (decimal h.d) (after (decimal h.m ∷ semicolon ∷ (map signed cs ++ rest))),
      length-append (decimal h.m) (after (semicolon ∷ (map signed cs ++ rest))),
      decimal-length 9 h.number (omega arith) (omega (arith, (one-to (most_number h.form) h.number f.head.number).1, numbers-room h.form)),
      decimal-length 1 h.d (omega arith) (omega (arith, (one-to most_vectors h.d f.head.d).1)),
      decimal-length 1 h.m (omega arith) (omega (arith, (one-to most_coordinates h.m f.head.m).1)),
      coordinates-length cs (all_near h.m e.vectors f.vectors) rest,
      few-coordinates e f,
      draft-length e.draft (see_fields e.see),
      see-length e.see s,
    )

entries-size : (es : List Entry) → All EntryFits es → All (λ e. SeeFits e.see) es → length (entries_text es) ≤ length es * most_line
entries-size [] f s = omega arith
entries-size (e ∷ es) f s = omega (arith, length-append (entry_text e) (entries_text es), entry-size e f.0 s.0, entries-size es f.1 s.1)

form-size : (o : Option Form) → length (form_text o) ≤ 4
form-size none = omega arith
form-size (some old) = omega arith
form-size (some new) = omega arith

-- those of all entries, and the line before them: 66,564
abbrev pub most_lines : ℕ
most_lines = most_entries * most_line + 4

pub lines_size : (es : List Entry) → WellFormed es → length (text_of es) ≤ most_lines
lines_size es w =
    omega (
      arith,
      length-append (form_text (form_of es)) (entries_text es),
      form-size (form_of es),
      entries-size es w.entered.fits (sees-fit es es w.entered.fits w.named),
      w.entered.few,
    )

-- no longer than a listing can be
pub text-size : (es : List Entry) → WellFormed es → length (text_of es) ≤ most_text
text-size es w = omega (arith, lines_size es w)

-- no longer than a text that is read
pub text-fits : (es : List Entry) → WellFormed es → length (text_of es) ≤ 131071
text-fits es w = omega (arith, lines_size es w)
