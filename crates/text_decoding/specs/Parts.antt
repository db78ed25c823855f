-- An entry's line as the code puts it: what stands before the coordinates, the coordinates, the mark, and what stands last; and what stands before
-- the entries.
use Rattle.std.specs.Prelude.{◌≡◌, refl, Bool, true, false, List, [], ◌∷◌, ◌++◌, map, ℕ, ◌+◌, ◌*◌, length, take, Option, Some, None}
use Rattle.std.proofs.Common.{sym, ap, ◌∙◌, append_assoc, arith, length-append}
use Rattle.integers.specs.Decimal.{decimal, signed}
use Rattle.catalogue_rules.specs.Catalogue as definition
use Rattle.catalogue_rules.specs.Catalogue.{coordinates, most_numbers}
use Rattle.catalogue_rules.specs.Form.{EntryFits}
use Rattle.text_layout.specs.Fields.{after}
use Rattle.catalogue_records.specs.declared.See.{See}
use Rattle.catalogue_records.specs.declared.Entry.{Entry}
use Rattle.catalogue_records.specs.EntriesIn.{see_in, entry_in}
use Rattle.catalogue_records.specs.Coordinates.{same}
use Rattle.text_output.specs.Joined.{joined}
use Rattle.text_fields.specs.Blank.{blank, joined-then}
use Rattle.text_rules.specs.Text.{semicolon, draft_word, draft_fields, see_fields, entry_text, entries_text}

abbrev pub head_text : ℕ → ℕ → ℕ → List ℕ
head_text number d m = decimal number ++ blank decimal d ++ blank decimal m ++ (32 ∷ 59 ∷ [])

-- the mark of a draft
abbrev pub draft_text : Bool → List ℕ
draft_text true = 32 ∷ 59 ∷ 32 ∷ draft_word
draft_text false = []

mark-then : (b : Bool) (fields : List (List ℕ)) → draft_text b ++ after fields ≡ after (draft_fields b ++ fields)
mark-then true fields = refl
mark-then false fields = refl

-- the see word if there is one
abbrev pub see_text : Option See → List ℕ
see_text (Some s) = 32 ∷ 59 ∷ blank decimal s.number
see_text None = []

see-then : (o : Option See) → see_text o ++ (10 ∷ []) ≡ after (see_fields (see_in o))
see-then (Some s) = refl
see-then None = refl

head-then : (number d m : ℕ) (fields : List (List ℕ)) → head_text number d m ++ after fields ≡ decimal number ++ after (decimal d ∷ decimal m ∷ semicolon ∷ fields)
head-then number d m fields =
    let rest : List ℕ = 32 ∷ 59 ∷ after fields in
    append_assoc (decimal number ++ blank decimal d ++ blank decimal m) (32 ∷ 59 ∷ []) (after fields)
    ∙ append_assoc (decimal number ++ blank decimal d) (blank decimal m) rest
    ∙ append_assoc (decimal number) (blank decimal d) (blank decimal m ++ rest)

module _ (e : Entry) (fits : EntryFits (entry_in e)) (long : length e.coordinates ≡ most_numbers) where
  -- the coordinates that the code puts
  abbrev pub numbers : List ℕ
  numbers = joined (blank signed) (take (e.d * e.m) e.coordinates)

  pub entry-text : head_text e.number e.d e.m ++ numbers ++ draft_text e.draft ++ see_text e.see ++ (10 ∷ []) ≡ entry_text (entry_in e)
  entry-text =
      let h = head_text e.number e.d e.m in
      let see = see_fields (see_in e.see) in
      let rest = draft_fields e.draft ++ see in
      let cs = take (e.d * e.m) e.coordinates in
      append_assoc (h ++ numbers ++ draft_text e.draft) (see_text e.see) (10 ∷ [])
      ∙ append_assoc (h ++ numbers) (draft_text e.draft) (see_text e.see ++ (10 ∷ []))
      ∙ ap (λ t. h ++ numbers ++ (draft_text e.draft ++ t)) (see-then e.see)
      ∙ ap (λ t. h ++ numbers ++ t) (mark-then e.draft see)
      ∙ append_assoc h numbers (after rest)
      ∙ ap (λ t. h ++ t) (joined-then signed cs rest)
      ∙ head-then e.number e.d e.m (map signed cs ++ rest)
      ∙ ap (λ l. decimal e.number ++ after (decimal e.d ∷ decimal e.m ∷ semicolon ∷ (map signed l ++ rest))) (sym (same e fits long))

  pub entry_length : length (head_text e.number e.d e.m) + length numbers + length (draft_text e.draft) + length (see_text e.see) + 1 ≡ length (entry_text (entry_in e))
  entry_length =
      let h = head_text e.number e.d e.m in
      let mark = draft_text e.draft in
      let see = see_text e.see in
      omega (arith, length-append (h ++ numbers ++ mark ++ see) (10 ∷ []), length-append (h ++ numbers ++ mark) see, length-append (h ++ numbers) mark, length-append h numbers, ap length entry-text)

pub text-joined : (es : List definition.Entry) → joined entry_text es ≡ entries_text es
text-joined [] = refl
text-joined (e ∷ es) = ap (λ t. entry_text e ++ t) (text-joined es)
