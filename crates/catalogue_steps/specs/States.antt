-- The definition's state as the code stores it, and that a step of the code is a step of the definition.
use Rattle.std.specs.Prelude.{◌≡◌, refl, Bool, true, false, not, ◌&&◌, ◌||◌, List, [], ◌∷◌, ◌++◌, map, ℕ, suc, ◌+◌, ◌≤◌, ◌<◌, leb, ltb, eqb, pos, nat_abs, length, take, Ok}
use Rattle.std.proofs.Common.{sym, ap, ap₂, ◌∙◌, arith, length-append}
use Rattle.std.proofs.Math.Option.{Option, none, some}
use Rattle.std.specs.Int.Signed.{lt_z}
use Rattle.lattices.specs.Vector.{Vec, N, dot}
use Rattle.integers.specs.Every.{any}
use Rattle.lattices.specs.Refusal.{one_to, most_size, most_square, most_vectors, most_coordinates}
use Rattle.catalogue_rules.specs.Word.{Word, head, coordinate, see, end, draft, head_number, head_size, other}
use Rattle.catalogue_rules.specs.Catalogue as definition
use Rattle.catalogue_rules.specs.Catalogue.{Head, See, coordinates, most_entries, most_numbers}
use Rattle.catalogue_rules.specs.Read.{State, outside, numbered, inside, after, closed, Step, next, stop, checked, is_numbered, form_of, differs, with_entry, head_rows, head_number_rows, at_head_number, head_size_rows, at_head_size, coordinate_of, with_vector, at_coordinate, draft_rows, at_draft, at_end, step}
use Rattle.catalogue_steps.specs.declared.reading.Phase.{Phase}
use Rattle.catalogue_steps.specs.declared.reading.Phase.TheVariants.{Outside, Numbered, Inside, After, Closed}
use Rattle.catalogue_steps.specs.declared.parts.Part.{Part}
use Rattle.catalogue_steps.specs.declared.reading.Reading.{Reading}
use Rattle.catalogue_records.specs.declared.Form.{Form}
use Rattle.catalogue_records.specs.declared.Form.TheVariants.{Old, New}
use Rattle.catalogue_records.specs.Stored.{stored_form}
use Rattle.integers.specs.Filled.{filled}
use Rattle.integers.specs.FilledLaws.{take-filled, map_snoc, any-map}
use Rattle.catalogue_steps.specs.Forms.{form_held, differs-held, held-entry}
use Rattle.catalogue_steps.specs.Parts.{no_part, started}
use Rattle.catalogue_steps.specs.Shown.{part_of, part-coordinate, part-vector}
use Rattle.catalogue_steps.specs.Readings.{is_number, Turn, going, goes, stopped, head_read, head_number_read, head_size_read, vector_phase, vector_read, column_read, coordinate_read, draft_read, end_read, step_read}

abbrev pub reading : Phase → List definition.Entry → Form → Part → Reading
reading phase es f p = going phase (length es) f p

-- the stored form is that of every head so far
abbrev pub reading_of : State → Reading
reading_of (outside es) = reading Outside es (form_held es) no_part
reading_of (numbered es n p) = reading Numbered es New (started n 0 0 p)
reading_of (inside es h vs v) = reading Inside es (stored_form h.form) (part_of h vs v false)
reading_of (after es h vs marked) = reading After es (stored_form h.form) (part_of h vs [] marked)
reading_of (closed es) = reading Closed es (form_held es) no_part

abbrev pub step_of : Step → Turn
step_of (next s) = Ok (reading_of s)
step_of (stop n) = stopped n

-- the numbers of the heads read so far
abbrev pub numbers : List definition.Entry → List ℕ
numbers es = map (λ e. e.head.number) es

abbrev pub numbers_of : State → List ℕ
numbers_of (outside es) = numbers es
numbers_of (numbered es n p) = numbers es ++ (n ∷ [])
numbers_of (inside es h vs v) = numbers es ++ (h.number ∷ [])
numbers_of (after es h vs marked) = numbers es ++ (h.number ∷ [])
numbers_of (closed es) = numbers es

-- the whole entries of a state
abbrev pub whole_in : State → List definition.Entry
whole_in (outside es) = es
whole_in (numbered es n p) = es
whole_in (inside es h vs v) = es
whole_in (after es h vs marked) = es
whole_in (closed es) = es

-- what a step relies on
abbrev pub Fine : State → Type 0
Fine (outside es) = length es ≤ most_entries
Fine (numbered es n p) = Unit {0}
Fine (inside es h vs v) = (length v < most_coordinates) × (length (coordinates vs ++ v) < most_numbers) × (any (λ x. ltb most_size (nat_abs x)) v ≡ false)
Fine (after es h vs marked) = (length es < most_entries) × (differs (form_of es) h.form ≡ false)
Fine (closed es) = length es ≤ most_entries

-- ---- rows

step-rows : (rows : List (Bool × ℕ)) (s : State) → checked stopped rows (Ok (reading_of s)) ≡ step_of (checked stop rows (next s))
step-rows [] s = refl
step-rows (r ∷ rows) s = go r.0 (step-rows rows s)
  where
    go : (t : Bool) → checked stopped rows (Ok (reading_of s)) ≡ step_of (checked stop rows (next s))
        → ◌≡◌ {A = Turn} (elim t [ true ↦ stopped r.1 | false ↦ checked stopped rows (Ok (reading_of s)) ]) (step_of (elim t [ true ↦ stop r.1 | false ↦ checked stop rows (next s) ]))
    go true e = refl
    go false e = e

-- ---- numbers that are used

pub length-numbers : (es : List definition.Entry) → length (numbers es) ≡ length es
length-numbers [] = refl
length-numbers (e ∷ es) = ap suc (length-numbers es)

used-numbers : (n : ℕ) (es : List definition.Entry) → length es ≤ most_entries → any (is_number n) (take (length es) (filled 0 most_entries (numbers es))) ≡ any (is_numbered n) es
used-numbers n es h =
    ap (λ k. any (is_number n) (take k (filled 0 most_entries (numbers es)))) (sym (length-numbers es))
    ∙ ap (any (is_number n)) (take-filled 0 most_entries (numbers es) (omega (arith, length-numbers es)))
    ∙ any-map (is_number n) (λ e. e.head.number) es

-- ---- a head and the end, after entries

head_step : (es : List definition.Entry) (number d m i : ℕ) → length es ≤ most_entries
    → head_read (filled 0 most_entries (numbers es)) (reading_of (outside es)) number d m i ≡ step_of (step (outside es) i (head number d m))
unfolding dot step
head_step es number d m i h =
    let rows : Bool → Bool → List (Bool × ℕ) = λ t u. (t, 10) ∷ (leb most_entries (length es), 15) ∷ (not (one_to most_vectors d), 1) ∷ (not (one_to most_coordinates m), 2) ∷ (eqb number 0 || u, 11) ∷ [] in
    ap₂ (λ t u. checked stopped (rows t u) (goes Inside (length es) Old (started number d m i))) (differs-held es Old) (used-numbers number es h)
    ∙ step-rows (head_rows es number d m) (inside es (record { form = definition.old; number = number; d = d; m = m; place = i }) [] [])

number_step : (es : List definition.Entry) (number i : ℕ) → length es ≤ most_entries
    → head_number_read (filled 0 most_entries (numbers es)) (reading_of (outside es)) number i ≡ step_of (at_head_number es number i)
number_step es number i h =
    let rows : Bool → Bool → List (Bool × ℕ) = λ t u. (t, 10) ∷ (leb most_entries (length es), 15) ∷ (eqb number 0 || u, 11) ∷ [] in
    ap₂ (λ t u. checked stopped (rows t u) (goes Numbered (length es) New (started number 0 0 i))) (differs-held es New) (used-numbers number es h)
    ∙ step-rows (head_number_rows es number) (numbered es number i)

size_step : (es : List definition.Entry) (n p high d m : ℕ)
    → head_size_read (reading_of (numbered es n p)) high d m ≡ step_of (at_head_size es high (record { form = definition.new; number = n; d = d; m = m; place = p }))
unfolding dot
size_step es n p high d m = step-rows (head_size_rows high d m) (inside es (record { form = definition.new; number = n; d = d; m = m; place = p }) [] [])

end_step : (es : List definition.Entry) (count : ℕ) → end_read (reading_of (outside es)) count ≡ step_of (at_end es count)
end_step es count = step-rows ((not (eqb count (length es)), 13) ∷ []) (closed es)

-- ---- a whole entry

module _ (es : List definition.Entry) (h : Head) (vs : List Vec) (marked : Bool) (s : Option See) (one : differs (form_of es) h.form ≡ false) where
  entry-step : going Outside (length es + 1) (stored_form h.form) no_part ≡ reading_of (outside (with_entry es h vs marked s))
  entry-step =
      let e : definition.Entry = record { head = h; vectors = vs; draft = marked; see = s } in
      ap₂ (λ n f. going Outside n f no_part) (sym (length-append es (e ∷ []))) (sym (held-entry es e one))

-- ---- a coordinate

module _ (es : List definition.Entry) (h : Head) (vs : List Vec) where
  vector-step : (u : Vec) → vector_read (reading Inside es (stored_form h.form) (part_of h vs u false)) (part_of h vs u false) ≡ step_of (checked stop ((lt_z (pos most_square) (N u), 4) ∷ []) (next (with_vector es h (vs ++ (u ∷ [])))))
  vector-step u =
      ap (λ p. checked stopped ((lt_z (pos most_square) (N u), 4) ∷ []) (goes (vector_phase (eqb p.row p.d)) (length es) (stored_form h.form) p)) (part-vector h vs u false)
      ∙ ap (λ s. checked stopped ((lt_z (pos most_square) (N u), 4) ∷ []) s) (go (eqb (length (vs ++ (u ∷ []))) h.d))
      ∙ step-rows ((lt_z (pos most_square) (N u), 4) ∷ []) (with_vector es h (vs ++ (u ∷ [])))
    where
      go : (t : Bool) → goes (vector_phase t) (length es) (stored_form h.form) (part_of h (vs ++ (u ∷ [])) [] false) ≡ Ok (reading_of (elim t [ true ↦ after es h (vs ++ (u ∷ [])) false | false ↦ inside es h (vs ++ (u ∷ [])) [] ]))
      go true = refl
      go false = refl

  coordinate-step : (v : Vec) (l : ℕ) → coordinate_read (reading_of (inside es h vs v)) l ≡ step_of (at_coordinate es h vs v l)
  coordinate-step v l =
      let u = v ++ (coordinate_of l ∷ []) in
      ap (λ p. checked stopped ((ltb 40000 l, 4) ∷ []) (column_read (eqb p.column p.m) (reading_of (inside es h vs v)) p)) (part-coordinate h vs v false (coordinate_of l))
      ∙ go (ltb 40000 l) (eqb (length u) h.m)
    where
      go : (a b : Bool)
          → checked stopped ((a, 4) ∷ []) (column_read b (reading_of (inside es h vs v)) (part_of h vs (v ++ (coordinate_of l ∷ [])) false))
          ≡ step_of (checked stop ((a || (b && lt_z (pos most_square) (N (v ++ (coordinate_of l ∷ [])))), 4) ∷ []) (next (elim b [ true ↦ with_vector es h (vs ++ ((v ++ (coordinate_of l ∷ [])) ∷ [])) | false ↦ inside es h vs (v ++ (coordinate_of l ∷ [])) ])))
      go true b = refl
      go false true = vector-step (v ++ (coordinate_of l ∷ []))
      go false false = refl

-- ---- the mark of a draft

draft-step : (es : List definition.Entry) (h : Head) (vs : List Vec) (marked : Bool) (l : ℕ) → draft_read (reading_of (after es h vs marked)) l ≡ step_of (at_draft es h vs marked l)
draft-step es h vs marked l = step-rows (draft_rows marked l) (after es h vs true)

-- ---- every step

pub step-shown : (s : State) (i : ℕ) (w : Word) → Fine s → step_read (filled 0 most_entries (numbers_of s)) (reading_of s) i w ≡ step_of (step s i w)
unfolding step
step-shown (outside es) i (head number d m) fine = head_step es number d m i fine
step-shown (outside es) i (coordinate l) fine = refl
step-shown (outside es) i (see number) fine = refl
step-shown (outside es) i (end count) fine = end_step es count
step-shown (outside es) i (draft l) fine = refl
step-shown (outside es) i (head_number number) fine = number_step es number i fine
step-shown (outside es) i (head_size high d m) fine = refl
step-shown (outside es) i (other k l) fine = refl
step-shown (numbered es n p) i (head number d m) fine = refl
step-shown (numbered es n p) i (coordinate l) fine = refl
step-shown (numbered es n p) i (see number) fine = refl
step-shown (numbered es n p) i (end count) fine = refl
step-shown (numbered es n p) i (draft l) fine = refl
step-shown (numbered es n p) i (head_number number) fine = refl
step-shown (numbered es n p) i (head_size high d m) fine = size_step es n p high d m
step-shown (numbered es n p) i (other k l) fine = refl
step-shown (inside es h vs v) i (head number d m) fine = refl
step-shown (inside es h vs v) i (coordinate l) fine = coordinate-step es h vs v l
step-shown (inside es h vs v) i (see number) fine = refl
step-shown (inside es h vs v) i (end count) fine = refl
step-shown (inside es h vs v) i (draft l) fine = refl
step-shown (inside es h vs v) i (head_number number) fine = refl
step-shown (inside es h vs v) i (head_size high d m) fine = refl
step-shown (inside es h vs v) i (other k l) fine = refl
step-shown (after es h vs marked) i (head number d m) fine =
    let e : definition.Entry = record { head = h; vectors = vs; draft = marked; see = none } in
    ap₂ (λ ns s. head_read (filled 0 most_entries ns) s number d m i) (map_snoc (λ e. e.head.number) es e) (entry-step es h vs marked none fine.1)
    ∙ head_step (with_entry es h vs marked none) number d m i (omega (arith, length-append es (e ∷ []), fine.0))
step-shown (after es h vs marked) i (coordinate l) fine = refl
step-shown (after es h vs marked) i (see number) fine = ap Ok (entry-step es h vs marked (some (record { number = number; place = i })) fine.1)
step-shown (after es h vs marked) i (end count) fine = ap (λ s. end_read s count) (entry-step es h vs marked none fine.1) ∙ end_step (with_entry es h vs marked none) count
step-shown (after es h vs marked) i (draft l) fine = draft-step es h vs marked l
step-shown (after es h vs marked) i (head_number number) fine =
    let e : definition.Entry = record { head = h; vectors = vs; draft = marked; see = none } in
    ap₂ (λ ns s. head_number_read (filled 0 most_entries ns) s number i) (map_snoc (λ e. e.head.number) es e) (entry-step es h vs marked none fine.1)
    ∙ number_step (with_entry es h vs marked none) number i (omega (arith, length-append es (e ∷ []), fine.0))
step-shown (after es h vs marked) i (head_size high d m) fine = refl
step-shown (after es h vs marked) i (other k l) fine = refl
step-shown (closed es) i w fine = refl
