-- The arrays beside the stored state, entries and numbers of heads, and how a step that goes on changes them.
use Rattle.std.specs.Prelude.{◌≡◌, refl, Bool, true, false, cond, List, [], ◌∷◌, ◌++◌, map, ℕ, ◌<◌, leb, ltb, eqb, ℤ, pos, length, set, take}
use Rattle.std.proofs.Common.{sym, ap, ap₂, ◌∙◌, append-nil, arith, length-append, lt-ltb, le-ltb, leb-false}
use Rattle.std.proofs.Math.Option.{Option, none, some}
use Rattle.std.proofs.lemmas.List.{length-map}
use Rattle.lattices.specs.Vector.{Vec}
use Rattle.catalogue_rules.specs.Word.{Word, head, coordinate, see, end, draft, head_number, head_size, other}
use Rattle.catalogue_rules.specs.Catalogue as definition
use Rattle.catalogue_rules.specs.Catalogue.{Head, See, coordinates, most_entries, most_numbers}
use Rattle.catalogue_rules.specs.Read.{State, outside, numbered, inside, after, closed, form_of, differs, coordinate_of, with_vector, with_coordinate}
use Rattle.catalogue_rules.proofs.Laws.Moves.{Moves, by-head, by_number, by_size, by-coordinate, by-draft, by-see, by_end, Between, between, unreferred}
use Rattle.catalogue_records.specs.declared.Form.{Form}
use Rattle.catalogue_records.specs.declared.Entry.{Entry}
use Rattle.catalogue_steps.specs.declared.reading.Reading.{Reading}
use Rattle.integers.specs.Filled.{filled}
use Rattle.integers.specs.FilledLaws.{filled_next, map_snoc}
use Rattle.catalogue_records.specs.Stored.{no_entry, stored_form, stored_see, entry_of}
use Rattle.catalogue_records.specs.Catalogues.{stored}
use Rattle.catalogue_steps.specs.Forms.{form_held, held-entry, held-head}
use Rattle.catalogue_steps.specs.Parts.{whole, whole_at}
use Rattle.catalogue_steps.specs.Shown.{part_of, whole-entry}
use Rattle.catalogue_steps.specs.States.{reading_of, numbers, numbers_of, length-numbers, Fine}
use Rattle.catalogue_steps.specs.Cells.{Cells}

-- the whole entries of a state
abbrev pub whole_in : State → List definition.Entry
whole_in (outside es) = es
whole_in (numbered es n p) = es
whole_in (inside es h vs v) = es
whole_in (after es h vs marked) = es
whole_in (closed es) = es

-- what a step stores: the entry that its word at index i made whole, if it did; l holds its coordinates, and the form is that of every head
abbrev pub put : List Entry → Reading → Reading → List ℤ → ℕ → Word → List Entry
put es s t l i w = cond (ltb s.count t.count) (set es s.count (whole_at s.part t.form (filled (pos 0) most_numbers (take s.part.filled l)) i w)) es

-- no entry more, or one
same : (es : List definition.Entry) (x : Entry) → cond (ltb (length es) (length es)) (set (stored es) (length es) x) (stored es) ≡ stored es
same es x = ap (λ t. cond t (set (stored es) (length es) x) (stored es)) (le-ltb (length es) (length es) (omega arith))

module _ (es : List definition.Entry) (h : Head) (vs : List Vec) (marked : Bool) (s : Option See) (l : List ℤ) (c : Cells (after es h vs marked) l) (fine : Fine (after es h vs marked)) where
  abbrev added : definition.Entry
  added = record { head = h; vectors = vs; draft = marked; see = s }

  abbrev made : Form → List ℤ → Entry
  made f k = whole (part_of h vs [] marked) f (filled (pos 0) most_numbers k) (stored_see s)

  entry-is : (f : Form) → f ≡ stored_form h.form → made f (take (length (coordinates vs ++ [])) l) ≡ entry_of added
  entry-is f e = ap₂ made e (c.first ∙ append-nil (coordinates vs)) ∙ whole-entry h vs marked s

  -- the form is that of the entry
  more : (f : Form) → f ≡ stored_form h.form
      → cond (ltb (length es) (length (es ++ (added ∷ [])))) (set (stored es) (length es) (made f (take (length (coordinates vs ++ [])) l))) (stored es) ≡ stored (es ++ (added ∷ []))
  more f e =
      ap₂ (λ t x. cond t (set (stored es) (length es) x) (stored es)) (lt-ltb (length es) (length (es ++ (added ∷ []))) (omega (arith, length-append es (added ∷ [])))) (entry-is f e)
      ∙ ap (λ n. set (stored es) n (entry_of added)) (sym (length-map es entry_of))
      ∙ filled_next no_entry most_entries (map entry_of es) (entry_of added) (omega (arith, length-map es entry_of, fine.0))
      ∙ ap (filled no_entry most_entries) (map_snoc entry_of es added)

  -- it is that of the entries, and of a head after it
  held-here : form_held (es ++ (added ∷ [])) ≡ stored_form h.form
  held-here = held-entry es added fine.1

  held_next : (f : definition.Form) → differs (form_of (es ++ (added ∷ []))) f ≡ false → stored_form f ≡ stored_form h.form
  held_next f d = sym (held-head es added f d) ∙ held-here

module _ (es : List definition.Entry) (h : Head) (vs : List Vec) (v u : Vec) (l : List ℤ) (i : ℕ) (w : Word) where
  within-vector : put (stored es) (reading_of (inside es h vs v)) (reading_of (with_vector es h (vs ++ (u ∷ [])))) l i w ≡ stored (whole_in (with_vector es h (vs ++ (u ∷ []))))
  within-vector = go (eqb (length (vs ++ (u ∷ []))) h.d)
    where
      go : (t : Bool) → put (stored es) (reading_of (inside es h vs v)) (reading_of (elim t [ true ↦ after es h (vs ++ (u ∷ [])) false | false ↦ inside es h (vs ++ (u ∷ [])) [] ])) l i w
          ≡ stored (whole_in (elim t [ true ↦ after es h (vs ++ (u ∷ [])) false | false ↦ inside es h (vs ++ (u ∷ [])) [] ]))
      go true = same es _
      go false = same es _

  within-entry : put (stored es) (reading_of (inside es h vs v)) (reading_of (with_coordinate es h vs u)) l i w ≡ stored (whole_in (with_coordinate es h vs u))
  within-entry = go (eqb (length u) h.m) within-vector
    where
      go : (t : Bool) → put (stored es) (reading_of (inside es h vs v)) (reading_of (with_vector es h (vs ++ (u ∷ [])))) l i w ≡ stored (whole_in (with_vector es h (vs ++ (u ∷ []))))
          → put (stored es) (reading_of (inside es h vs v)) (reading_of (elim t [ true ↦ with_vector es h (vs ++ (u ∷ [])) | false ↦ inside es h vs u ])) l i w
          ≡ stored (whole_in (elim t [ true ↦ with_vector es h (vs ++ (u ∷ [])) | false ↦ inside es h vs u ]))
      go true e = e
      go false e = same es _

-- every step
pub store_moves : {s t : State} {i : ℕ} {w : Word} {l : List ℤ} → Moves s i w t → Fine s → Cells s l → put (stored (whole_in s)) (reading_of s) (reading_of t) l i w ≡ stored (whole_in t)
store_moves (by-head n d m i (between es) p) k c = same es _
store_moves {l = l} (by-head n d m i (unreferred es g vs marked) p) k c = more es g vs marked none l c k _ (held_next es g vs marked none l c k definition.old p.0)
store_moves (by_number n i (between es) p) k c = same es _
store_moves {l = l} (by_number n i (unreferred es g vs marked) p) k c = more es g vs marked none l c k _ (held_next es g vs marked none l c k definition.new p.0)
store_moves (by_size es n p d m q) k c = same es _
store_moves {i = i} {l = l} (by-coordinate es h vs v n p) k c = within-entry es h vs v (v ++ (coordinate_of n ∷ [])) l i (coordinate n)
store_moves (by-draft es h vs) k c = same es _
store_moves {l = l} (by-see es h vs marked s) k c = more es h vs marked (some s) l c k _ (held-here es h vs marked (some s) l c k)
store_moves (by_end (between es)) k c = same es _
store_moves {l = l} (by_end (unreferred es g vs marked)) k c = more es g vs marked none l c k _ (held-here es g vs marked none l c k)

-- ---- the numbers of heads: a head adds its own

abbrev pub noted : List ℕ → ℕ → Word → List ℕ
noted l n (head number d m) = set l n number
noted l n (coordinate load) = l
noted l n (see number) = l
noted l n (end count) = l
noted l n (draft load) = l
noted l n (head_number number) = set l n number
noted l n (head_size high d m) = l
noted l n (other k load) = l

-- there is room for the number of a head
abbrev pub Space : ℕ → Word → Type 0
Space n (head number d m) = n < most_entries
Space n (coordinate load) = Unit {0}
Space n (see number) = Unit {0}
Space n (end count) = Unit {0}
Space n (draft load) = Unit {0}
Space n (head_number number) = n < most_entries
Space n (head_size high d m) = Unit {0}
Space n (other k load) = Unit {0}

new-number : (es : List definition.Entry) (n : ℕ) → length es < most_entries → set (filled 0 most_entries (numbers es)) (length es) n ≡ filled 0 most_entries (numbers es ++ (n ∷ []))
new-number es n h =
    ap (λ k. set (filled 0 most_entries (numbers es)) k n) (sym (length-numbers es))
    ∙ filled_next 0 most_entries (numbers es) n (omega (arith, length-numbers es))

between-numbers : {s : State} {es : List definition.Entry} → Between s es → numbers_of s ≡ numbers es
between-numbers (between es) = refl
between-numbers (unreferred es h vs marked) = map_snoc (λ e. e.head.number) es (record { head = h; vectors = vs; draft = marked; see = none })

-- a head of either form
head-number : {s : State} (es : List definition.Entry) (n : ℕ) → Between s es → leb most_entries (length es) ≡ false
    → set (filled 0 most_entries (numbers_of s)) (length es) n ≡ filled 0 most_entries (numbers es ++ (n ∷ []))
head-number es n b p = ap (λ ns. set (filled 0 most_entries ns) (length es) n) (between-numbers b) ∙ new-number es n (leb-false _ _ p)

coordinate-numbers : (es : List definition.Entry) (h : Head) (vs : List Vec) (u : Vec) (a b : Bool)
    → numbers es ++ (h.number ∷ []) ≡ numbers_of (elim a [ true ↦ elim b [ true ↦ after es h (vs ++ (u ∷ [])) false | false ↦ inside es h (vs ++ (u ∷ [])) [] ] | false ↦ inside es h vs u ])
coordinate-numbers es h vs u true true = refl
coordinate-numbers es h vs u true false = refl
coordinate-numbers es h vs u false b = refl

pub numbers-moves : {s t : State} {i : ℕ} {w : Word} → Moves s i w t → noted (filled 0 most_entries (numbers_of s)) (length (whole_in t)) w ≡ filled 0 most_entries (numbers_of t)
numbers-moves (by-head {es} n d m i b p) = head-number es n b p.1.0
numbers-moves (by_number {es} n i b p) = head-number es n b p.1.0
numbers-moves (by_size es n p d m q) = refl
numbers-moves (by-coordinate es h vs v l p) =
    let u = v ++ (coordinate_of l ∷ []) in
    ap (filled 0 most_entries) (coordinate-numbers es h vs u (eqb (length u) h.m) (eqb (length (vs ++ (u ∷ []))) h.d))
numbers-moves (by-draft es h vs) = refl
numbers-moves (by-see es h vs marked s) = ap (filled 0 most_entries) (map_snoc (λ e. e.head.number) es (record { head = h; vectors = vs; draft = marked; see = some s }))
numbers-moves (by_end b) = ap (filled 0 most_entries) (between-numbers b)
