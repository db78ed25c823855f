-- The array of coordinates beside the stored state: those of the entry being read, in its first places.
use Rattle.std.specs.Prelude.{◌≡◌, refl, Bool, true, false, List, [], ◌∷◌, ◌++◌, ℕ, ◌<◌, eqb, ℤ, pos, length, set, take}
use Rattle.std.proofs.Common.{sym, ap, ap₂, ◌∙◌, append-nil, append_assoc, add-one, arith, length-set, length-append, take-suc-set}
use Rattle.std.proofs.Math.Option.{Option}
use Rattle.lattices.specs.Vector.{Vec}
use Rattle.catalogue_rules.specs.Word.{Word, coordinate}
use Rattle.catalogue_rules.specs.Catalogue as definition
use Rattle.catalogue_rules.specs.Catalogue.{Head, See, coordinates, most_numbers}
use Rattle.catalogue_rules.specs.Read.{State, outside, numbered, inside, after, closed, coordinate_of, with_vector, with_coordinate}
use Rattle.catalogue_rules.proofs.Laws.Moves.{Moves, by-head, by_number, by_size, by-coordinate, by-draft, by-see, by_end}
use Rattle.catalogue_rules.proofs.Laws.RoundTrip.{coordinates_snoc}
use Rattle.integers.specs.Filled.{filled}
use Rattle.catalogue_records.specs.declared.Form.{Form}
use Rattle.catalogue_records.specs.declared.Entry.{Entry}
use Rattle.catalogue_records.specs.Stored.{stored_form, stored_see, entry_of}
use Rattle.catalogue_steps.specs.Parts.{whole}
use Rattle.catalogue_steps.specs.Shown.{part_of, whole-entry}
use Rattle.catalogue_steps.specs.States.{Fine}

-- what a word does to the array: a coordinate is stored at place n
abbrev pub placed : List ℤ → ℕ → Word → List ℤ
placed l n (coordinate load) = set l n (coordinate_of load)
placed l n _ = l

-- there is room for a coordinate, and its load is within the limit
abbrev pub Place : ℕ → Word → Type 0
Place n (coordinate load) = n < most_numbers
Place n _ = Unit {0}

-- the coordinates of the entry being read
abbrev pub cells_of : State → List ℤ
cells_of (outside es) = []
cells_of (numbered es n p) = []
cells_of (inside es h vs v) = coordinates vs ++ v
cells_of (after es h vs marked) = coordinates vs ++ []
cells_of (closed es) = []

-- they stand in the first places of the array
pub record Cells (s : State) (l : List ℤ) : Type 0 where
  pub long : length l ≡ most_numbers
  pub first : take (length (cells_of s)) l ≡ cells_of s

pub cells-none : (es : List definition.Entry) (l : List ℤ) → length l ≡ most_numbers → Cells (outside es) l
cells-none es l e = record { long = e; first = refl }

module _ (es : List definition.Entry) (h : Head) (vs : List Vec) (u : Vec) where
  vector-cells : cells_of (with_vector es h (vs ++ (u ∷ []))) ≡ coordinates vs ++ u
  vector-cells = go (eqb (length (vs ++ (u ∷ []))) h.d)
    where
      go : (t : Bool) → cells_of (elim t [ true ↦ after es h (vs ++ (u ∷ [])) false | false ↦ inside es h (vs ++ (u ∷ [])) [] ]) ≡ coordinates vs ++ u
      go true = append-nil (coordinates (vs ++ (u ∷ []))) ∙ coordinates_snoc vs u
      go false = append-nil (coordinates (vs ++ (u ∷ []))) ∙ coordinates_snoc vs u

  coordinate-cells : cells_of (with_coordinate es h vs u) ≡ coordinates vs ++ u
  coordinate-cells = go (eqb (length u) h.m) vector-cells
    where
      go : (t : Bool) → cells_of (with_vector es h (vs ++ (u ∷ []))) ≡ coordinates vs ++ u → cells_of (elim t [ true ↦ with_vector es h (vs ++ (u ∷ [])) | false ↦ inside es h vs u ]) ≡ coordinates vs ++ u
      go true e = e
      go false e = refl

-- every step that goes on keeps them there
pub cells-moves : {s t : State} {i : ℕ} {w : Word} {l : List ℤ} → Moves s i w t → Fine s → Cells s l → Cells t (placed l (length (cells_of s)) w)
cells-moves (by-head n d m i b p) fine c = record { long = c.long; first = refl }
cells-moves (by_number n i b p) fine c = record { long = c.long; first = refl }
cells-moves (by_size es n p d m q) fine c = record { long = c.long; first = refl }
cells-moves {l = l} (by-coordinate es h vs v load p) fine c =
    let x = coordinate_of load in
    let k = coordinates vs ++ v in
    let all : coordinates vs ++ (v ++ (x ∷ [])) ≡ k ++ (x ∷ []) = sym (append_assoc (coordinates vs) v (x ∷ [])) in
    let now = coordinate-cells es h vs (v ++ (x ∷ [])) ∙ all in
    record {
      long = length-set l (length k) x ∙ c.long;
      first = ap (λ z. take (length z) (set l (length k) x)) now
          ∙ ap (λ n. take n (set l (length k) x)) (length-append k (x ∷ []) ∙ add-one (length k))
          ∙ take-suc-set l (length k) x (omega (arith, c.long, fine.1))
          ∙ ap (λ z. z ++ (x ∷ [])) c.first ∙ sym now;
    }
cells-moves (by-draft es h vs) fine c = record { long = c.long; first = c.first }
cells-moves (by-see es h vs marked s) fine c = record { long = c.long; first = refl }
cells-moves (by_end b) fine c = record { long = c.long; first = refl }

-- ---- the entry that is made whole after its last coordinate

module _ (es : List definition.Entry) (h : Head) (vs : List Vec) (marked : Bool) (s : Option See) (l : List ℤ) (c : Cells (after es h vs marked) l) where
  abbrev pub made : Form → List ℤ → Entry
  made f k = whole (part_of h vs [] marked) f (filled (pos 0) most_numbers k) (stored_see s)

  pub made-entry : (f : Form) → f ≡ stored_form h.form → made f (take (length (coordinates vs ++ [])) l) ≡ entry_of (record { head = h; vectors = vs; draft = marked; see = s })
  made-entry f e = ap₂ made e (c.first ∙ append-nil (coordinates vs)) ∙ whole-entry h vs marked s
