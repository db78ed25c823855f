-- A part of a definition's entry as the code stores it, and that the code's operations are those of the definition.
use Rattle.std.specs.Prelude.{◌≡◌, refl, Bool, false, List, [], ◌∷◌, ◌++◌, ℕ, ◌+◌, ◌*◌, ltb, ℤ, pos, nat_abs, ◌+ℤ◌, ◌*ℤ◌}
use Rattle.std.proofs.Common.{sym, ◌∙◌, append-nil, append_assoc, arith, length-append, ltb-false}
use Rattle.std.proofs.Math.Path.{ap, ap₂}
use Rattle.std.proofs.Math.Option.{Option}
use Rattle.std.proofs.Math.IntN.{+ℤ_assoc, +ℤ_idl, +ℤ_idr}
use Rattle.std.proofs.Math.ListN.{length}
use Rattle.integers.specs.Every.{any}
use Rattle.integers.specs.Size.{Within, within-le, within-add, within-mul}
use Rattle.integers.specs.Tests.{neither}
use Rattle.lattices.specs.Refusal.{most_size}
use Rattle.lattices.specs.Vector.{Vec, N, dot}
use Rattle.catalogue_rules.specs.Catalogue.{Head, See, coordinates, most_numbers}
use Rattle.catalogue_rules.proofs.Laws.RoundTrip.{coordinates_snoc}
use Rattle.catalogue_steps.specs.declared.parts.Part.{Part}
use Rattle.integers.specs.Filled.{filled}
use Rattle.catalogue_records.specs.Stored.{stored_form, stored_see, entry_of}
use Rattle.catalogue_steps.specs.Parts.{put_coordinate, put_vector, whole}

-- an entry's head, its whole vectors and the vector being read, and whether its mark was read
abbrev pub part_of : Head → List Vec → Vec → Bool → Part
part_of h vs v marked = record {
  number = h.number;
  d = h.d;
  m = h.m;
  place = h.place;
  row = length vs;
  column = length v;
  square = N v;
  filled = length (coordinates vs ++ v);
  draft = marked;
}

-- ---- the squared length of the vector being read

square-more : (v : Vec) (x : ℤ) → N v +ℤ x *ℤ x ≡ N (v ++ (x ∷ []))
unfolding dot
square-more [] x = +ℤ_idl (x *ℤ x) ∙ sym (+ℤ_idr (x *ℤ x))
square-more (y ∷ v) x = +ℤ_assoc (y *ℤ y) (N v) (x *ℤ x) ∙ ap (λ z. y *ℤ y +ℤ z) (square-more v x)

-- of coordinates within the limit it is no larger than that of as many largest ones
pub square-within : (v : Vec) → any (λ x. ltb most_size (nat_abs x)) v ≡ false → Within (length v * 400000000) (N v)
unfolding dot
square-within [] h = record { within = omega arith }
square-within (x ∷ v) h =
    let p = neither (ltb most_size (nat_abs x)) (any (λ x. ltb most_size (nat_abs x)) v) h in
    let small : Within 20000 x = record { within = ltb-false most_size (nat_abs x) p.0 } in
    within-le (omega arith) (within-add (within-mul small small) (square-within v p.1))

-- ---- the operations

length_snoc : {A : Type 0} (l : List A) (x : A) → length l + 1 ≡ length (l ++ (x ∷ []))
length_snoc l x = sym (length-append l (x ∷ []))

module _ (h : Head) (vs : List Vec) (v : Vec) (marked : Bool) where
  -- the fields that an operation changes
  made : ℕ → ℕ → ℤ → ℕ → Part
  made row column square full = record { number = h.number; d = h.d; m = h.m; place = h.place; row = row; column = column; square = square; filled = full; draft = marked }

  pub part-coordinate : (x : ℤ) → put_coordinate (part_of h vs v marked) x ≡ part_of h vs (v ++ (x ∷ [])) marked
  unfolding made
  part-coordinate x =
      let l = coordinates vs ++ v in
      ap₂ (λ c s. made (length vs) c s (length l + 1)) (length_snoc v x) (square-more v x)
      ∙ ap (λ n. made (length vs) (length (v ++ (x ∷ []))) (N (v ++ (x ∷ []))) n) (length_snoc l x ∙ ap length (append_assoc (coordinates vs) v (x ∷ [])))

  pub part-vector : put_vector (part_of h vs v marked) ≡ part_of h (vs ++ (v ∷ [])) [] marked
  unfolding made dot
  part-vector = ap₂ (λ r n. made r 0 (pos 0) n) (length_snoc vs v) (ap length (sym (append-nil (coordinates (vs ++ (v ∷ []))) ∙ coordinates_snoc vs v)))

-- the entry is whole
pub whole-entry : (h : Head) (vs : List Vec) (marked : Bool) (s : Option See) → whole (part_of h vs [] marked) (stored_form h.form) (filled (pos 0) most_numbers (coordinates vs)) (stored_see s) ≡ entry_of (record { head = h; vectors = vs; draft = marked; see = s })
whole-entry h vs marked s = refl
