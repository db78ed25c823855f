-- A state reached by steps has room for the next one.
use Rattle.std.specs.Prelude.{◌≡◌, refl, ◌≢◌, Bool, true, false, not, List, [], ◌∷◌, ◌++◌, ℕ, ◌≤◌, ◌<◌, eqb, length}
use Rattle.std.proofs.Common.{mul-le-mul_right, arith, length-append}
use Rattle.std.proofs.lemmas.Bool.{eqb-false, not-false}
use Rattle.lattices.specs.Vector.{Vec}
use Rattle.lattices.specs.Laws.Refusal.{one-to}
use Rattle.catalogue_rules.specs.Word.{Word}
use Rattle.catalogue_rules.specs.Catalogue as definition
use Rattle.catalogue_rules.specs.Catalogue.{Head, coordinates, most_entries, most_numbers}
use Rattle.catalogue_rules.specs.Read.{State, outside, numbered, inside, after, closed, coordinate_of, with_vector, with_coordinate}
use Rattle.catalogue_rules.proofs.Laws.Moves.{Moves, by-head, by_number, by_size, by-coordinate, by-draft, by-see, by_end}
use Rattle.catalogue_rules.proofs.Laws.WellFormed.{Known}
use Rattle.catalogue_rules.proofs.Laws.EntriesAccepted.{length-coordinates}
use Rattle.integers.specs.Size.{within-le}
use Rattle.catalogue_steps.specs.Shown.{square-within}
use Rattle.catalogue_steps.specs.Readings.{ReadyFor}
use Rattle.catalogue_steps.specs.States.{reading_of, Fine}
use Rattle.lattices.specs.Refusal.{one_to, most_vectors, most_coordinates}

-- within an entry a vector and a coordinate are still to come
abbrev pub Due : State → Type 0
Due (outside es) = Unit {0}
Due (numbered es n p) = Unit {0}
Due (inside es h vs v) = (length vs < h.d) × (length v < h.m)
Due (after es h vs marked) = Unit {0}
Due (closed es) = Unit {0}

-- ---- what is due is kept

module _ (es : List definition.Entry) (h : Head) (vs : List Vec) (u : Vec) (some : 1 ≤ h.m) (rows : length vs < h.d) (columns : length u ≤ h.m) where
  due-vector : Due (with_vector es h (vs ++ (u ∷ [])))
  due-vector = go (eqb (length (vs ++ (u ∷ []))) h.d) refl
    where
      go : (t : Bool) → eqb (length (vs ++ (u ∷ []))) h.d ≡ t → Due (elim t [ true ↦ after es h (vs ++ (u ∷ [])) false | false ↦ inside es h (vs ++ (u ∷ [])) [] ])
      go true e = tt
      go false e =
          let n : length (vs ++ (u ∷ [])) ≢ h.d = eqb-false _ _ e in
          (omega (arith, length-append vs (u ∷ []), rows, n), omega (arith, some))

  due-coordinate : Due (with_coordinate es h vs u)
  due-coordinate = go (eqb (length u) h.m) refl due-vector
    where
      go : (t : Bool) → eqb (length u) h.m ≡ t → Due (with_vector es h (vs ++ (u ∷ []))) → Due (elim t [ true ↦ with_vector es h (vs ++ (u ∷ [])) | false ↦ inside es h vs u ])
      go true e d = d
      go false e d =
          let n : length u ≢ h.m = eqb-false _ _ e in
          (rows, omega (arith, columns, n))

-- a head was read
due-size : (d m : ℕ) → not (one_to most_vectors d) ≡ false → not (one_to most_coordinates m) ≡ false → (0 < d) × (0 < m)
due-size d m p q = ((one-to most_vectors d (not-false _ p)).0, (one-to most_coordinates m (not-false _ q)).0)

pub due-moves : {s t : State} {i : ℕ} {w : Word} → Moves s i w t → Known s → Due s → Due t
due-moves (by-head n d m i b p) k due = due-size d m p.1.1.0 p.1.1.1.0
due-moves (by_number n i b p) k due = tt
due-moves (by_size es n i d m p) k due = due-size d m p.1.0 p.1.1.0
due-moves (by-coordinate es h vs v l p) k d =
    due-coordinate es h vs (v ++ (coordinate_of l ∷ [])) (one-to most_coordinates h.m k.0.head.m).0 d.0 (omega (arith, length-append v (coordinate_of l ∷ []), d.1))
due-moves (by-draft es h vs) k d = tt
due-moves (by-see es h vs marked s) k d = tt
due-moves (by_end b) k d = tt

-- ---- so there is room

places : (es : List definition.Entry) (h : Head) (vs : List Vec) (v : Vec) → Known (inside es h vs v) → Due (inside es h vs v) → length (coordinates vs ++ v) < most_numbers
places es h vs v k d =
    let dm = (one-to most_vectors h.d k.0.head.d).1 in
    let mm = (one-to most_coordinates h.m k.0.head.m).1 in
    let r : length vs ≤ 3 = omega (arith, d.0, dm) in
    omega (arith, length-append (coordinates vs) v, length-coordinates h.m vs k.1, mul-le-mul_right h.m r, d.1, mm)

pub fine : (s : State) → Known s → Due s → Fine s
fine (outside es) k d = k.few
fine (numbered es n p) k d = tt
fine (inside es h vs v) k d = (omega (arith, d.1, (one-to most_coordinates h.m k.0.head.m).1), places es h vs v k d, k.2)
fine (after es h vs marked) k d = (k.0.before.few, k.0.before.one)
fine (closed es) k d = k.few

pub ready : (s : State) {numbers : List ℕ} → length numbers ≡ most_entries → Known s → Due s → ReadyFor numbers (reading_of s)
ready (outside es) long k d = record { room = omega (arith, long, k.few) }
ready (numbered es n p) long k d = record { room = tt }
ready (inside es h vs v) long k d =
    let m = (one-to most_coordinates h.m k.0.head.m).1 in
    let r = (one-to most_vectors h.d k.0.head.d).1 in
    record { room = (omega (arith, d.0, r), (omega (arith, d.1, m), (places es h vs v k d, within-le (omega (arith, d.1, m)) (square-within v k.2)))) }
ready (after es h vs marked) long k d = record { room = (k.0.before.few, omega (arith, long, k.0.before.few)) }
ready (closed es) long k d = record { room = tt }
