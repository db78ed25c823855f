-- How long the parts of an answer with a nearest vector are, and that its refusal fits a signed number.
use Rattle.std.specs.Prelude.{◌≡◌, false, cond, ℕ, zero, suc, ◌+◌, ◌*◌, ◌≤◌, ℤ, pos, length, take, ◌-◌, replicate}
use Rattle.std.proofs.Math.Path.{refl, ap}
use Rattle.std.proofs.Common.{◌∙◌, subst, arith, le-leb}
use mathlib.Core.List.{List, [], ◌++◌, append_assoc}
use Rattle.std.specs.Int.Signed.{le_z}
use Rattle.std.proofs.Math.ListN.{drop, length-append}
use Rattle.std.proofs.lemmas.List.Edits.{sets}
use Rattle.std.proofs.Math.Seq.{take_at, drop_at}
use Rattle.std.proofs.lemmas.List.{drop-append-le}
use Rattle.lattices.specs.Vector.{comb}
use Rattle.lattices.specs.Nearest.{nearest}
use Rattle.lattices.specs.Greedy.{vectors, reduction}
use Rattle.lattices.specs.Refusal.{Input, basis, first_of, vector_checks, target_checks, most_vectors, most_coordinates}
use Rattle.lattices.specs.Answer.{Nearest, padded, no_nearest, nearest_given, nearest_of, Membership, membership_of}
use Rattle.lattices.specs.Laws.Answer.{length-padded}
use Rattle.lent_numbers.specs.Layout.{nearest_count, head, layout_nearest, tenths_in, written}
use Rattle.lent_numbers.specs.Runs.{sets_then}
use Rattle.lent_engine.specs.Shape.{first-most}

checks_most : (i : Input) → first_of (vector_checks ++ target_checks) i ≤ 7
checks_most i =
    first-most 7 (vector_checks ++ target_checks) i
    (omega arith, (omega arith, (omega arith, (omega arith, (omega arith, (omega arith, (omega arith, tt)))))))

pub record NearestShape (a : Nearest) : Type 0 where
  pub refusal : a.refusal ≤ 7
  pub place : a.place ≡ 0
  pub coefficients : length a.coefficients ≡ most_vectors
  pub vector : length a.vector ≡ most_coordinates

pub nearest-shape : (i : Input) → NearestShape (nearest_of i)
unfolding nearest_of
nearest-shape i = go (first_of (vector_checks ++ target_checks) i) refl
  where
    go : (n : ℕ) → first_of (vector_checks ++ target_checks) i ≡ n → NearestShape (elim n as (λ n. Nearest) [ zero ↦ nearest_given (vectors (reduction (basis i)).rows) i.target | suc n ↦ no_nearest (suc n) ])
    go zero e =
        let bs = vectors (reduction (basis i)).rows in
        let x = nearest bs i.target in
        record { refusal = omega arith; place = refl; coefficients = length-padded most_vectors x; vector = length-padded most_coordinates (comb x bs) }
    go (suc n) e = record { refusal = subst (λ k. k ≤ 7) e (checks_most i); place = refl; coefficients = length-padded most_vectors []; vector = length-padded most_coordinates [] }

-- of a membership too
pub member-few : (i : Input) → ((membership_of i).refusal ≤ 7) × ((membership_of i).place ≤ 7)
unfolding membership_of
member-few i = go (first_of (vector_checks ++ target_checks) i) (checks_most i)
  where
    go : (n : ℕ) → n ≤ 7
        → let a = elim n as (λ n. Membership) [ zero ↦ record { refusal = 0; place = 0; member = le_z (nearest_of i).square (pos 0) } | suc n ↦ record { refusal = suc n; place = 0; member = false } ] in
        (a.refusal ≤ 7) × (a.place ≤ 7)
    go zero h = (omega arith, omega arith)
    go (suc n) h = (h, omega arith)

-- an answer stored part by part
module _ {a : Nearest} (s : NearestShape a) (tenths : List ℤ) (few : length tenths ≡ most_vectors) where
  pub length-layout : length (layout_nearest a tenths) ≡ nearest_count
  unfolding layout_nearest
  length-layout =
      length-append (head a.refusal a.place a.square) (a.coefficients ++ (tenths ++ a.vector))
      ∙ omega (arith, length-append a.coefficients (tenths ++ a.vector), length-append tenths a.vector, s.coefficients, few, s.vector)

  pub nearest-stored : (l : List ℤ) {p q r x : List ℤ} → p ≡ sets l 0 (head a.refusal a.place a.square) → q ≡ sets p 3 a.coefficients → r ≡ sets q (3 + most_vectors) tenths
      → x ≡ sets r (3 + 2 * most_vectors) a.vector
      → x ≡ sets l 0 (layout_nearest a tenths)
  unfolding layout_nearest
  nearest-stored l {p} {q} {r} {x} e f g k =
      k
      ∙ sets_then q (3 + most_vectors) (3 + 2 * most_vectors) tenths a.vector g (omega (arith, few))
      ∙ sets_then p 3 (3 + most_vectors) a.coefficients (tenths ++ a.vector) f (omega (arith, s.coefficients))
      ∙ sets_then l 0 3 (head a.refusal a.place a.square) (a.coefficients ++ (tenths ++ a.vector)) e refl

  -- the tenths stand where they are looked for
  tenths-found : (rest : List ℤ) → tenths_in (layout_nearest a tenths ++ rest) ≡ tenths
  unfolding layout_nearest tenths_in
  tenths-found rest =
      let before = a.coefficients in
      let behind = tenths ++ a.vector in
      let there : drop (3 + most_vectors) (head a.refusal a.place a.square ++ (before ++ behind)) ≡ behind =
      drop_at before behind most_vectors s.coefficients in
      ap (take most_vectors) (drop-append-le (3 + most_vectors) (head a.refusal a.place a.square ++ (before ++ behind)) rest (omega (arith, length-append before behind, s.coefficients)) ∙ ap (λ l. l ++ rest) there ∙ append_assoc tenths a.vector rest)
      ∙ take_at tenths (a.vector ++ rest) most_vectors few

  pub tenths-written : (l : List ℤ) {x : List ℤ} → nearest_count ≤ length l → x ≡ written l nearest_count (layout_nearest a tenths) → tenths_in x ≡ tenths
  tenths-written l h e =
      ap tenths_in (e ∙ ap (λ b. cond b (layout_nearest a tenths ++ drop nearest_count l) l) (le-leb nearest_count (length l) h)) ∙ tenths-found (drop nearest_count l)

-- what is refused: its number, then zeros
pub refused-layout : (n : ℕ) → layout_nearest (no_nearest n) (padded most_vectors []) ≡ head n 0 (pos 0) ++ replicate (nearest_count - 3) (pos 0)
unfolding layout_nearest
refused-layout n = refl
