-- How long the parts of an answer are, and that its counts fit a signed number.
use Rattle.std.specs.Prelude.{◌≡◌, Bool, true, false, List, [], ◌∷◌, ◌++◌, map, ℕ, zero, suc, ◌+◌, ◌*◌, ◌≤◌, ℤ, pos, length, ◌-◌, replicate}
use Rattle.std.proofs.Math.Path.{refl}
use Rattle.std.proofs.Common.{◌∙◌, subst, arith}
use Rattle.std.proofs.Math.ListN.{length-append}
use Rattle.std.proofs.lemmas.List.Edits.{sets}
use Rattle.integers.specs.All.{All}
use Rattle.lattices.specs.Vector.{N}
use Rattle.lattices.specs.Refusal.{Input, Check, basis, first_of, vector_checks, most_vectors, most_coordinates}
use Rattle.lattices.specs.Answer.{Reduction, padded, table, rows_of_v, reduction_given, no_reduction, reduction_of}
use Rattle.lattices.specs.Laws.Answer.{length-padded}
use Rattle.lattices.specs.Greedy.{Row, vectors, reduction}
use Rattle.greedy_reduction.specs.Accepted.{accepted}
use Rattle.engine.specs.Laws.Begin.{first_fine}
use Rattle.engine.specs.Laws.Few.{few-passes}
use Rattle.engine.specs.Laws.Finish.{last-passes}
use Rattle.lent_numbers.specs.Layout.{reduction_count, flat, head, layout}
use Rattle.lent_numbers.specs.Runs.{sets_then}

length-table : (h w : ℕ) (rows : List (List ℤ)) → length (flat (table h w rows)) ≡ h * w
length-table zero w rows = omega arith
length-table (suc h) w [] = length-append (padded w []) (flat (table h w [])) ∙ omega (arith, length-padded w [], length-table h w [])
length-table (suc h) w (r ∷ rows) = length-append (padded w r) (flat (table h w rows)) ∙ omega (arith, length-padded w r, length-table h w rows)

-- no check gives a greater number than the greatest of the table
pub first-most : (n : ℕ) (cs : List Check) (i : Input) → All (λ c. c.number ≤ n) cs → first_of cs i ≤ n
first-most n [] i h = omega arith
first-most n (c ∷ cs) i h = either (c.condition i) h.0 (first-most n cs i h.1)
  where
    either : (b : Bool) → c.number ≤ n → first_of cs i ≤ n → elim b as (λ b. ℕ) [ true ↦ c.number | false ↦ first_of cs i ] ≤ n
    either true p q = p
    either false p q = q

vectors-most : (i : Input) → first_of vector_checks i ≤ 5
vectors-most i = first-most 5 vector_checks i (omega arith, (omega arith, (omega arith, (omega arith, (omega arith, tt)))))

pub record Shape (a : Reduction) : Type 0 where
  pub refusal : a.refusal ≤ 5
  pub place : a.place ≡ 0
  pub passes : a.passes ≤ 1000000000000
  pub squares : length a.squares ≡ most_vectors
  pub vectors : length (flat a.basis) ≡ most_vectors * most_coordinates
  pub u : length (flat a.u) ≡ most_vectors * most_vectors
  pub v : length (flat a.v) ≡ most_vectors * most_vectors

pub shape : (i : Input) → Shape (reduction_of i)
unfolding reduction_of
shape i = go (first_of vector_checks i) refl
  where
    rows : List Row
    rows = (reduction (basis i)).rows

    go : (n : ℕ) → first_of vector_checks i ≡ n → Shape (elim n as (λ n. Reduction) [ zero ↦ reduction_given (reduction (basis i)) | suc n ↦ no_reduction (suc n) ])
    go zero e = record {
      refusal = omega arith;
      place = refl;
      passes = subst (λ n. n ≤ 1000000000000) (last-passes i e) (few-passes (accepted i e).most (first_fine i e));
      squares = length-padded most_vectors (map (λ r. N r.vector) rows);
      vectors = length-table most_vectors most_coordinates (vectors rows);
      u = length-table most_vectors most_vectors (map (λ r. r.u) rows);
      v = length-table most_vectors most_vectors (rows_of_v rows 0 (length rows));
    }
    go (suc n) e = record {
      refusal = subst (λ k. k ≤ 5) e (vectors-most i);
      place = refl;
      passes = omega arith;
      squares = length-padded most_vectors [];
      vectors = length-table most_vectors most_coordinates [];
      u = length-table most_vectors most_vectors [];
      v = length-table most_vectors most_vectors [];
    }

-- where the parts begin
abbrev vectors_at : ℕ
vectors_at = 3 + most_vectors

abbrev u_at : ℕ
u_at = vectors_at + most_vectors * most_coordinates

abbrev v_at : ℕ
v_at = u_at + most_vectors * most_vectors

-- an answer stored part by part
module _ {a : Reduction} (s : Shape a) where
  pub length-layout : length (layout a) ≡ reduction_count
  unfolding layout
  length-layout =
      let uv = length-append (flat a.u) (flat a.v) in
      let buv = length-append (flat a.basis) (flat a.u ++ flat a.v) in
      let sbuv = length-append a.squares (flat a.basis ++ (flat a.u ++ flat a.v)) in
      length-append (head a.refusal a.place (pos a.passes)) (a.squares ++ (flat a.basis ++ (flat a.u ++ flat a.v)))
      ∙ omega (arith, uv, buv, sbuv, s.squares, s.vectors, s.u, s.v)

  pub answer-stored : (l : List ℤ) {p q r t x : List ℤ} → p ≡ sets l 0 (head a.refusal a.place (pos a.passes)) → q ≡ sets p 3 a.squares
      → r ≡ sets q vectors_at (flat a.basis) → t ≡ sets r u_at (flat a.u) → x ≡ sets t v_at (flat a.v)
      → x ≡ sets l 0 (layout a)
  unfolding layout
  answer-stored l {p} {q} {r} {t} {x} e f g k m =
      let b = flat a.basis in
      let u = flat a.u in
      let v = flat a.v in
      m
      ∙ sets_then r u_at v_at u v k (omega (arith, s.u))
      ∙ sets_then q vectors_at u_at b (u ++ v) g (omega (arith, s.vectors))
      ∙ sets_then p 3 vectors_at a.squares (b ++ (u ++ v)) f (omega (arith, s.squares))
      ∙ sets_then l 0 3 (head a.refusal a.place (pos a.passes)) (a.squares ++ (b ++ (u ++ v))) e refl

-- what is refused: its number, then zeros
pub refused-layout : (n : ℕ) → layout (no_reduction n) ≡ head n 0 (pos 0) ++ replicate (reduction_count - 3) (pos 0)
unfolding layout
refused-layout n = refl
