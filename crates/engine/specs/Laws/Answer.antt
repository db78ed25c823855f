-- That the finished work is the definition's answer: what `reduce` gives.
use Rattle.std.specs.Prelude.{Ok, ◌≡◌, refl, List, [], ◌∷◌, map, ◌≢◌, ℕ, zero, suc, ◌+◌, ◌≤◌, ◌<◌, ℤ, pos, ◌*ℤ◌, length, get_or, take}
use Rattle.std.proofs.Math.Path.{sym, ap}
use Rattle.std.proofs.Common.{◌∙◌, subst, arith, length-take, get_or-take}
use Rattle.std.proofs.lemmas.Simd.{map-map}
use Rattle.std.proofs.Math.Nat.{zero-add}
use Rattle.std.proofs.Math.Decide.{dec_lt}
use Rattle.std.specs.Int.Signed.{lt_z_yes}
use Rattle.std.proofs.lemmas.List.{length-map}
use Rattle.std.proofs.Math.ListN.{get_or-eq_default}
use Rattle.integers.specs.Identity.{by_ring, reads}
use Rattle.integers.specs.Size.{Within}
use Rattle.integers.specs.FilledLaws.{length-filled}
use Rattle.lattices.specs.Vector.{Vec, N, nth, dot}
use Rattle.lattices.specs.Laws.Vector.{dot_comm, nil-dot, ≈_refl, ≈-dot}
use Rattle.lattices.specs.Greedy.{Row, vectors, units, reduction}
use Rattle.lattices.specs.Refusal.{Input, basis, first_of, vector_checks, most_vectors, most_coordinates}
use Rattle.lattices.specs.Answer as Definition
use Rattle.lattices.specs.Answer.{padded, table, reduction_given, no_reduction, reduction_of}
use Rattle.lattices.specs.Laws.Answer.{table-rows, padded-≈}
use Rattle.greedy_reduction.specs.Accepted.{accepted}
use Rattle.greedy_reduction.specs.Demand.{accepted-reduction}
use Rattle.row_operations.specs.Rows.{transposed, Tables, rows_of-tables, map-four}
use Rattle.gram_matrix.specs.declared.work.Work.{Work}
use Rattle.gram_matrix.specs.Gram.{gram_of}
use Rattle.gram_matrix.specs.Formed.{products, formed, formed-is}
use Rattle.gram_matrix.specs.Tied.{whole, Tied, tied-diagonal, tied-length-gram, tied-square}
use Rattle.gram_matrix.specs.Passed.{tied-entry}
use Rattle.gram_matrix.specs.Lose.{row-wide}
use Rattle.nearest_steps.specs.Formed.{GramOf}
use Rattle.gram_matrix.specs.Work.{diagonal_of}
use Rattle.refusals.specs.declared.Refusal.{Refusal}
use Rattle.refusals.specs.Number.{number_of, number_of-nonzero}
use Rattle.engine.specs.Answers.{lent_in}
use Rattle.greedy_steps.specs.State.{blank, greedy_rows, greedy_passes}
use Rattle.engine.specs.Laws.Few.{few-passes}
use Rattle.greedy_steps.specs.Room.{small-rows}
use Rattle.engine.specs.Laws.Begin.{first, first_fine, table_is, bs-count, four-rows, unused}
use Rattle.engine.specs.Laws.Finish.{R, outs-count, last-vectors, last-u, last-v, last-squares, last-passes}
use Rattle.greedy_steps.specs.Tables.{ones}
use Rattle.greedy_steps.specs.Repeat.{Reducible, Outcome}

-- the d vectors of an input stand in the array b
pub record Array (i : Input) (d : ℕ) (b : List (List ℤ)) : Type 0 where
  pub count : d ≡ i.d
  pub rows : b ≡ table most_vectors most_coordinates (basis i)

-- a finished work and its Gram matrix as an answer
unfoldable pub finished : List (List ℤ) → Work → Definition.Reduction
finished g w = lent_in (Ok (diagonal_of g)) w

-- the diagonal of the Gram matrix of four vectors
diagonal-is : {rows : List Row} {g b u v : List (List ℤ)} → Tied whole rows g b u v → length rows ≡ 4 → diagonal_of g ≡ map (λ r. N r.vector) rows
diagonal-is {rows} {g} t e = (λ k. entry 0 (omega (arith, e)) k ∷ entry 1 (omega (arith, e)) k ∷ entry 2 (omega (arith, e)) k ∷ entry 3 (omega (arith, e)) k ∷ [])
    ∙ map-four (λ r. N r.vector) rows blank e
  where
    one : (z : ℤ) → z ≡ pos 1 *ℤ z
    one z = by_ring (z ∷ []) (search reads) (search reads) tt

    entry : (i : ℕ) → i < length rows → nth (get_or g i []) i ≡ N (get_or rows i blank).vector
    entry i h = one (nth (get_or g i []) i) ∙ sym (tied-diagonal t i h)

-- ---- the tables with which the engine begins
symmetric_units : (d : ℕ) → d ≤ 4 → transposed (table most_vectors most_vectors (units d)) ≡ table most_vectors most_vectors (units d)
unfolding transposed
symmetric_units zero h = refl
symmetric_units (suc zero) h = refl
symmetric_units (suc (suc zero)) h = refl
symmetric_units (suc (suc (suc zero))) h = refl
symmetric_units (suc (suc (suc (suc zero)))) h = refl
symmetric_units (suc (suc (suc (suc (suc d))))) h = absurd (omega arith)

pub length-table : (h w : ℕ) (rows : List (List ℤ)) → length (table h w rows) ≡ h
length-table zero w rows = refl
length-table (suc h) w [] = ap suc (length-table h w [])
length-table (suc h) w (r ∷ rows) = ap suc (length-table h w rows)

-- a Gram matrix as it is formed has four rows
pub four-formed : (bs : List Vec) {g : List (List ℤ)} → g ≡ formed bs → length g ≡ 4
four-formed bs e = ap length e ∙ length-filled (padded 4 []) 4 (map (products bs) bs)

-- beyond the rows of a table the products are 0
beyond : (h w : ℕ) (rows : List (List ℤ)) (j : ℕ) (v : Vec) → length rows ≤ j → dot (get_or (table h w rows) j []) v ≡ pos 0
beyond zero w rows j v k = nil-dot v
beyond (suc h) w [] zero v k = ≈-dot (padded-≈ w [] (omega arith)) (≈_refl {u = v}) ∙ nil-dot v
beyond (suc h) w [] (suc j) v k = beyond h w [] j v (omega arith)
beyond (suc h) w (r ∷ rows) zero v k = absurd (omega arith)
beyond (suc h) w (r ∷ rows) (suc j) v k = beyond h w rows j v (omega arith)

module _ (i : Input) (e : first_of vector_checks i ≡ 0) where
  abbrev b : List (List ℤ)
  b = table most_vectors most_coordinates (basis i)

  abbrev units-table : List (List ℤ)
  units-table = table most_vectors most_vectors (units i.d)

  tables : Tables b units-table units-table (first i e)
  unfolding first
  tables = rows_of-tables b units-table units-table (length-table most_vectors most_vectors (units i.d) ∙ sym (length-table most_vectors most_coordinates (basis i))) (length-table most_vectors most_vectors (units i.d) ∙ sym (length-table most_vectors most_coordinates (basis i)))

  pub begun_small : (j k : ℕ) → Within 100000 (nth (get_or b j []) k)
  begun_small j k = rw tables.vectors at (small-rows (first_fine i e) j k)

  abbrev ins : List (List ℤ)
  ins = map (padded most_coordinates) (basis i)

  ins-count : length ins ≡ i.d
  ins-count = length-map (basis i) (padded most_coordinates) ∙ bs-count i e

  ins-taken : take i.d b ≡ ins
  ins-taken = ap (λ n. take n b) (sym (bs-count i e)) ∙ table-rows most_vectors most_coordinates (basis i) (omega (arith, bs-count i e, (accepted i e).most))

  gram-formed : gram_of (vectors (first i e)) ≡ formed (take i.d b)
  gram-formed = ap gram_of (tables.vectors ∙ table_is most_vectors most_coordinates (unused i e) (basis i) (four-rows i e))
      ∙ formed-is ins (unused i e) (omega (arith, ins-count, four-rows i e, bs-count i e)) ∙ ap formed (sym ins-taken)

  -- they belong to the rows with which the definition begins, which may be reduced
  pub begun_tied : Tied whole (first i e) (formed (take i.d b)) b units-table units-table
  begun_tied = record {
    positive = lt_z_yes tt;
    gram = gram-formed ∙ sym (ones (formed (take i.d b)));
    vectors = ones (vectors (first i e)) ∙ tables.vectors;
    us = tables.u;
    vs = ap transposed tables.v ∙ symmetric_units i.d (accepted i e).most;
  }

  pub begun_few : 0 + greedy_passes i.d (first i e) ≤ 1000000000000
  begun_few = omega (arith, few-passes (accepted i e).most (first_fine i e))

  abbrev pub begins : {d : ℕ} {c g u : List (List ℤ)} → Array i d c → g ≡ formed (take d c) → u ≡ table most_vectors most_vectors (units d) → Reducible d 0 g c u u
  begins {d} {c} a p q = record {
    kind = whole;
    rows = first i e;
    tied = rw (p, q, a.count, a.rows) begun_tied;
    fine = rw a.count (first_fine i e);
    few = rw a.count begun_few;
  }

  -- and so are what the steps give
  pub outcome_of : {d : ℕ} {c g u h : List (List ℤ)} {w : Work} → Array i d c → g ≡ formed (take d c) → u ≡ table most_vectors most_vectors (units d)
      → ((p : Reducible d 0 g c u u) → Outcome p.kind d 0 p.rows h w) → Outcome whole i.d 0 (first i e) h w
  outcome_of {h = h} {w} a p q o = subst (λ n. Outcome whole n 0 (first i e) h w) a.count (o (begins a p q))

  -- ---- the engine's answer for an accepted input
  abbrev G : List Row
  G = greedy_rows i.d (first i e)

  module _ (g : List (List ℤ)) (w : Work) (o : Outcome whole i.d 0 (first i e) g w) where
    -- the vectors, which the nearest vector is searched in
    pub vectors-given : w.vectors ≡ table most_vectors most_coordinates (vectors (R i e))
    vectors-given = sym o.tied.vectors ∙ ones (vectors G) ∙ last-vectors i e

    -- and their Gram matrix
    taken-row : (j : ℕ) (v : Vec) → dot (get_or (table most_vectors most_coordinates (vectors (R i e))) j []) v ≡ dot (get_or (take i.d (table most_vectors most_coordinates (vectors (R i e)))) j []) v
    taken-row j v = pick (dec_lt j i.d)
      where
        pick : Dec (j < i.d) → dot (get_or (table most_vectors most_coordinates (vectors (R i e))) j []) v ≡ dot (get_or (take i.d (table most_vectors most_coordinates (vectors (R i e)))) j []) v
        pick (yes h) = ap (λ u. dot u v) (sym (get_or-take i.d (table most_vectors most_coordinates (vectors (R i e))) j [] h))
        pick (no h) = beyond most_vectors most_coordinates (vectors (R i e)) j v (omega (arith, outs-count i e, h))
            ∙ sym (ap (λ u. dot u v) (get_or-eq_default (take i.d (table most_vectors most_coordinates (vectors (R i e)))) [] (omega (arith, length-take i.d (table most_vectors most_coordinates (vectors (R i e))), h))) ∙ nil-dot v)

    G-count : length G ≡ 4
    G-count = sym (length-map G (λ r. r.vector)) ∙ ap length (last-vectors i e) ∙ length-table most_vectors most_coordinates (vectors (R i e))

    pub gram-given : GramOf (take i.d (table most_vectors most_coordinates (vectors (R i e)))) g
    gram-given = record {
      gram = record {
        row = λ m. record {
          at = λ j. tied-entry o.tied m j ∙ ap (λ l. dot (get_or l j []) (get_or l m [])) (last-vectors i e)
              ∙ taken-row j (get_or (table most_vectors most_coordinates (vectors (R i e))) m []) ∙ dot_comm (get_or (take i.d (table most_vectors most_coordinates (vectors (R i e)))) j []) (get_or (table most_vectors most_coordinates (vectors (R i e))) m [])
              ∙ taken-row m (get_or (take i.d (table most_vectors most_coordinates (vectors (R i e)))) j []) ∙ dot_comm (get_or (take i.d (table most_vectors most_coordinates (vectors (R i e)))) m []) (get_or (take i.d (table most_vectors most_coordinates (vectors (R i e)))) j []);
        };
      };
      count = tied-length-gram o.tied ∙ G-count;
      long = λ m. wide m (dec_lt m 4);
    }
      where
        wide : (m : ℕ) → Dec (m < 4) → length (get_or g m []) ≤ 4
        wide m (yes h) = omega (arith, row-wide (length G) m g (tied-square o.tied) (omega (arith, tied-length-gram o.tied, G-count, h)), G-count)
        wide m (no h) =
            let n : length g ≤ m = omega (arith, tied-length-gram o.tied, G-count, h) in
            rw (get_or-eq_default g [] n) (omega arith)

    finished-rows : finished g w ≡ reduction_given (reduction (basis i))
    unfolding finished
    finished-rows = λ k. record {
      refusal = 0;
      place = 0;
      basis = vectors-given k;
      u = (sym o.tied.us ∙ last-u i e) k;
      v = (sym o.tied.vs ∙ last-v i e) k;
      squares = (diagonal-is o.tied G-count ∙ sym (map-map N (λ r. r.vector) G) ∙ last-squares i e) k;
      passes = (o.passes ∙ zero-add (greedy_passes i.d (first i e)) ∙ last-passes i e) k;
    }

    pub accepted-answer : finished g w ≡ reduction_of i
    accepted-answer = finished-rows ∙ sym (accepted-reduction i e)

    -- its vectors
    pub basis-is : w.vectors ≡ (reduction_of i).basis
    unfolding finished
    basis-is = ap (λ a. a.basis) accepted-answer

-- what the steps leave of an accepted input
abbrev pub Left : Input → List (List ℤ) → Work → Type 0
Left i g w = (e : first_of vector_checks i ≡ 0) → Outcome whole i.d 0 (first i e) g w

-- the answer for a refused input
refused-answer : (i : Input) (n : ℕ) → first_of vector_checks i ≡ suc n → no_reduction (suc n) ≡ reduction_of i
unfolding reduction_of
refused-answer i n e = sym (ap (λ (k : ℕ). elim k as (λ k. Definition.Reduction) [ zero ↦ reduction_given (reduction (basis i)) | suc j ↦ no_reduction (suc j) ]) e)

refused_with : (i : Input) (n : ℕ) → n ≡ first_of vector_checks i → n ≢ 0 → no_reduction n ≡ reduction_of i
refused_with i zero e h = absurd (h refl)
refused_with i (suc n) e h = refused-answer i n (sym e)

pub refused-reduction : (i : Input) (e : Refusal) → number_of e ≡ first_of vector_checks i → no_reduction (number_of e) ≡ reduction_of i
refused-reduction i e h = refused_with i (number_of e) h (number_of-nonzero e)

-- the number in a reduction's answer is that of the checks
pub refusal_is : (i : Input) → (reduction_of i).refusal ≡ first_of vector_checks i
unfolding reduction_of
refusal_is i = go (first_of vector_checks i)
  where
    go : (n : ℕ) → (elim n as (λ n. Definition.Reduction) [ zero ↦ reduction_given (reduction (basis i)) | suc k ↦ no_reduction (suc k) ]).refusal ≡ n
    go zero = refl
    go (suc n) = refl
