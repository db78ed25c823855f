-- The rows with which the engine ends, as the definition's answer: the padded reduction, V written out by rows, squared lengths.
use Rattle.std.specs.Prelude.{◌≡◌, ℕ, zero, suc, ◌+◌, ◌≤◌, ℤ, pos, length, take, drop, replicate}
use Rattle.std.proofs.Math.Path.{refl, sym, ap, ap₂, subst}
use Rattle.std.proofs.Common.{◌∙◌, arith}
use mathlib.Core.List.{List, [], ◌∷◌, ◌++◌, map}
use Rattle.std.proofs.Math.ListN.{length-map, get_or-eq_default}
use Rattle.std.proofs.Math.Seq.{take-append_seam, drop-append_seam}
use Rattle.integers.specs.ListLaws.{same}
use Rattle.lattices.specs.Vector.{Vec, N, nth}
use Rattle.lattices.specs.Laws.Vector.{nil-dot}
use Rattle.lattices.specs.Greedy.{Row, vectors, units, start, greedy, reduction}
use Rattle.lattices.specs.Refusal.{Input, basis, first_of, vector_checks, most_vectors, most_coordinates}
use Rattle.lattices.specs.Answer.{padded, table, row_of_v, rows_of_v}
use Rattle.lattices.specs.Laws.Answer.{length-padded, nth-padded, table-rows}
use Rattle.integers.specs.All.{All}
use Rattle.integers.specs.AllLaws.{map-append, map-replicate}
use Rattle.greedy_reduction.specs.Moves.{length-vectors}
use Rattle.greedy_reduction.specs.Start.{Sized, Coordinates, sized-start, sized-vectors, length-units}
use Rattle.greedy_reduction.specs.Exactness.{reduction-length, reduction-sized}
use Rattle.greedy_reduction.specs.Padding.{pad, pad-counted, greedy-padded, padded-N}
use Rattle.greedy_reduction.specs.Accepted.{Accepted, accepted}
use Rattle.successive_minima.specs.Reduced.{Reduced}
use Rattle.row_operations.specs.Rows.{transposed}
use Rattle.greedy_steps.specs.State.{greedy_rows, greedy_passes}
use Rattle.greedy_steps.specs.Fine.{fine-reduced}
use Rattle.engine.specs.Laws.Begin.{table_is, zero_row, length-start, first, first-is, first_fine, unused, four-rows, bs-count, wide-count, ins-count}

-- padded rows begin as the padded start
pad-start : (m d : ℕ) (a : m ≤ most_coordinates) (b : d ≤ most_vectors) (bs : List Vec) (es : List (List ℤ)) → map (pad most_coordinates most_vectors m d a b) (start bs es) ≡ start (map (padded most_coordinates) bs) (map (padded 4) es)
unfolding pad
pad-start m d a b [] es = refl
pad-start m d a b (c ∷ bs) [] = refl
pad-start m d a b (c ∷ bs) (e ∷ es) = ap (λ l. record { vector = padded most_coordinates c; u = padded 4 e; v = padded 4 e } ∷ l) (pad-start m d a b bs es)

-- ---- lists filled up with zeros
padded-append : (n k : ℕ) (l : List ℤ) → length l + k ≡ n → l ++ replicate k (pos 0) ≡ padded n l
padded-append zero zero [] e = refl
padded-append zero (suc k) [] e = absurd (omega arith)
padded-append (suc n) zero [] e = absurd (omega arith)
padded-append (suc n) (suc k) [] e = ap (λ l. pos 0 ∷ l) (padded-append n k [] (omega arith))
padded-append zero k (x ∷ l) e = absurd (omega arith)
padded-append (suc n) k (x ∷ l) e = ap (λ r. x ∷ r) (padded-append n k l (omega arith))

-- ---- V written out by rows
from : ℕ → ℕ → List ℕ
from i zero = []
from i (suc h) = i ∷ from (suc i) h

table-from : (rows : List Row) (h i n : ℕ) → n ≤ h → ((j : ℕ) → i + n ≤ j → padded 4 (row_of_v rows j) ≡ padded 4 []) → table h 4 (rows_of_v rows i n) ≡ map (λ j. padded 4 (row_of_v rows j)) (from i h)
unfolding from
table-from rows zero i zero k z = refl
table-from rows zero i (suc n) k z = absurd (omega arith)
table-from rows (suc h) i zero k z = ap₂ ◌∷◌ (sym (z i (omega arith))) (table-from rows h (suc i) zero (omega arith) (λ j l. z j (omega arith)))
table-from rows (suc h) i (suc n) k z = ap (λ t. padded 4 (row_of_v rows i) ∷ t) (table-from rows h (suc i) n (omega arith) (λ j l. z j (omega arith)))

module _ (i : Input) (e : first_of vector_checks i ≡ 0) where
  pub accept : Accepted i
  accept = accepted i e

  pub some : 1 ≤ length (basis i)
  some = omega (arith, bs-count i e, accept.some)

  pub high : length (basis i) ≤ 4
  high = omega (arith, bs-count i e, accept.most)

  abbrev pub widen : Row → Row
  widen = pad most_coordinates most_vectors i.m (length (basis i)) accept.few high

  abbrev pub R : List Row
  R = (reduction (basis i)).rows

  pub R-count : length R ≡ i.d
  R-count = reduction-length i.m (basis i) accept.full some ∙ bs-count i e

  -- the vectors given
  pub outs-count : length (vectors R) ≡ i.d
  outs-count = length-vectors R ∙ R-count

  pub outs-full : Coordinates i.m (vectors R)
  outs-full = sized-vectors i.m (length (basis i)) R (reduction-sized i.m (basis i) accept.full some)

  pub outs-rows : take i.d (table most_vectors most_coordinates (vectors R)) ≡ map (padded most_coordinates) (vectors R)
  outs-rows = ap (λ n. take n (table most_vectors most_coordinates (vectors R))) (sym outs-count) ∙ table-rows most_vectors most_coordinates (vectors R) (omega (arith, outs-count, accept.most))

  abbrev start-rows : List Row
  start-rows = start (map (padded most_coordinates) (basis i)) (map (padded 4) (units (length (basis i))))

  start-count : length start-rows ≡ i.d
  start-count = length-start (map (padded most_coordinates) (basis i)) (map (padded 4) (units (length (basis i)))) (wide-count (basis i) (unused i e) (four-rows i e) ∙ sym (ins-count (basis i) (unused i e) (four-rows i e)))
      ∙ ins-count (basis i) (unused i e) (four-rows i e) ∙ bs-count i e

  first_taken : take i.d (first i e) ≡ map widen (start (basis i) (units (length (basis i))))
  first_taken = ap (take i.d) (first-is i e) ∙ ap (λ n. take n (start-rows ++ replicate (unused i e) zero_row)) (sym start-count) ∙ take-append_seam start-rows (replicate (unused i e) zero_row)
      ∙ sym (pad-start i.m (length (basis i)) accept.few high (basis i) (units (length (basis i))))

  first_dropped : drop i.d (first i e) ≡ replicate (unused i e) zero_row
  first_dropped = ap (drop i.d) (first-is i e) ∙ ap (λ n. drop n (start-rows ++ replicate (unused i e) zero_row)) (sym start-count) ∙ drop-append_seam start-rows (replicate (unused i e) zero_row)

  greedy-first : greedy i.d (take i.d (first i e)) ≡ pad-counted most_coordinates most_vectors i.m (length (basis i)) accept.few high (reduction (basis i))
  greedy-first = ap₂ greedy (sym (bs-count i e)) first_taken
      ∙ greedy-padded most_coordinates most_vectors i.m (length (basis i)) accept.few high (length (basis i)) (start (basis i) (units (length (basis i))))
      (length-start (basis i) (units (length (basis i))) (length-units (length (basis i)))) (sized-start i.m (basis i) accept.full)

  -- the rows after the greedy steps, and their passes
  pub last-rows : greedy_rows i.d (first i e) ≡ map widen R ++ replicate (unused i e) zero_row
  unfolding pad-counted
  last-rows = ap₂ (λ c t. c.rows ++ t) greedy-first first_dropped

  pub last-passes : greedy_passes i.d (first i e) ≡ (reduction (basis i)).passes
  unfolding pad-counted
  last-passes = ap (λ c. c.passes) greedy-first

  -- the vectors given are reduced, padded as they are in the work
  pub last-reduced : Reduced (map (padded most_coordinates) (vectors R))
  unfolding pad-counted pad
  last-reduced = subst Reduced (ap (λ c. vectors c.rows) greedy-first ∙ padded-vectors R) (fine-reduced accept.most (first_fine i e))
    where
      padded-vectors : (l : List Row) → vectors (map widen l) ≡ map (padded most_coordinates) (vectors l)
      padded-vectors [] = refl
      padded-vectors (r ∷ l) = ap (λ t. padded most_coordinates r.vector ∷ t) (padded-vectors l)

  n : ℕ
  n = unused i e

  full : length R + n ≡ 4
  unfolding n
  full = omega (arith, R-count, four-rows i e, bs-count i e)

  -- a table of the rows: the vectors, U, the columns of V
  table_of : (w : ℕ) (f : Row → List ℤ) → ((r : Row) → f (widen r) ≡ padded w (f r)) → f zero_row ≡ padded w [] → map f (map widen R ++ replicate (unused i e) zero_row) ≡ table most_vectors w (map f R)
  unfolding n
  table_of w f p z =
      map-append f (map widen R) (replicate n zero_row) ∙ ap₂ ◌++◌ (both R) (map-replicate f n zero_row ∙ ap (replicate n) z)
      ∙ sym (table_is most_vectors w n (map f R) (omega (arith, length-map R f, full)))
    where
      both : (l : List Row) → map f (map widen l) ≡ map (padded w) (map f l)
      both [] = refl
      both (r ∷ l) = ap₂ ◌∷◌ (p r) (both l)

  pub last-vectors : map (λ r. r.vector) (greedy_rows i.d (first i e)) ≡ table most_vectors most_coordinates (vectors R)
  unfolding pad
  last-vectors = ap (map (λ r. r.vector)) last-rows ∙ table_of most_coordinates (λ r. r.vector) (λ r. refl) refl

  pub last-u : map (λ r. r.u) (greedy_rows i.d (first i e)) ≡ table most_vectors most_vectors (map (λ r. r.u) R)
  unfolding pad
  last-u = ap (map (λ r. r.u)) last-rows ∙ table_of most_vectors (λ r. r.u) (λ r. refl) refl

  columns : map (λ r. r.v) (greedy_rows i.d (first i e)) ≡ table most_vectors most_vectors (map (λ r. r.v) R)
  unfolding pad
  columns = ap (map (λ r. r.v)) last-rows ∙ table_of most_vectors (λ r. r.v) (λ r. refl) refl

  sized : All (Sized i.m (length (basis i))) R
  sized = reduction-sized i.m (basis i) accept.full some

  -- row j of the columns is row j of V
  row_of : (j : ℕ) → map (λ r. nth r j) (table most_vectors most_vectors (map (λ r. r.v) R)) ≡ padded 4 (row_of_v R j)
  row_of j =
      ap (map (λ r. nth r j)) (table_is most_vectors most_vectors n (map (λ r. r.v) R) (omega (arith, length-map R (λ r. r.v), full)))
      ∙ map-append (λ r. nth r j) (map (padded 4) (map (λ r. r.v) R)) (replicate n (padded 4 []))
      ∙ ap₂ ◌++◌ (entries R sized) (map-replicate (λ r. nth r j) n (padded 4 []) ∙ ap (replicate n) (nth-padded 4 [] (omega arith) j))
      ∙ padded-append 4 n (row_of_v R j) (omega (arith, length-map R (λ r. nth r.v j), full))
    where
      entries : (l : List Row) → All (Sized i.m (length (basis i))) l → map (λ r. nth r j) (map (padded 4) (map (λ r. r.v) l)) ≡ row_of_v l j
      entries [] s = refl
      entries (r ∷ l) s = ap₂ ◌∷◌ (nth-padded 4 r.v (omega (arith, s.0.v, high)) j) (entries l s.1)

  zero-entries : (j : ℕ) → length (basis i) ≤ j → (l : List Row) → All (Sized i.m (length (basis i))) l → (k : ℕ) → nth (row_of_v l j) k ≡ pos 0
  zero-entries j h [] s k = refl
  zero-entries j h (r ∷ l) s zero = get_or-eq_default r.v (pos 0) (omega (arith, s.0.v))
  zero-entries j h (r ∷ l) s (suc k) = zero-entries j h l s.1 k

  zero_row_lem : (j : ℕ) → 0 + length R ≤ j → padded 4 (row_of_v R j) ≡ padded 4 []
  zero_row_lem j h = same (length-padded 4 (row_of_v R j) ∙ sym (length-padded 4 []))
      (λ k. nth-padded 4 (row_of_v R j) (omega (arith, length-map R (λ r. nth r.v j), R-count, bs-count i e, high)) k
      ∙ zero-entries j (omega (arith, R-count, bs-count i e)) R sized k ∙ sym (nth-padded 4 [] (omega arith) k))

  pub last-v : transposed (map (λ r. r.v) (greedy_rows i.d (first i e))) ≡ table most_vectors most_vectors (rows_of_v R 0 (length R))
  unfolding transposed from
  last-v = ap transposed columns ∙ (λ k. row_of 0 k ∷ row_of 1 k ∷ row_of 2 k ∷ row_of 3 k ∷ [])
      ∙ sym (table-from R 4 0 (length R) (omega (arith, R-count, bs-count i e, high)) zero_row_lem)

  pub last-squares : map N (map (λ r. r.vector) (greedy_rows i.d (first i e))) ≡ padded 4 (map (λ r. N r.vector) R)
  last-squares =
      ap (map N) (last-vectors ∙ table_is most_vectors most_coordinates n (vectors R) (omega (arith, length-map R (λ r. r.vector), full)))
      ∙ map-append N (map (padded most_coordinates) (vectors R)) (replicate n (padded most_coordinates []))
      ∙ ap₂ ◌++◌ (squares R sized) (map-replicate N n (padded most_coordinates []) ∙ ap (replicate n) (padded-N most_coordinates [] (omega arith) ∙ nil-dot []))
      ∙ padded-append 4 n (map (λ r. N r.vector) R) (omega (arith, length-map R (λ r. N r.vector), full))
    where
      squares : (l : List Row) → All (Sized i.m (length (basis i))) l → map N (map (padded most_coordinates) (vectors l)) ≡ map (λ r. N r.vector) l
      squares [] s = refl
      squares (r ∷ l) s = ap₂ ◌∷◌ (padded-N most_coordinates r.vector (omega (arith, s.0.vector, accept.few))) (squares l s.1)
