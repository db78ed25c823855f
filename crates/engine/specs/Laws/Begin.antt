-- The rows with which the engine begins: the padded basis with unit tables, and unused rows of zeros. They may be reduced.
use Rattle.std.specs.Prelude.{◌≡◌, refl, List, [], ◌∷◌, ◌++◌, map, ℕ, zero, suc, ◌+◌, ◌-◌, ◌≤◌, ℤ, pos, ◌≤ℤ◌, length}
use Rattle.std.proofs.Math.Path.{sym, ap, subst}
use Rattle.std.proofs.Common.{ap₂, ◌∙◌, arith}
use Rattle.std.specs.Int.Signed.{le_z_yes}
use Rattle.std.proofs.Math.ListN.{replicate, length-map}
use Rattle.integers.specs.Order.{le_z_false, pos-nonneg}
use Rattle.lattices.specs.Vector.{Vec, dot}
use Rattle.lattices.specs.Volume.{is_dependent}
use Rattle.lattices.specs.Greedy.{Row, units, start}
use Rattle.lattices.specs.Refusal.{Input, basis, first_of, vector_checks, most_vectors, most_coordinates}
use Rattle.lattices.specs.Answer.{padded, table}
use Rattle.lattices.specs.Laws.Answer.{length-vectors_of}
use Rattle.exterior_algebra.specs.Sizes.{Short}
use Rattle.input_checks.specs.Padded.{is_dependent-padded, fit-vectors_of}
use Rattle.greedy_reduction.specs.Moves.{Moves, none, length-vectors}
use Rattle.integers.specs.All.{All}
use Rattle.integers.specs.AllLaws.{all_append}
use Rattle.greedy_reduction.specs.Lengths.{NoLonger}
use Rattle.greedy_reduction.specs.Start.{Sized, Coordinates, length-units, start-vectors}
use Rattle.greedy_reduction.specs.Padding.{padded-coordinates, padded-N}
use Rattle.greedy_reduction.specs.Accepted.{Accepted, accepted, passed}
use Rattle.greedy_reduction.specs.Promise.{basis-of}
use Rattle.greedy_reduction.specs.Sizes.{Basis, first_rows}
use Rattle.row_operations.specs.Rows.{rows_of}
use Rattle.gram_matrix.specs.Tied.{whole}
use Rattle.greedy_steps.specs.Limits.{vector-limits}
use Rattle.greedy_steps.specs.Fine.{Fine}
use Rattle.greedy_steps.specs.Pass.{rows_of-append}

-- ---- a table is its padded rows and n rows of zeros
pub table_is : (h w n : ℕ) (rows : List (List ℤ)) → length rows + n ≡ h → table h w rows ≡ map (padded w) rows ++ replicate n (padded w [])
table_is zero w zero [] e = refl
table_is zero w (suc n) [] e = absurd (omega arith)
table_is (suc h) w zero [] e = absurd (omega arith)
table_is (suc h) w (suc n) [] e = ap (λ l. padded w [] ∷ l) (table_is h w n [] (omega arith))
table_is zero w n (r ∷ rows) e = absurd (omega arith)
table_is (suc h) w n (r ∷ rows) e = ap (λ l. padded w r ∷ l) (table_is h w n rows (omega arith))

-- ---- the rows at the start
-- an unused row
abbrev pub zero_row : Row
zero_row = record { vector = padded most_coordinates []; u = padded 4 []; v = padded 4 [] }

rows_of-zeros : (n : ℕ) → rows_of (replicate n (padded most_coordinates [])) (replicate n (padded 4 [])) (replicate n (padded 4 [])) ≡ replicate n zero_row
unfolding rows_of
rows_of-zeros zero = refl
rows_of-zeros (suc n) = ap (λ l. zero_row ∷ l) (rows_of-zeros n)

rows_of-start : (bs : List Vec) (es : List (List ℤ)) → length es ≡ length bs → rows_of bs es es ≡ start bs es
unfolding rows_of
rows_of-start [] [] e = refl
rows_of-start [] (c ∷ es) e = absurd (omega arith)
rows_of-start (b ∷ bs) [] e = absurd (omega arith)
rows_of-start (b ∷ bs) (c ∷ es) e = ap (λ l. record { vector = b; u = c; v = c } ∷ l) (rows_of-start bs es (omega arith))

module _ (bs : List Vec) (n : ℕ) (four : length bs + n ≡ 4) where
  abbrev ins : List Vec
  ins = map (padded most_coordinates) bs

  abbrev wide : List (List ℤ)
  wide = map (padded 4) (units (length bs))

  pub wide-count : length wide ≡ length bs
  wide-count = length-map (units (length bs)) (padded 4) ∙ length-units (length bs)

  pub ins-count : length ins ≡ length bs
  ins-count = length-map bs (padded most_coordinates)

  -- the padded basis, unit tables, unused rows
  pub begin-rows : rows_of (table most_vectors most_coordinates bs) (table most_vectors most_vectors (units (length bs))) (table most_vectors most_vectors (units (length bs))) ≡ start ins wide ++ replicate n zero_row
  begin-rows =
      ap₂ (λ b e. rows_of b e e) (table_is most_vectors most_coordinates n bs four) (table_is most_vectors most_vectors n (units (length bs)) (omega (arith, length-units (length bs))))
      ∙ rows_of-append ins wide wide (replicate n (padded most_coordinates [])) (replicate n (padded 4 [])) (replicate n (padded 4 [])) (wide-count ∙ sym ins-count) (wide-count ∙ sym ins-count)
      ∙ ap₂ ◌++◌ (rows_of-start ins wide (wide-count ∙ sym ins-count)) (rows_of-zeros n)

  pub begin-first : start ins wide ≡ first_rows 4 ins
  begin-first = ap (λ k. start ins (map (padded 4) (units k))) (sym ins-count)

pub length-start : (bs : List Vec) (es : List (List ℤ)) → length es ≡ length bs → length (start bs es) ≡ length bs
length-start bs es e = sym (length-vectors (start bs es)) ∙ ap length (start-vectors bs es e)

-- ---- they may be reduced
padded-short : (s : ℤ) → pos 0 ≤ℤ s → (n m : ℕ) → m ≤ n → (bs : List Vec) → Coordinates m bs → Short s bs → Short s (map (padded n) bs)
padded-short s z n m h [] c k i = k i
padded-short s z n m h (b ∷ bs) c k zero = subst (λ t. t ≤ℤ s) (sym (padded-N n b (omega (arith, c.0)))) (k 0)
padded-short s z n m h (b ∷ bs) c k (suc i) = padded-short s z n m h bs c.1 (λ i. k (suc i)) i

sized-start : (bs : List Vec) (es : List (List ℤ)) → Coordinates most_coordinates bs → Coordinates most_vectors es → All (Sized most_coordinates most_vectors) (start bs es)
sized-start [] es h k = tt
sized-start (b ∷ bs) [] h k = tt
sized-start (b ∷ bs) (e ∷ es) h k = (record { vector = h.0; u = k.0; v = k.0 }, sized-start bs es h.1 k.1)

zeros-sized : (n : ℕ) → All (Sized most_coordinates most_vectors) (replicate n zero_row)
zeros-sized zero = tt
zeros-sized (suc n) = (record { vector = refl; u = refl; v = refl }, zeros-sized n)

zeros-short : (n : ℕ) → NoLonger (pos 400000000) (replicate n zero_row)
unfolding dot
zeros-short zero = tt
zeros-short (suc n) = (le_z_yes tt, zeros-short n)

module _ (i : Input) (e : first_of vector_checks i ≡ 0) where
  pub ok : Accepted i
  ok = accepted i e

  pub bs-count : length (basis i) ≡ i.d
  bs-count = length-vectors_of i.d i.m i.numbers

  pub unused : ℕ
  unused = 4 - i.d

  pub four-rows : length (basis i) + unused ≡ 4
  unfolding unused
  four-rows = omega (arith, bs-count, ok.most)

  padded-basis : Basis most_coordinates (map (padded most_coordinates) (basis i))
  unfolding is_dependent
  padded-basis = record {
    full = padded-coordinates most_coordinates (basis i);
    some = omega (arith, length-map (basis i) (padded most_coordinates), bs-count, ok.some);
    four = omega (arith, length-map (basis i) (padded most_coordinates), bs-count, ok.most);
    limit = padded-short (pos 400000000) (pos-nonneg 400000000) most_coordinates i.m ok.few (basis i) ok.full (basis-of i ok).limit;
    volume = le_z_false (sym (is_dependent-padded i.m most_coordinates (basis i) (fit-vectors_of i.d i.m i.numbers) ok.few) ∙ (passed vector_checks i (omega arith) e).1.1.1.1.0);
  }

  -- the rows with which the engine begins
  unfoldable pub first : List Row
  first = rows_of (table most_vectors most_coordinates (basis i)) (table most_vectors most_vectors (units i.d)) (table most_vectors most_vectors (units i.d))

  pub first-is : first ≡ start (map (padded most_coordinates) (basis i)) (map (padded 4) (units (length (basis i)))) ++ replicate unused zero_row
  unfolding first
  first-is = ap (λ d. rows_of (table most_vectors most_coordinates (basis i)) (table most_vectors most_vectors (units d)) (table most_vectors most_vectors (units d))) (sym bs-count) ∙ begin-rows (basis i) unused four-rows

  pub first_fine : Fine whole i.d first
  unfolding vector-limits
  first_fine = record {
    first = first_rows most_vectors (map (padded most_coordinates) (basis i));
    limits = vector-limits most_coordinates (map (padded most_coordinates) (basis i)) padded-basis padded-basis.four;
    active = start (map (padded most_coordinates) (basis i)) (map (padded 4) (units (length (basis i))));
    moved = subst (λ l. Moves l (start (map (padded most_coordinates) (basis i)) (map (padded 4) (units (length (basis i)))))) (begin-first (basis i) unused four-rows) (none (start (map (padded most_coordinates) (basis i)) (map (padded 4) (units (length (basis i))))));
    unused = replicate unused zero_row;
    is = first-is;
    short = zeros-short unused;
    sized = subst (All (Sized most_coordinates most_vectors)) (sym first-is) (all_append (Sized most_coordinates most_vectors) (start (map (padded most_coordinates) (basis i)) (map (padded 4) (units (length (basis i))))) (replicate unused zero_row)
        (sized-start (map (padded most_coordinates) (basis i)) (map (padded 4) (units (length (basis i)))) (padded-coordinates most_coordinates (basis i)) (padded-coordinates 4 (units (length (basis i))))) (zeros-sized unused));
    count = omega (arith, length-start (map (padded most_coordinates) (basis i)) (map (padded 4) (units (length (basis i)))) (wide-count (basis i) unused four-rows ∙ sym (ins-count (basis i) unused four-rows)), ins-count (basis i) unused four-rows, bs-count);
  }
