-- A pass on the four tables of rows that are ready for it.
use Rattle.std.specs.Prelude.{◌≡◌, refl, Bool, ℕ, zero, suc, ◌+◌, ◌≤◌, ◌<◌, ℤ, pos, ◌*ℤ◌, get_or, take}
use Rattle.std.proofs.Common.{sym, ap, ap₂, ◌∙◌, subst, arith, length-set}
use Rattle.std.proofs.Math.Bool.{true, false}
use mathlib.Core.List.{List, [], ◌∷◌, map}
use Rattle.std.proofs.Math.Decide.{dec_lt}
use Rattle.std.proofs.Math.IntN.{nat_abs, *ℤ-zero}
use Rattle.std.specs.Int.Signed.{le_z_yes}
use Rattle.std.proofs.Math.ListN.{length, get_or-eq_default}
use Rattle.std.proofs.lemmas.List.{length-map}
use Rattle.integers.specs.Identity.{by_ring, reads}
use Rattle.integers.specs.Order.{≤ℤ_trans, ≤ℤ_of_<ℤ, *ℤ_mono}
use Rattle.integers.specs.Size.{Within, load}
use Rattle.integers.specs.ListLaws.{nth-⊙}
use Rattle.lattices.specs.Vector.{Vec, N, nth, dot, comb, ◌⊙◌, ◌⊖◌}
use Rattle.lattices.specs.Nearest.{nearest}
use Rattle.lattices.specs.Greedy as Greedy
use Rattle.lattices.specs.Greedy.{Row}
use Rattle.lattices.specs.Answer.{padded}
use Rattle.lattices.specs.Laws.Answer.{nth-padded}
use Rattle.successive_minima.specs.Reduced.{Reduced}
use Rattle.row_operations.specs.Minus.{room}
use Rattle.row_operations.specs.Rows.{Tables, rows_of, rows_of-tables, transposed}
use Rattle.gram_matrix.specs.Gram.{losing}
use Rattle.gram_matrix.specs.Tied.{Kind, Tied, scaled, bit, scaled-row, tied-square, tied-length-gram}
use Rattle.gram_matrix.specs.Columns.{gained_columns, nth-column}
use Rattle.gram_matrix.specs.Lose.{Loses, Gains, row-wide}
use Rattle.gram_matrix.specs.Cross.{crossed}
use Rattle.gram_matrix.specs.Passed.{tied-passed, tied-entry}
use Rattle.nearest_search.specs.MeantNear.{MeantNear, KnownNear}
use Rattle.greedy_steps.specs.State.{blank, pass_rows}
use Rattle.greedy_steps.specs.Room as Room
use Rattle.greedy_steps.specs.Room.{PassReady}
use Rattle.greedy_steps.specs.Pass.{gaining, length-gained, pass-rows}
use Rattle.greedy_steps.specs.Passing as Passing
use Rattle.greedy_steps.specs.Passing.{coefficients}

-- some rows whose tables these are, ready for a pass
pub record Passable (k : ℕ) (g b u v : List (List ℤ)) : Type 0 where
  pub kind : Kind
  pub rows : List Row
  pub tied : Tied kind rows g b u v
  pub ready : PassReady kind k rows

-- ---- the table of the vectors: as they are, or zeros
one-⊙ : (r : Vec) → pos 1 ⊙ r ≡ r
unfolding ◌⊙◌
one-⊙ [] = refl
one-⊙ (x ∷ r) = ap₂ ◌∷◌ (one x) (one-⊙ r)
  where
    one : (x : ℤ) → pos 1 *ℤ x ≡ x
    one x = by_ring (x ∷ []) (search reads) (search reads) tt

pub ones : (g : List (List ℤ)) → scaled (pos 1) g ≡ g
ones [] = refl
ones (r ∷ g) = ap₂ ◌∷◌ (one-⊙ r) (ones g)

zero-* : (z : ℤ) → pos 0 *ℤ z ≡ pos 0
zero-* z = by_ring (z ∷ []) (search reads) (search reads) tt

zero-entry : (t : List (List ℤ)) (i j : ℕ) → nth (get_or (scaled (pos 0) t) i []) j ≡ pos 0
zero-entry t i j = ap (λ r. nth r j) (scaled-row (pos 0) t i) ∙ nth-⊙ (pos 0) (get_or t i []) j ∙ zero-* (nth (get_or t i []) j)

zero-load : (k : ℕ) (x : List ℤ) (t : List (List ℤ)) (i : ℕ) → load (take k x) (take k (scaled (pos 0) t)) i ≡ 0
unfolding load
zero-load zero x t i = refl
zero-load (suc k) [] t i = refl
zero-load (suc k) (y ∷ x) [] i = refl
zero-load (suc k) (y ∷ x) (r ∷ t) i = ap₂ (λ z n. nat_abs (y *ℤ z) + n) (nth-⊙ (pos 0) r i ∙ zero-* (nth r i)) (zero-load k x t i) ∙ ap (λ z. nat_abs z + 0) (*ℤ-zero y)

-- ---- entries of the table V from the columns of the rows
nth-transposed : (t : List (List ℤ)) (i j : ℕ) → i < 4 → nth (get_or (transposed t) i []) j ≡ nth (get_or t j []) i
unfolding transposed
nth-transposed t zero j h = nth-column 0 j t
nth-transposed t (suc zero) j h = nth-column 1 j t
nth-transposed t (suc (suc zero)) j h = nth-column 2 j t
nth-transposed t (suc (suc (suc zero))) j h = nth-column 3 j t
nth-transposed t (suc (suc (suc (suc i)))) j h = absurd (omega arith)

length-transposed : (t : List (List ℤ)) → length (transposed t) ≡ 4
unfolding transposed
length-transposed t = refl

module _ {K : Kind} {k : ℕ} {g b u v : List (List ℤ)} {rows : List Row} (t : Tied K rows g b u v) (r : PassReady K k rows) (three : k ≤ 3) (four : length g ≡ 4) where
  rows_four : length rows ≡ 4
  rows_four = sym (tied-length-gram t) ∙ four

  abbrev x : List ℤ
  x = padded 4 (coefficients k rows)

  x-is : take k x ≡ coefficients k rows
  x-is = Passing.taken t.positive k rows r three

  -- the search may be made, and finds the coefficients
  square : (i : ℕ) → i < 4 → length (get_or g i []) ≡ 4
  square i h = row-wide (length rows) i g (tied-square t) (omega (arith, tied-length-gram t, rows_four, h)) ∙ rows_four

  pub row-four : length (get_or g k []) ≡ 4
  row-four = square k (omega (arith, three))

  pub near : MeantNear K.factor k (Greedy.vectors rows) (get_or rows k blank).vector g (get_or g k [])
  near = record {
    meant = record {
      positive = t.positive;
      enough = omega (arith, length-map rows (λ s. s.vector), rows_four, three);
      reduced = subst Reduced (sym (Passing.front-is t.positive k rows r three)) r.reduced;
      short = Passing.short t.positive k rows r three;
      target = ≤ℤ_trans (Passing.short-last t.positive k rows r three) (*ℤ_mono {a = pos 400000000} {b = pos 3600000000} (≤ℤ_of_<ℤ t.positive) (le_z_yes tt));
      gram = record { row = λ i. record { at = tied-entry t i } };
      products = record { at = λ j. tied-entry t k j ∙ ap (dot (get_or (Greedy.vectors rows) j [])) (Passing.last-is t.positive k rows r three) };
      wide = λ i. pick i (dec_lt i 4);
    };
    close = Passing.short-last t.positive k rows r three;
  }
    where
      pick : (i : ℕ) → Dec (i < 4) → length (get_or g i []) ≤ length (get_or g k [])
      pick i (yes h) = omega (arith, square i h, row-four)
      pick i (no h) =
          let m : length g ≤ i = omega (arith, tied-length-gram t, rows_four, h) in
          rw (get_or-eq_default g [] m) (omega arith)

  -- the squared length of row k is its entry k
  square-is : {n : ℤ} → n ≡ nth (get_or g k []) k → K.factor *ℤ n ≡ N (get_or rows k blank).vector
  square-is h = ap (λ z. K.factor *ℤ z) h ∙ tied-entry t k k ∙ ap N (Passing.last-is t.positive k rows r three)

  pub known : {n : ℤ} → n ≡ nth (get_or g k []) k → KnownNear k n g (get_or g k [])
  known h = record { factor = K.factor; vectors = Greedy.vectors rows; target = (get_or rows k blank).vector; near = near; square = square-is h }

  pub found : {n : ℤ} {y : List ℤ} → n ≡ nth (get_or g k []) k → ((F : ℤ) (vs : List Vec) (w : Vec) → MeantNear F k vs w g (get_or g k []) → F *ℤ n ≡ N w → y ≡ padded 4 (nearest (take k vs) w)) → y ≡ x
  found h e = e K.factor (Greedy.vectors rows) (get_or rows k blank).vector near (square-is h) ∙ ap (λ l. padded 4 (nearest l (get_or rows k blank).vector)) (Passing.front-is t.positive k rows r three)

  -- room for the row operations
  pub left-room : (j : ℕ) → Within 2000000000000000000 (nth x j *ℤ nth (get_or g k [] ⊖ comb (take k x) (take k g)) j)
  left-room j = rw x-is (Passing.left-room t.positive k rows r three t j)

  pub square-room : Within 1000000000000000000 (nth (get_or g k [] ⊖ comb (take k x) (take k g)) k)
  square-room = rw x-is (Passing.square-room t.positive k rows r three t)

  pub zero-behind : (j : ℕ) → k ≤ j → nth x j ≡ pos 0
  zero-behind j h =
      let count = Passing.x-count t.positive k rows r three in
      nth-padded 4 (coefficients k rows) (omega (arith, count, three)) j ∙ get_or-eq_default (coefficients k rows) (pos 0) (omega (arith, count, h))

  vectors-fit : (s : Bool) → K.vectors ≡ s → (i : ℕ) → nat_abs (nth (get_or (scaled (bit s) (Greedy.vectors rows)) k []) i) + load (take k x) (take k (scaled (bit s) (Greedy.vectors rows))) i ≤ room
  unfolding Room.x
  vectors-fit true e i = rw ones (Room.vectors-room k rows r.fine three r.reduced e i)
  vectors-fit false e i = rw (zero-entry (Greedy.vectors rows) k i, zero-load k x (Greedy.vectors rows) i) (omega arith)

  pub vectors_lose : Loses k x b
  vectors_lose = record { fits = rw (sym t.vectors) (vectors-fit K.vectors refl) }

  pub us_lose : Loses k x u
  unfolding Room.x
  us_lose = record { fits = rw (sym t.us) (Room.u-table-room k rows r.fine three r.reduced) }

  abbrev columns : List (List ℤ)
  columns = map (λ s. s.v) rows

  pub vs-gain : Gains k x v
  unfolding Room.x
  vs-gain = rw (sym t.vs) (record { fits = λ i j h. pick i j h (dec_lt i 4) })
    where
      pick : (i j : ℕ) → j < k → Dec (i < 4) → nat_abs (nth (get_or (transposed columns) i []) j) + nat_abs (nth x j *ℤ nth (get_or (transposed columns) i []) k) ≤ room
      pick i j h (yes l) = rw (nth-transposed columns i j l, nth-transposed columns i k l) (Room.v-table-room k rows r.fine three r.reduced j i h)
      pick i j h (no l) =
          let m : length (transposed columns) ≤ i = omega (arith, length-transposed columns, l) in
          rw (get_or-eq_default (transposed columns) [] m, *ℤ-zero) (omega arith)

  -- the tables afterwards
  whole : rows_of (losing (coefficients k rows) (map (λ s. s.vector) rows) k) (losing (coefficients k rows) (map (λ s. s.u) rows) k) (gaining (coefficients k rows) columns k) ≡ pass_rows k rows
  whole = pass-rows k rows (Passing.long t.positive k rows r three) (coefficients k rows) (Passing.x-count t.positive k rows r three)

  count : (f : Row → List ℤ) → length (losing (coefficients k rows) (map f rows) k) ≡ length rows
  count f = length-set (map f rows) k _ ∙ length-map rows f

  tables : Tables (losing (coefficients k rows) (map (λ s. s.vector) rows) k) (losing (coefficients k rows) (map (λ s. s.u) rows) k) (gaining (coefficients k rows) columns k) (pass_rows k rows)
  tables = subst (Tables _ _ _) whole (rows_of-tables (losing (coefficients k rows) (map (λ s. s.vector) rows) k) (losing (coefficients k rows) (map (λ s. s.u) rows) k) (gaining (coefficients k rows) columns k)
      (count (λ s. s.u) ∙ sym (count (λ s. s.vector)))
      (length-gained (coefficients k rows) (get_or columns k []) columns ∙ length-map rows (λ s. s.v) ∙ sym (count (λ s. s.vector))))

  pub tied-after : let y = take k x in Tied K (pass_rows k rows) (crossed y k (get_or g k [] ⊖ comb y (take k g)) g) (losing y b k) (losing y u k) (gained_columns y k v)
  tied-after = rw x-is (tied-passed t k (Passing.long t.positive k rows r three) (coefficients k rows) (pass_rows k rows) tables.vectors tables.u tables.v)
