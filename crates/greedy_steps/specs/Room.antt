-- Room for one pass: what the row operations ask of their numbers holds of every row on the way.
use Rattle.std.specs.Prelude.{◌≡◌, true, ℤ, pos, ◌≤ℤ◌, ◌<ℤ◌, length, take, drop}
use Rattle.std.proofs.Common.{sym, ap₂, ◌∙◌, arith, length-append}
use Rattle.std.proofs.Math.Path.{ap, subst}
use mathlib.Core.List.{List, [], ◌∷◌, ◌++◌, map}
use Prim.Native.Nat.{ℕ, suc, ◌+◌, ◌*◌, ◌≤◌, ◌<◌}
use Rattle.std.proofs.Math.IntN.{nat_abs, ◌*ℤ◌}
use Rattle.std.specs.Int.Signed.{lt_z_yes}
use Rattle.std.proofs.Math.ListN.{get_or, get_or-append}
use Rattle.std.proofs.lemmas.List.{take-append-le}
use Rattle.std.proofs.Math.Seq.{split_at, get_or-take}
use Rattle.integers.specs.AllLaws.{take-map, get_d_map}
use Rattle.integers.specs.Order.{≤ℤ_of_<ℤ}
use Rattle.integers.specs.Certificate.{nn-pos, ◌⊠◌}
use Rattle.integers.specs.Size.{Within, load}
use Rattle.lattices.specs.Vector.{N, nth, dot, comb, ◌⊖◌}
use Rattle.lattices.specs.Nearest.{nearest}
use Rattle.lattices.specs.Greedy.{Row, vectors}
use Rattle.lattices.specs.Answer.{padded}
use Rattle.lattices.specs.Laws.Answer.{nth-padded, take-padded}
use Rattle.successive_minima.specs.Reduced.{Reduced}
use Rattle.successive_minima.specs.Laws.NearestLaws.{nearest-count}
use Rattle.greedy_reduction.specs.Moves.{Moves, length-vectors}
use Rattle.greedy_reduction.specs.Sizes.{coordinate, short_of}
use Rattle.row_operations.specs.Minus.{room}
use Rattle.gram_matrix.specs.Tied.{Kind, whole}
use Rattle.greedy_steps.specs.State.{blank}
use Rattle.greedy_steps.specs.Limits.{longest}
use Rattle.greedy_steps.specs.Fine.{Fine, fine-length, fine-short, fine-fewer}

module _ {K : Kind} (k : ℕ) (rows : List Row) (f : Fine K (suc k) rows) (three : k ≤ 3) (red : Reduced (vectors (take k rows))) where
  fewer : Fine K k rows
  fewer = fine-fewer {n = suc k} {k = k} (omega arith) f

  abbrev rest : List Row
  rest = drop (suc k) f.active

  front-is : take k f.active ≡ take k rows
  front-is = sym (ap (take k) f.is ∙ take-append-le k f.active f.unused (omega (arith, f.count)))

  row_is : get_or f.active k blank ≡ get_or rows k blank
  row_is = sym (ap (λ l. get_or l k blank) f.is ∙ get_or-append f.active f.unused blank k f.count)

  moved : Moves f.first (take k rows ++ (get_or rows k blank ∷ rest))
  moved = subst (Moves f.first) (split_at f.active k blank f.count ∙ ap₂ (λ a r. a ++ (r ∷ rest)) front-is row_is) f.moved

  few : length (take k rows) ≤ 3
  few = omega (arith, fine-length fewer)

  -- the coefficients of the vector nearest to row k
  unfoldable pub x : List ℤ
  x = nearest (vectors (take k rows)) (get_or rows k blank).vector

  pub x-count : length x ≡ k
  unfolding x
  x-count = nearest-count (vectors (take k rows)) (get_or rows k blank).vector ∙ length-vectors (take k rows) ∙ fine-length fewer

  pub x-taken : take k (padded 4 x) ≡ x
  x-taken = take-padded k 4 x x-count (omega arith)

  pub long : suc k ≤ length rows
  long = omega (arith, ap length f.is, length-append f.active f.unused, f.count)

  pub table_at : (g : Row → List ℤ) → get_or (map g rows) k [] ≡ g (get_or rows k blank)
  table_at g = get_d_map g rows blank [] k long

  -- step 5 on the vectors, where they stand in their table
  pub vectors-room : K.vectors ≡ true → (i : ℕ) → nat_abs (nth (get_or (map (λ r. r.vector) rows) k []) i) + load (take k (padded 4 x)) (take k (map (λ r. r.vector) rows)) i ≤ room
  unfolding x
  vectors-room v i = subst (λ n. n ≤ room)
      (sym (ap₂ ◌+◌ (ap (λ l. nat_abs (nth l i)) (table_at (λ r. r.vector))) (ap₂ (λ a t. load a t i) x-taken (take-map (λ r. r.vector) k rows))))
      (f.limits.on-vectors v (take k rows) (get_or rows k blank) rest moved few red i)

  -- step 5 on U
  pub u-table-room : (i : ℕ) → nat_abs (nth (get_or (map (λ r. r.u) rows) k []) i) + load (take k (padded 4 x)) (take k (map (λ r. r.u) rows)) i ≤ room
  unfolding x
  u-table-room i = subst (λ n. n ≤ room)
      (sym (ap₂ ◌+◌ (ap (λ l. nat_abs (nth l i)) (table_at (λ r. r.u))) (ap₂ (λ a t. load a t i) x-taken (take-map (λ r. r.u) k rows))))
      (f.limits.on-u (take k rows) (get_or rows k blank) rest moved few red i)

  -- step 5 on V
  pub nth-x : (j : ℕ) → nth (padded 4 x) j ≡ nth x j
  nth-x j = nth-padded 4 x (omega (arith, x-count)) j

  pub v-table-room : (j i : ℕ) → j < k → nat_abs (nth (get_or (map (λ r. r.v) rows) j []) i) + nat_abs (nth (padded 4 x) j *ℤ nth (get_or (map (λ r. r.v) rows) k []) i) ≤ room
  unfolding x
  v-table-room j i h = subst (λ n. n ≤ room)
      (ap₂ (λ a b. nat_abs (nth a i) + nat_abs b) left (ap₂ ◌*ℤ◌ (sym (nth-x j)) (ap (λ l. nth l i) (sym (table_at (λ r. r.v))))))
      (f.limits.on-v (take k rows) (get_or rows k blank) rest moved few red i j (omega (arith, fine-length fewer)))
    where
      left : get_or (map (λ s. s.v) (take k rows)) j [] ≡ get_or (map (λ r. r.v) rows) j []
      left = ap (λ l. get_or l j []) (sym (take-map (λ r. r.v) k rows)) ∙ get_or-take k (map (λ r. r.v) rows) j [] h

  -- and on the inner products of what is left
  pub terms-room : (j : ℕ) → nat_abs (nth x j *ℤ dot (get_or (vectors (take k rows)) j []) ((get_or rows k blank).vector ⊖ comb x (vectors (take k rows)))) ≤ nat_abs K.factor * 20800000000
  unfolding x
  terms-room j = f.limits.on-gram (take k rows) (get_or rows k blank) rest moved few red j

-- no vector is over the limit, place by place
pub rows_short : {K : Kind} {n : ℕ} {rows : List Row} → pos 0 <ℤ K.factor → Fine K n rows → (i : ℕ) → N (get_or (map (λ r. r.vector) rows) i []) ≤ℤ longest K
rows_short {K} {rows = rows} p f i = short_of (longest K) (≤ℤ_of_<ℤ p ⊠ nn-pos 400000000) rows (fine-short f) i

-- vectors as they are
pub short-rows : {n : ℕ} {rows : List Row} → Fine whole n rows → (i : ℕ) → N (get_or (map (λ r. r.vector) rows) i []) ≤ℤ pos 400000000
short-rows f i = rows_short (lt_z_yes tt) f i

-- the coordinates of vectors are small
pub small-rows : {n : ℕ} {rows : List Row} → Fine whole n rows → (i j : ℕ) → Within 100000 (nth (get_or (map (λ r. r.vector) rows) i []) j)
small-rows {rows = rows} f i j = record { within = omega (arith, coordinate 1 (get_or (map (λ r. r.vector) rows) i []) (short-rows f i) j) }

-- ready for a pass: the rows before row k are reduced
pub record PassReady (K : Kind) (k : ℕ) (rows : List Row) : Type 0 where
  pub fine : Fine K (suc k) rows
  pub reduced : Reduced (vectors (take k rows))
