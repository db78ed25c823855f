-- What holds of the rows throughout a reduction: they came by greedy moves from rows within the limits.
use Rattle.std.specs.Prelude.{◌≡◌, List, ◌++◌, ℕ, ◌≤◌, pos, ◌≤ℤ◌, ◌<ℤ◌, length, take, drop}
use Rattle.std.proofs.Common.{sym, ap, ◌∙◌, subst, append_assoc, le_refl, le_trans, arith, length-append, length-drop, take-append-drop, length-take-le}
use Rattle.std.proofs.lemmas.List.{take-append-le, drop-append-le}
use Rattle.lattices.specs.Vector.{N}
use Rattle.lattices.specs.Volume.{squared_volume}
use Rattle.lattices.specs.Refusal.{most_vectors}
use Rattle.lattices.specs.Greedy.{Row, vectors, order, greedy}
use Rattle.successive_minima.specs.Reduced.{Reduced}
use Rattle.greedy_reduction.specs.Moves.{Moves, after, exchange, order_perm, moves-append, moves-length, greedy-moves, vectors-append}
use Rattle.integers.specs.All.{All}
use Rattle.integers.specs.AllLaws.{all_append, all_left, all_right}
use Rattle.greedy_reduction.specs.Lengths.{NoLonger, moves-no-longer}
use Rattle.greedy_reduction.specs.Start.{Sized, moves-sized}
use Rattle.greedy_reduction.specs.Kept.{positive-left, moves_keep}
use Rattle.greedy_reduction.specs.Output.{greedy-reduced}
use Rattle.gram_matrix.specs.Tied.{Kind}
use Rattle.greedy_steps.specs.Limits.{Limits, longest}

-- n of the rows may be reduced
pub record Fine (K : Kind) (n : ℕ) (rows : List Row) : Type 0 where
  -- the rows at the start, and those that came from them
  pub first : List Row
  pub limits : Limits K first
  pub active : List Row
  pub moved : Moves first active
  -- behind them the unused rows
  pub unused : List Row
  pub is : rows ≡ active ++ unused
  pub short : NoLonger (longest K) unused
  pub sized : All (Sized limits.width most_vectors) rows
  pub count : n ≤ length active

module _ {K : Kind} {n : ℕ} {rows : List Row} (f : Fine K n rows) where
  -- the first k rows, for every k up to n
  fine-take : (k : ℕ) → k ≤ n → take k rows ≡ take k f.active
  fine-take k h = ap (take k) f.is ∙ take-append-le k f.active f.unused (le_trans h f.count)

  fine-drop : (k : ℕ) → k ≤ n → drop k rows ≡ drop k f.active ++ f.unused
  fine-drop k h = ap (drop k) f.is ∙ drop-append-le k f.active f.unused (le_trans h f.count)

  pub fine-count : (k : ℕ) → k ≤ n → length (take k rows) ≡ k
  fine-count k h = ap length (fine-take k h) ∙ length-take-le k f.active (le_trans h f.count)

  pub fine-length : length (take n rows) ≡ n
  fine-length = fine-count n (le_refl n)

  -- no vector is over the length limit
  pub fine-short : NoLonger (longest K) rows
  fine-short = subst (NoLonger (longest K)) (sym f.is)
      (all_append (λ r. N r.vector ≤ℤ longest K) f.active f.unused (moves-no-longer (longest K) f.moved f.limits.short) f.short)

  abbrev w : ℕ
  w = f.limits.width

  pub fine-volume : pos 0 <ℤ squared_volume w (vectors (take n rows))
  fine-volume = positive-left w (vectors (take n rows)) (vectors (drop n f.active))
      (subst (λ l. pos 0 <ℤ squared_volume w l)
      (ap vectors (sym (take-append-drop n f.active) ∙ ap (λ l. l ++ drop n f.active) (sym (fine-take n (le_refl n)))) ∙ vectors-append (take n rows) (drop n f.active))
      (subst (λ z. pos 0 <ℤ z) (moves_keep w f.moved) f.limits.volume))

  -- moves of the first k rows
  pub fine-moves : (k : ℕ) → k ≤ n → (to : List Row) → Moves (take k rows) to → Fine K n (to ++ drop k rows)
  fine-moves k h to m = record {
    first = f.first;
    limits = f.limits;
    active = to ++ drop k f.active;
    moved = after f.moved (subst (λ l. Moves l (to ++ drop k f.active)) (take-append-drop k f.active) (moves-append (subst (λ l. Moves l to) (fine-take k h) m) (drop k f.active)));
    unused = f.unused;
    is = ap (λ l. to ++ l) (fine-drop k h) ∙ sym (append_assoc to (drop k f.active) f.unused);
    short = f.short;
    sized = all_append (Sized w most_vectors) to (drop k rows) (moves-sized w most_vectors m (all_left (Sized w most_vectors) (take k rows) (drop k rows) whole-rows)) (all_right (Sized w most_vectors) (take k rows) (drop k rows) whole-rows);
    count = omega (arith, length-append to (drop k f.active), moves-length m, fine-count k h, length-drop k f.active, f.count);
  }
    where
      whole-rows : All (Sized w most_vectors) (take k rows ++ drop k rows)
      whole-rows = subst (All (Sized w most_vectors)) (sym (take-append-drop k rows)) f.sized

pub fine-fewer : {K : Kind} {n k : ℕ} {rows : List Row} → k ≤ n → Fine K n rows → Fine K k rows
fine-fewer h f = record {
  first = f.first;
  limits = f.limits;
  active = f.active;
  moved = f.moved;
  unused = f.unused;
  is = f.is;
  short = f.short;
  sized = f.sized;
  count = le_trans h f.count;
}

-- step 2
pub fine-order : {K : Kind} {n : ℕ} {rows : List Row} → Fine K n rows → Fine K n (order (take n rows) ++ drop n rows)
fine-order {n = n} {rows} f = fine-moves f n (le_refl n) (order (take n rows)) (exchange (order_perm (take n rows)))

-- step 3, and its outcome
pub fine-greedy : {K : Kind} {n : ℕ} {rows : List Row} → Fine K n rows → (k : ℕ) → k ≤ n → Fine K n ((greedy k (take k rows)).rows ++ drop k rows)
fine-greedy {rows = rows} f k h = fine-moves f k h (greedy k (take k rows)).rows (greedy-moves k (take k rows) (fine-count f k h))

pub fine-reduced : {K : Kind} {n : ℕ} {rows : List Row} → n ≤ 4 → Fine K n rows → Reduced (vectors (greedy n (take n rows)).rows)
fine-reduced {n = n} {rows} h f = greedy-reduced f.limits.width n h (take n rows) (fine-length f) (fine-volume f)
