-- One turn of the repetition of steps 2 to 6 on a work: order, reduce all rows but the last, pass. What it does to the rows, and that it
-- either ends the reduction of n rows or leaves the same reduction to do.
use Rattle.std.specs.Prelude.{◌≡◌, refl, Bool, true, false, cond, List, [], ◌∷◌, ◌++◌, ℕ, suc, ◌+◌, ◌≤◌, ◌<◌, nat_abs, length, get_or, take, drop}
use Rattle.std.proofs.Common.{sym, ap, ap₂, ◌∙◌, subst, append_assoc, le_refl, arith, length-append}
use Rattle.std.specs.Int.Signed.{lt_z}
use Rattle.std.proofs.Math.ListN.{get_or-append}
use Rattle.std.proofs.Math.Seq.{take-append_seam, drop-append_seam, get_or-append_seam}
use Rattle.lattices.specs.Vector.{N}
use Rattle.lattices.specs.Laws.Permutation.{perm_length}
use Rattle.lattices.specs.Greedy.{Row, Pass, vectors, order, last_of, before, pass, round, shorter, joined, total, greedy}
use Rattle.successive_minima.specs.Reduced.{Reduced}
use Rattle.greedy_reduction.specs.Moves.{Moves, order_perm, before_last, length_before, moves-length, ordered_moves, greedy-moves}
use Rattle.greedy_reduction.specs.Lengths.{total-nonneg}
use Rattle.greedy_reduction.specs.Fuel.{stop, again, greedy-steps, falls, size-falls}
use Rattle.gram_matrix.specs.Tied.{Kind}
use Rattle.greedy_steps.specs.State.{blank, order_rows, pass_rows, greedy_rows, greedy_passes}
use Rattle.greedy_steps.specs.Fine.{Fine, fine-length, fine-moves, fine-order, fine-greedy, fine-fewer, fine-reduced}
use Rattle.greedy_steps.specs.Room.{PassReady}

-- a list of suc k rows: all but the last, and the last
module _ (k : ℕ) (r : Row) (rows tail : List Row) (e : length (r ∷ rows) ≡ suc k) where
  count : length (before r rows) ≡ k
  count = length_before r rows ∙ omega arith

  split : (r ∷ rows) ++ tail ≡ before r rows ++ (last_of r rows ∷ tail)
  split = ap (λ l. l ++ tail) (sym (before_last r rows)) ∙ append_assoc (before r rows) (last_of r rows ∷ []) tail

  take-before : take k ((r ∷ rows) ++ tail) ≡ before r rows
  take-before = ap₂ take (sym count) split ∙ take-append_seam (before r rows) (last_of r rows ∷ tail)

  drop-before : drop k ((r ∷ rows) ++ tail) ≡ last_of r rows ∷ tail
  drop-before = ap₂ drop (sym count) split ∙ drop-append_seam (before r rows) (last_of r rows ∷ tail)

-- front rows, the next row and the rest
module _ (k : ℕ) (front : List Row) (l : Row) (tail : List Row) (e : length front ≡ k) where
  take-front : take k (front ++ (l ∷ tail)) ≡ front
  take-front = ap (λ n. take n (front ++ (l ∷ tail))) (sym e) ∙ take-append_seam front (l ∷ tail)

  row_at : get_or (front ++ (l ∷ tail)) k blank ≡ l
  row_at = ap (λ n. get_or (front ++ (l ∷ tail)) n blank) (sym e) ∙ get_or-append_seam front l tail blank

  drop-next : drop (suc k) (front ++ (l ∷ tail)) ≡ tail
  drop-next = ap₂ drop (sym one-longer) (sym (append_assoc front (l ∷ []) tail)) ∙ drop-append_seam (front ++ (l ∷ [])) tail
    where
      one-longer : length (front ++ (l ∷ [])) ≡ suc k
      one-longer = length-append front (l ∷ []) ∙ omega arith

  pass-front : pass_rows k (front ++ (l ∷ tail)) ≡ joined (pass (record { rows = front; passes = 0 }) l) ++ tail
  pass-front = ap₂ (λ a r. joined (pass (record { rows = a; passes = 0 }) r) ++ drop (suc k) (front ++ (l ∷ tail))) take-front row_at
      ∙ ap (λ t. joined (pass (record { rows = front; passes = 0 }) l) ++ t) drop-next

-- ---- steps 2 to 5 for the first suc k rows
abbrev pub turn_rows : ℕ → List Row → List Row
turn_rows k rows = pass_rows k (greedy_rows k (order_rows (suc k) rows))

abbrev pub round_of : ℕ → List Row → Pass
round_of k rows = round (greedy k) (order (take (suc k) rows))

turn-list : (k : ℕ) (l tail : List Row) → length l ≡ suc k → pass_rows k (greedy_rows k (l ++ tail)) ≡ joined (round (greedy k) l) ++ tail
turn-list k [] tail e = absurd (omega arith)
turn-list k (r ∷ rs) tail e =
    ap (pass_rows k) (ap₂ (λ a b. (greedy k a).rows ++ b) (take-before k r rs tail e) (drop-before k r rs tail e))
    ∙ pass-front k (greedy k (before r rs)).rows (last_of r rs) tail (sym (moves-length (greedy-moves k (before r rs) (count k r rs tail e))) ∙ count k r rs tail e)

passes-list : (k : ℕ) (l tail : List Row) → length l ≡ suc k → suc (greedy_passes k (l ++ tail)) ≡ (round (greedy k) l).passes
passes-list k [] tail e = absurd (omega arith)
passes-list k (r ∷ rs) tail e = ap (λ a. suc (greedy k a).passes) (take-before k r rs tail e)

module _ {K : Kind} (k : ℕ) (rows : List Row) (f : Fine K (suc k) rows) where
  ordered_count : length (order (take (suc k) rows)) ≡ suc k
  ordered_count = sym (perm_length (order_perm (take (suc k) rows))) ∙ fine-length f

  pub turn-rows : turn_rows k rows ≡ joined (round_of k rows) ++ drop (suc k) rows
  turn-rows = turn-list k (order (take (suc k) rows)) (drop (suc k) rows) ordered_count

  pub turn-passes : suc (greedy_passes k (order_rows (suc k) rows)) ≡ (round_of k rows).passes
  turn-passes = passes-list k (order (take (suc k) rows)) (drop (suc k) rows) ordered_count

  turn-moves : Moves (take (suc k) rows) (joined (round_of k rows))
  turn-moves = ordered_moves k (greedy k) (greedy-moves k) (take (suc k) rows) (fine-length f)

  pub turn-fine : Fine K (suc k) (turn_rows k rows)
  turn-fine = subst (Fine K (suc k)) (sym turn-rows) (fine-moves f (suc k) (le_refl (suc k)) (joined (round_of k rows)) turn-moves)

  joined-count : length (joined (round_of k rows)) ≡ suc k
  joined-count = sym (moves-length turn-moves) ∙ fine-length f

  pub turn-take : take (suc k) (turn_rows k rows) ≡ joined (round_of k rows)
  turn-take = ap₂ take (sym joined-count) turn-rows ∙ take-append_seam (joined (round_of k rows)) (drop (suc k) rows)

  pub turn-drop : drop (suc k) (turn_rows k rows) ≡ drop (suc k) rows
  turn-drop = ap₂ drop (sym joined-count) turn-rows ∙ drop-append_seam (joined (round_of k rows)) (drop (suc k) rows)

  -- after steps 2 and 3 the pass may be made
  pub turn-ready : k ≤ 4 → PassReady K k (greedy_rows k (order_rows (suc k) rows))
  turn-ready h = record { fine = fine-greedy first k (omega arith); reduced = subst (λ l. Reduced (vectors l)) (sym front) (fine-reduced h fewer) }
    where
      first : Fine K (suc k) (order_rows (suc k) rows)
      first = fine-order f

      fewer : Fine K k (order_rows (suc k) rows)
      fewer = fine-fewer {n = suc k} {k = k} (omega arith) first

      c : List Row
      c = (greedy k (take k (order_rows (suc k) rows))).rows

      front : take k (greedy_rows k (order_rows (suc k) rows)) ≡ c
      front = ap (λ n. take n (greedy_rows k (order_rows (suc k) rows))) (sym (sym (moves-length (greedy-moves k (take k (order_rows (suc k) rows)) (fine-length fewer))) ∙ fine-length fewer))
          ∙ take-append_seam c (drop k (order_rows (suc k) rows))

  -- a repetition makes the sum of the squared lengths fall
  pub turn-falls : shorter (round_of k rows).last (round_of k rows).first ≡ true → nat_abs (total (take (suc k) (turn_rows k rows))) < nat_abs (total (take (suc k) rows))
  turn-falls q = subst (λ l. nat_abs (total l) < nat_abs (total (take (suc k) rows))) (sym turn-take)
      (size-falls (total (joined (round_of k rows))) (total (take (suc k) rows)) (total-nonneg (joined (round_of k rows))) (falls k (greedy k) (greedy-moves k) (take (suc k) rows) (fine-length f) q))

-- the last of a list by its place
last-at : (r : Row) (rs : List Row) → last_of r rs ≡ get_or (r ∷ rs) (length rs) blank
last-at r [] = refl
last-at r (s ∷ rs) = last-at s rs

compared : (b : Row) (first : List Row) (j : ℕ) → length first ≡ suc j → shorter b first ≡ lt_z (N b.vector) (N (get_or first j blank).vector)
compared b [] j e = absurd (omega arith)
compared b (r ∷ rs) j e =
    let same_place : length rs ≡ j = omega arith in
    ap (λ l. lt_z (N b.vector) (N l.vector)) (last-at r rs ∙ ap (λ i. get_or (r ∷ rs) i blank) same_place)

module _ {K : Kind} (j : ℕ) (rows : List Row) (f : Fine K (suc (suc j)) rows) where
  abbrev k : ℕ
  k = suc j

  abbrev n : ℕ
  n = suc k

  abbrev P : Pass
  P = round_of k rows

  abbrev test : Bool
  test = shorter P.last P.first

  steps : greedy n (take n rows) ≡ cond test (again P (greedy n (joined P))) (stop P)
  steps = greedy-steps j (take n rows) (fine-length f)

  -- step 6: the last row is kept
  pub turn-stops : test ≡ false → (greedy_rows n rows ≡ turn_rows k rows) × (greedy_passes n rows ≡ suc (greedy_passes k (order_rows n rows)))
  turn-stops q =
      let e = steps ∙ ap (λ b. cond b (again P (greedy n (joined P))) (stop P)) q in
      (ap (λ c. c.rows ++ drop n rows) e ∙ sym (turn-rows k rows f), ap (λ c. c.passes) e ∙ sym (turn-passes k rows f))

  -- or the steps repeat
  pub turn-repeats : test ≡ true → (greedy_rows n rows ≡ greedy_rows n (turn_rows k rows)) × (greedy_passes n rows ≡ suc (greedy_passes k (order_rows n rows)) + greedy_passes n (turn_rows k rows))
  turn-repeats q =
      let e = steps ∙ ap (λ b. cond b (again P (greedy n (joined P))) (stop P)) q in (
        ap (λ c. c.rows ++ drop n rows) e ∙ sym (ap₂ (λ a b. (greedy n a).rows ++ b) (turn-take k rows f) (turn-drop k rows f)),
        ap (λ c. c.passes) e ∙ ap₂ (λ a b. a + (greedy n b).passes) (sym (turn-passes k rows f)) (sym (turn-take k rows f)),
      )

  first_count : length P.first ≡ k
  first_count = omega (arith, joined-count k rows f, length-append P.first (P.last ∷ []))

  whole : turn_rows k rows ≡ P.first ++ (P.last ∷ drop n rows)
  whole = turn-rows k rows f ∙ append_assoc P.first (P.last ∷ []) (drop n rows)

  -- step 6 compares row k with the row before it
  pub test-is : test ≡ lt_z (N (get_or (turn_rows k rows) k blank).vector) (N (get_or (turn_rows k rows) j blank).vector)
  test-is = compared P.last P.first j first_count
      ∙ ap₂ (λ a b. lt_z (N a.vector) (N b.vector))
      (sym (ap (λ l. get_or l k blank) whole ∙ row_at k P.first P.last (drop n rows) first_count))
      (sym (ap (λ l. get_or l j blank) whole ∙ get_or-append P.first (P.last ∷ drop n rows) blank j (omega (arith, first_count))))
