-- The fuel of the greedy definition is always enough: the six steps hold as an equation without it.
use Rattle.std.specs.Prelude.{◌≡◌, refl, Bool, true, false, cond, List, [], ◌∷◌, ℕ, zero, suc, ◌+◌, ◌<◌, ℤ, pos, negsuc, nat_abs, ◌+ℤ◌, ◌<ℤ◌, length}
use Rattle.std.proofs.Common.{sym, ap, ◌∙◌, subst, arith, ltb→lt}
use Rattle.std.proofs.lemmas.Bool.{false≢true}
use Rattle.std.specs.Int.Signed.{<ℤ-≤ℤ_trans}
use Rattle.integers.specs.Identity.{reads}
use Rattle.integers.specs.Order.{lt_z_true}
use Rattle.integers.specs.Certificate.{NN, ◌⊞◌, le, lt, by-lt}
use Rattle.lattices.specs.Vector.{N}
use Rattle.lattices.specs.Laws.Permutation.{perm_length}
use Rattle.lattices.specs.Greedy.{Row, order, last_of, before, Counted, Pass, pass, round, shorter, joined, repeat, total, greedy, greedy_by}
use Rattle.greedy_reduction.specs.Moves.{Moves, Moving, order_perm, before_last, length_before, moves-length, ordered_moves, greedy-moves}
use Rattle.greedy_reduction.specs.Lengths.{NoLonger, moves-no-longer, no-longer-credited, last-no-longer, total-append, total-credited, total-nonneg, perm_total, moves-total, order_sorted, sorted_last, Sorted}

-- step 6 asks for a repetition only when the last row became shorter than it was
shorter_than : (s : ℤ) (r : Row) (rows : List Row) → shorter r rows ≡ true → NoLonger s rows → N r.vector <ℤ s
shorter_than s r [] e h = absurd (false≢true e)
shorter_than s r (q ∷ rows) e h = <ℤ-≤ℤ_trans (lt_z_true e) (last-no-longer s q rows h)

-- where the list is in order, a repetition makes the sum of the squared lengths fall
falls_sorted : (k : ℕ) (reduce : List Row → Counted) → Moving k reduce → (rows : List Row) → length rows ≡ suc k → Sorted rows
    → shorter (round reduce rows).last (round reduce rows).first ≡ true → total (joined (round reduce rows)) <ℤ total rows
falls_sorted k reduce m [] e s q = absurd (omega arith)
falls_sorted k reduce m (r ∷ rows) e s q =
    subst (λ t. total (joined p) <ℤ t) (sym old) (subst (λ t. t <ℤ (total b +ℤ (N l.vector +ℤ pos 0))) (sym new)
    (by-lt (total c.rows ∷ total b ∷ N p.last.vector ∷ N l.vector ∷ []) (le (moves-total n) ⊞ lt fell) (search reads depth 20) (search reads depth 20) tt))
  where
    b : List Row
    b = before r rows

    l : Row
    l = last_of r rows

    c : Counted
    c = reduce b

    p : Pass
    p = pass c l

    n : Moves b c.rows
    n = m b (length_before r rows ∙ omega arith)

    fell : N p.last.vector <ℤ N l.vector
    fell = shorter_than (N l.vector) p.last p.first q
        (no-longer-credited (N l.vector) _ l.v c.rows (moves-no-longer (N l.vector) n (sorted_last r rows s)))

    old : total (r ∷ rows) ≡ total b +ℤ (N l.vector +ℤ pos 0)
    old = ap total (sym (before_last r rows)) ∙ total-append b (l ∷ [])

    new : total (joined p) ≡ total c.rows +ℤ (N p.last.vector +ℤ pos 0)
    new = total-append p.first (p.last ∷ []) ∙ ap (λ s. s +ℤ (N p.last.vector +ℤ pos 0)) (total-credited _ l.v c.rows)

pub falls : (k : ℕ) (reduce : List Row → Counted) → Moving k reduce → (rows : List Row) → length rows ≡ suc k
    → shorter (round reduce (order rows)).last (round reduce (order rows)).first ≡ true → total (joined (round reduce (order rows))) <ℤ total rows
falls k reduce m rows e q = subst (λ t. total (joined (round reduce (order rows))) <ℤ t) (sym (perm_total (order_perm rows)))
    (falls_sorted k reduce m (order rows) (sym (perm_length (order_perm rows)) ∙ e) (order_sorted rows) q)

pub size-falls : (a b : ℤ) → NN a → a <ℤ b → nat_abs a < nat_abs b
size-falls (pos a) (pos b) h k = ltb→lt a b k.lt
size-falls (pos a) (negsuc b) h k = absurd k.lt
size-falls (negsuc a) b h k = absurd h.le

-- step 6: stop with what the pass gave, or add its passes to those of the repetition
abbrev pub stop : Pass → Counted
stop p = record { rows = joined p; passes = p.passes }

abbrev pub again : Pass → Counted → Counted
again p c = record { rows = c.rows; passes = p.passes + c.passes }

repeat-same : (k : ℕ) (reduce : List Row → Counted) → Moving k reduce → (f g : ℕ) (rows : List Row) → length rows ≡ suc k
    → nat_abs (total rows) < f → nat_abs (total rows) < g → repeat reduce f rows ≡ repeat reduce g rows
repeat-same k reduce m zero g rows e h i = absurd (omega arith)
repeat-same k reduce m (suc f) zero rows e h i = absurd (omega arith)
repeat-same k reduce m (suc f) (suc g) rows e h i =
    go (shorter p.last p.first) refl
    (λ (fell : nat_abs (total (joined p)) < nat_abs (total rows)). repeat-same k reduce m f g (joined p) (sym (moves-length (ordered_moves k reduce m rows e)) ∙ e) (omega arith) (omega arith))
  where
    p : Pass
    p = round reduce (order rows)

    go : (b : Bool) → shorter p.last p.first ≡ b → (nat_abs (total (joined p)) < nat_abs (total rows) → repeat reduce f (joined p) ≡ repeat reduce g (joined p))
        → ◌≡◌ {A = Counted} (elim b [ false ↦ stop p | true ↦ again p (repeat reduce f (joined p)) ]) (elim b [ false ↦ stop p | true ↦ again p (repeat reduce g (joined p)) ])
    go false q ih = refl
    go true q ih = ap (again p) (ih (size-falls (total (joined p)) (total rows) (total-nonneg (joined p)) (falls k reduce m rows e q)))

-- steps 2 to 6 for d vectors, d at least 2
pub greedy-steps : (d : ℕ) (rows : List Row) → length rows ≡ suc (suc d)
    → greedy (suc (suc d)) rows ≡ cond (shorter (round (greedy (suc d)) (order rows)).last (round (greedy (suc d)) (order rows)).first)
    (again (round (greedy (suc d)) (order rows)) (greedy (suc (suc d)) (joined (round (greedy (suc d)) (order rows)))))
    (stop (round (greedy (suc d)) (order rows)))
unfolding greedy_by
greedy-steps d rows e = go (shorter p.last p.first) refl
  where
    p : Pass
    p = round (greedy (suc d)) (order rows)

    next : nat_abs (total (joined p)) < nat_abs (total rows)
        → repeat (greedy (suc d)) (nat_abs (total rows)) (joined p) ≡ repeat (greedy (suc d)) (suc (nat_abs (total (joined p)))) (joined p)
    next fell = repeat-same (suc d) (greedy (suc d)) (greedy-moves (suc d)) (nat_abs (total rows)) (suc (nat_abs (total (joined p)))) (joined p)
        (sym (moves-length (ordered_moves (suc d) (greedy (suc d)) (greedy-moves (suc d)) rows e)) ∙ e) fell (omega arith)

    go : (b : Bool) → shorter p.last p.first ≡ b
        → ◌≡◌ {A = Counted} (elim b [ false ↦ stop p | true ↦ again p (repeat (greedy (suc d)) (nat_abs (total rows)) (joined p)) ])
        (cond b (again p (greedy (suc (suc d)) (joined p))) (stop p))
    go false q = refl
    go true q = ap (again p) (next (size-falls (total (joined p)) (total rows) (total-nonneg (joined p)) (falls (suc d) (greedy (suc d)) (greedy-moves (suc d)) rows e q)))
