-- How many passes the greedy steps make: at most ten for each unit of the sum of the squared lengths, and four more.
use Rattle.std.specs.Prelude.{◌≡◌, refl, Bool, true, false, List, [], ◌∷◌, ◌++◌, ℕ, zero, suc, ◌+◌, ◌*◌, ◌≤◌, ◌<◌, ℤ, pos, negsuc, nat_abs, ◌+ℤ◌, ◌≤ℤ◌, length}
use Rattle.std.proofs.Common.{sym, ap, ap₂, ◌∙◌, subst, mul-le-mul, le_refl, arith, leb→le}
use Rattle.std.proofs.Math.IntN.{+ℤ_idr}
use Rattle.integers.specs.Certificate.{NN}
use Rattle.integers.specs.Size.{size-add}
use Rattle.lattices.specs.Vector.{N}
use Rattle.lattices.specs.Laws.Vector.{N-nonneg}
use Rattle.lattices.specs.Laws.Permutation.{perm_length}
use Rattle.lattices.specs.Greedy.{Row, vectors, order, last_of, before, Counted, Pass, pass, round, shorter, joined, repeat, total, greedy, greedy_by}
use Rattle.successive_minima.specs.Laws.NearestLaws.{nearest-shorter}
use Rattle.greedy_reduction.specs.Moves.{Moves, Moving, order_perm, before_last, length_before, moves-length, ordered_moves, greedy-moves}
use Rattle.greedy_reduction.specs.Lengths.{NoLonger, total-append, total-credited, total-nonneg, perm_total, moves-total}
use Rattle.greedy_reduction.specs.Fuel.{stop, again, falls, size-falls}

-- the sum of the squared lengths as a natural number
sum : List Row → ℕ
sum rows = nat_abs (total rows)

size-sum : (a b : ℤ) → NN a → NN b → nat_abs (a +ℤ b) ≡ nat_abs a + nat_abs b
size-sum (pos a) (pos b) h k = refl
size-sum (pos a) (negsuc b) h k = absurd k.le
size-sum (negsuc a) b h k = absurd h.le

size_mono : (a b : ℤ) → NN a → a ≤ℤ b → nat_abs a ≤ nat_abs b
size_mono (pos a) (pos b) h k = leb→le a b k.le
size_mono (pos a) (negsuc b) h k = absurd k.le
size_mono (negsuc a) b h k = absurd h.le

sum-append : (a b : List Row) → sum (a ++ b) ≡ sum a + sum b
unfolding sum
sum-append a b = ap nat_abs (total-append a b) ∙ size-sum (total a) (total b) (total-nonneg a) (total-nonneg b)

sum_one : (r : Row) → sum (r ∷ []) ≡ nat_abs (N r.vector)
unfolding sum
sum_one r = ap nat_abs (+ℤ_idr (N r.vector))

-- 1 + 2 + … + d
abbrev pub weight : ℕ → ℕ
weight zero = 0
weight (suc d) = weight d + suc d

-- `reduce` of k rows makes few passes for what it takes off the sum
abbrev Frugal : ℕ → (List Row → Counted) → Type 0
Frugal k reduce = (rows : List Row) → length rows ≡ k → (reduce rows).passes + weight k * sum (reduce rows).rows ≤ weight k * sum rows + k

one_more : (w q o' o n' n k j l : ℕ) → j ≡ o' + n' → l ≡ o + n → n' ≤ n → q + w * o' ≤ w * o + k → suc q + w * j ≤ w * l + suc k
one_more w q o' o n' n k j l e f h i = subst (λ j. suc q + w * j ≤ w * l + suc k) (sym e) (subst (λ l. suc q + w * (o' + n') ≤ w * l + suc k) (sym f) (omega (arith, mul-le-mul (le_refl w) h)))

round_frugal : (k : ℕ) (reduce : List Row → Counted) → Frugal k reduce → (rows : List Row) → length rows ≡ suc k
    → (round reduce rows).passes + weight k * sum (joined (round reduce rows)) ≤ weight k * sum rows + suc k
unfolding sum
round_frugal k reduce f [] e = absurd (omega arith)
round_frugal k reduce f (r ∷ rows) e =
    one_more (weight k) c.passes (sum c.rows) (sum (before r rows)) (nat_abs (N p.last.vector)) (nat_abs (N l.vector)) k (sum (joined p)) (sum (r ∷ rows))
    (sum-append p.first (p.last ∷ []) ∙ ap₂ ◌+◌ (ap nat_abs (total-credited _ l.v c.rows)) (sum_one p.last))
    (ap sum (sym (before_last r rows)) ∙ sum-append (before r rows) (l ∷ []) ∙ ap (λ n. sum (before r rows) + n) (sum_one l))
    (size_mono (N p.last.vector) (N l.vector) (N-nonneg p.last.vector) (nearest-shorter (vectors c.rows) l.vector))
    (f (before r rows) (length_before r rows ∙ omega arith))
  where
    c : Counted
    c = reduce (before r rows)

    l : Row
    l = last_of r rows

    p : Pass
    p = pass c l

stop_pays : (w k q j s : ℕ) → j ≤ s → q + w * j ≤ w * s + suc k → q + (w + suc k) * j ≤ (w + suc k) * s + suc k
stop_pays w k q j s h i = omega (arith, mul-le-mul (le_refl k) h)

again_pays : (w k q r j s o : ℕ) → j < s → q + w * j ≤ w * s + suc k → r + (w + suc k) * o ≤ (w + suc k) * j + suc k → q + r + (w + suc k) * o ≤ (w + suc k) * s + suc k
again_pays w k q r j s o h i u = omega (arith, mul-le-mul (le_refl k) h)

repeat_frugal : (k : ℕ) (reduce : List Row → Counted) → Moving k reduce → Frugal k reduce → (fuel : ℕ) (rows : List Row) → length rows ≡ suc k → sum rows < fuel
    → (repeat reduce fuel rows).passes + weight (suc k) * sum (repeat reduce fuel rows).rows ≤ weight (suc k) * sum rows + suc k
unfolding sum
repeat_frugal k reduce mv fr zero rows e h = absurd (omega arith)
repeat_frugal k reduce mv fr (suc fuel) rows e h =
    go (shorter p.last p.first) refl (λ (q : sum (joined p) < sum rows). repeat_frugal k reduce mv fr fuel (joined p) (sym (moves-length moves) ∙ e) (omega arith))
  where
    p : Pass
    p = round reduce (order rows)

    moves : Moves rows (joined p)
    moves = ordered_moves k reduce mv rows e

    paid : p.passes + weight k * sum (joined p) ≤ weight k * sum rows + suc k
    paid = subst (λ s. p.passes + weight k * sum (joined p) ≤ weight k * s + suc k) (ap nat_abs (sym (perm_total (order_perm rows))))
        (round_frugal k reduce fr (order rows) (sym (perm_length (order_perm rows)) ∙ e))

    go : (b : Bool) → shorter p.last p.first ≡ b
        → (sum (joined p) < sum rows → (repeat reduce fuel (joined p)).passes + weight (suc k) * sum (repeat reduce fuel (joined p)).rows ≤ weight (suc k) * sum (joined p) + suc k)
        → (elim b as (λ b. Counted) [ false ↦ stop p | true ↦ again p (repeat reduce fuel (joined p)) ]).passes
        + weight (suc k) * sum (elim b as (λ b. Counted) [ false ↦ stop p | true ↦ again p (repeat reduce fuel (joined p)) ]).rows ≤ weight (suc k) * sum rows + suc k
    go false q ih = stop_pays (weight k) k p.passes (sum (joined p)) (sum rows) (size_mono (total (joined p)) (total rows) (total-nonneg (joined p)) (moves-total moves)) paid
    go true q ih =
        let fell = size-falls (total (joined p)) (total rows) (total-nonneg (joined p)) (falls k reduce mv rows e q) in
        again_pays (weight k) k p.passes (repeat reduce fuel (joined p)).passes (sum (joined p)) (sum rows) (sum (repeat reduce fuel (joined p)).rows) fell paid (ih fell)

greedy_frugal : (d : ℕ) → Frugal d (greedy d)
unfolding greedy_by sum
greedy_frugal zero rows e = omega arith
greedy_frugal (suc zero) rows e = omega arith
greedy_frugal (suc (suc d)) rows e = repeat_frugal (suc d) (greedy (suc d)) (greedy-moves (suc d)) (greedy_frugal (suc d)) (suc (nat_abs (total rows))) rows e (omega arith)

-- the passes of a reduction of d rows
pub passes-bound : (d : ℕ) (rows : List Row) → length rows ≡ d → (greedy d rows).passes ≤ weight d * nat_abs (total rows) + d
unfolding sum
passes-bound d rows e = omega (arith, greedy_frugal d rows e)

-- ---- at most four vectors within the length limit
total_size : (s : ℕ) (rows : List Row) → NoLonger (pos s) rows → nat_abs (total rows) ≤ length rows * s
total_size s [] h = omega arith
total_size s (r ∷ rows) h = omega (arith, size-add (N r.vector) (total rows), size_mono (N r.vector) (pos s) (N-nonneg r.vector) h.0, total_size s rows h.1)

weight-most : (n : ℕ) → n ≤ 4 → weight n ≤ 10
weight-most zero h = omega arith
weight-most (suc zero) h = omega arith
weight-most (suc (suc zero)) h = omega arith
weight-most (suc (suc (suc zero))) h = omega arith
weight-most (suc (suc (suc (suc zero)))) h = omega arith
weight-most (suc (suc (suc (suc (suc n))))) h = absurd (omega arith)

pub passes-most : (d : ℕ) (rows : List Row) → d ≤ 4 → length rows ≡ d → NoLonger (pos 400000000) rows → (greedy d rows).passes ≤ 16000000004
passes-most d rows h e s =
    let sum : nat_abs (total rows) ≤ 1600000000 = omega (arith, total_size 400000000 rows s) in
    omega (arith, passes-bound d rows e, mul-le-mul (weight-most d h) sum)
