-- Reducing once more gives the same vectors: a settled list is in order, and every pass takes nothing from its last vector and keeps it.
use Rattle.std.specs.Prelude.{◌≡◌, refl, true, false, List, [], ◌∷◌, ◌++◌, ℕ, zero, suc, ◌≤◌, ◌<◌, ℤ, pos, nat_abs, ◌≤ℤ◌, ◌<ℤ◌, length, get_or}
use Rattle.std.proofs.Common.{sym, ap, ap₂, ◌∙◌, subst, arith}
use Rattle.std.proofs.lemmas.List.{reverse-append, reverse-reverse}
use Rattle.integers.specs.Order.{≤ℤ-lt_z}
use Rattle.lattices.specs.Vector.{Vec, N, Zero, ◌⊖◌, comb}
use Rattle.lattices.specs.Laws.Vector.{≈-≡, comb-zero, ⊖-zero}
use Rattle.lattices.specs.Volume.{squared_volume}
use Rattle.lattices.specs.Nearest.{nearest}
use Rattle.lattices.specs.Greedy.{Row, vectors, insert, order, last_of, before, Counted, pass, round, shorter, joined, repeat, total, greedy, units, start, reduction, greedy_by, insert_by, order_by}
use Rattle.successive_minima.specs.Reduced.{Under}
use Rattle.successive_minima.specs.Laws.ReducedLaws.{reduced-last}
use Rattle.successive_minima.specs.Laws.Minima.{ascending}
use Rattle.greedy_reduction.specs.Moves.{before_last, length_before, length-vectors, vectors-credited, vectors-append}
use Rattle.greedy_reduction.specs.Fuel.{stop, again}
use Rattle.greedy_reduction.specs.Start.{Coordinates, comb-places, minus-places, start-vectors, length-units}
use Rattle.greedy_reduction.specs.Exactness.{begin, length-begin}
use Rattle.greedy_reduction.specs.Output.{Still, SettledRows, greedy-settled}
use Rattle.greedy_reduction.specs.Lattice.{reduced-full}

-- ---- step 2: rows in order stay where they are
abbrev InOrder : List Row → Type 0
InOrder rows = (j : ℕ) → suc j < length rows → N (get_or (vectors rows) j []) ≤ℤ N (get_or (vectors rows) (suc j) [])

insert-first : (r : Row) (rows : List Row) → InOrder (r ∷ rows) → insert r rows ≡ r ∷ rows
unfolding insert_by
insert-first r [] h = refl
insert-first r (s ∷ rows) h = ap (λ b. elim b [ true ↦ s ∷ insert r rows | false ↦ r ∷ (s ∷ rows) ]) (≤ℤ-lt_z (h 0 (omega arith)))

order_same : (rows : List Row) → InOrder rows → order rows ≡ rows
unfolding order_by
order_same [] h = refl
order_same (r ∷ rows) h = ap (insert r) (order_same rows (λ j k. h (suc j) (omega arith))) ∙ insert-first r rows h

-- ---- steps 4 and 5: nothing is taken from the last vector
last-same : (m : ℕ) (x : List ℤ) (vs : List Vec) (b : Vec) → Coordinates m vs → length b ≡ m → Zero x → b ⊖ comb x vs ≡ b
last-same m x vs b c e z = ≈-≡ (b ⊖ comb x vs) b (minus-places m b (comb x vs) e (comb-places m x vs c) ∙ sym e) (⊖-zero b (comb-zero x z vs))

-- ---- step 6: the last vector is kept
under_last : (s : ℤ) (r : Row) (rows : List Row) → Under s (vectors (r ∷ rows)) → N (last_of r rows).vector ≤ℤ s
under_last s r [] u = u.0
under_last s r (q ∷ rows) u = under_last s q rows u.1

not-shorter : (b : Row) (first : List Row) → Under (N b.vector) (vectors first) → shorter b first ≡ false
not-shorter b [] u = refl
not-shorter b (r ∷ rows) u = ≤ℤ-lt_z (under_last (N b.vector) r rows u)

-- a pass over vectors vs and the vector of r, which changes nothing
record Keeps (c : Counted) (r : Row) : Type 0 where
  same : vectors (joined (pass c r)) ≡ vectors c.rows ++ (r.vector ∷ [])
  kept : shorter (pass c r).last (pass c r).first ≡ false

pass-keeps : (m : ℕ) (c : Counted) (r : Row) → Coordinates m (vectors c.rows) → length r.vector ≡ m → Zero (nearest (vectors c.rows) r.vector)
    → Under (N r.vector) (vectors c.rows) → Keeps c r
pass-keeps m c r k e z u =
    let x = nearest (vectors c.rows) r.vector in
    let p = pass c r in
    let last : p.last.vector ≡ r.vector = last-same m x (vectors c.rows) r.vector k e z in
    let first = vectors-credited x r.v c.rows in
    record {
      same = vectors-append p.first (p.last ∷ []) ∙ ap₂ (λ l v. l ++ (v ∷ [])) first last;
      kept = not-shorter p.last p.first (subst (λ v. Under (N v) (vectors p.first)) (sym last) (subst (Under (N r.vector)) (sym first) u));
    }

-- ---- the parts of a settled list
coordinates-last : (m : ℕ) (bs : List Vec) (b : Vec) → Coordinates m (bs ++ (b ∷ [])) → Coordinates m bs × (length b ≡ m)
coordinates-last m [] b c = (tt, c.0)
coordinates-last m (a ∷ bs) b c = let r = coordinates-last m bs b c.1 in ((c.0, r.0), r.1)

settled-last : (bs : List Vec) (b : Vec) → SettledRows (bs ++ (b ∷ [])) → SettledRows bs × Under (N b) bs × Zero (nearest bs b)
settled-last bs b s =
    let r = reduced-last bs b s.0 in
    let t = subst Still (reverse-append bs (b ∷ [])) s.1 in
    ((r.1, t.1), r.0.longest, subst (λ l. Zero (nearest l b)) (reverse-reverse bs) t.0)

-- ---- the induction
-- `reduce` gives back every settled list of k vectors
abbrev Fixing : ℕ → ℕ → (List Row → Counted) → Type 0
Fixing m k reduce = (rows : List Row) → length rows ≡ k → Coordinates m (vectors rows) → SettledRows (vectors rows) → vectors (reduce rows).rows ≡ vectors rows

round_same : (m k : ℕ) (reduce : List Row → Counted) → Fixing m k reduce → (rows : List Row) → length rows ≡ suc k → Coordinates m (vectors rows) → SettledRows (vectors rows)
    → (vectors (joined (round reduce rows)) ≡ vectors rows) × (shorter (round reduce rows).last (round reduce rows).first ≡ false)
round_same m k reduce fix [] e c s = absurd (omega arith)
round_same m k reduce fix (r ∷ rows) e c s =
    let front = before r rows in
    let last = last_of r rows in
    let split : vectors (r ∷ rows) ≡ vectors front ++ (last.vector ∷ []) = ap vectors (sym (before_last r rows)) ∙ vectors-append front (last ∷ []) in
    let d = coordinates-last m (vectors front) last.vector (subst (Coordinates m) split c) in
    let t = settled-last (vectors front) last.vector (subst SettledRows split s) in
    let same : vectors (reduce front).rows ≡ vectors front = fix front (length_before r rows ∙ omega arith) d.0 t.0 in
    let p = pass-keeps m (reduce front) last (subst (Coordinates m) (sym same) d.0) d.1 (subst (λ l. Zero (nearest l last.vector)) (sym same) t.2) (subst (Under (N last.vector)) (sym same) t.1) in
    (p.same ∙ ap (λ l. l ++ (last.vector ∷ [])) same ∙ sym split, p.kept)

repeat-same : (m k : ℕ) (reduce : List Row → Counted) → Fixing m k reduce → (fuel : ℕ) → Fixing m (suc k) (repeat reduce (suc fuel))
repeat-same m k reduce fix fuel rows e c s =
    let p = round reduce (order rows) in
    let q = order_same rows (λ j h. ascending (vectors rows) s.0 j (suc j) (omega arith) (omega (arith, length-vectors rows))) in
    let t = round_same m k reduce fix rows e c s in
    ap (λ b. vectors (elim b as (λ b. Counted) [ false ↦ stop p | true ↦ again p (repeat reduce fuel (joined p)) ]).rows) (ap (λ l. shorter (round reduce l).last (round reduce l).first) q ∙ t.1)
    ∙ ap (λ l. vectors (joined (round reduce l))) q ∙ t.0

pub greedy-same : (m d : ℕ) → Fixing m d (greedy d)
unfolding greedy_by
greedy-same m zero rows e c s = refl
greedy-same m (suc zero) rows e c s = refl
greedy-same m (suc (suc d)) rows e c s = repeat-same m (suc d) (greedy (suc d)) (greedy-same m (suc d)) (nat_abs (total rows)) rows e c s

-- the reduced vectors of one to four vectors of m coordinates each with positive squared volume, reduced once more
pub reduction-again : (m : ℕ) (bs : List Vec) → Coordinates m bs → 1 ≤ length bs → length bs ≤ 4 → pos 0 <ℤ squared_volume m bs
    → vectors (reduction (vectors (reduction bs).rows)).rows ≡ vectors (reduction bs).rows
unfolding begin
reduction-again m bs full some four volume =
    let outs = vectors (reduction bs).rows in
    let starts : (vs : List Vec) → vectors (start vs (units (length vs))) ≡ vs = λ vs. start-vectors vs (units (length vs)) (length-units (length vs)) in
    let settled = greedy-settled m (length bs) four (start bs (units (length bs))) (length-begin m bs full some) (subst (λ l. pos 0 <ℤ squared_volume m l) (sym (starts bs)) volume) in
    greedy-same m (length outs) (start outs (units (length outs))) (sym (length-vectors (start outs (units (length outs)))) ∙ ap length (starts outs))
    (subst (Coordinates m) (sym (starts outs)) (reduced-full m bs full some)) (subst SettledRows (sym (starts outs)) settled)
    ∙ starts outs
