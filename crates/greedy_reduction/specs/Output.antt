-- The output of the greedy steps is reduced, and a further pass would change nothing, for every list of at most four vectors with positive squared volume.
use Rattle.std.specs.Prelude.{◌≡◌, refl, Bool, true, false, List, [], ◌∷◌, ◌++◌, reverse, ℕ, zero, suc, ◌≤◌, ◌<◌, ℤ, pos, negsuc, nat_abs, ◌+ℤ◌, ◌≤ℤ◌, ◌<ℤ◌, length, get_or}
use Rattle.std.proofs.Math.Path.{sym, subst}
use Rattle.std.proofs.Common.{ap, ◌∙◌, ⊎_elim, arith}
use Rattle.std.proofs.lemmas.Bool.{false≢true}
use Rattle.std.proofs.lemmas.List.{reverse-append, reverse-reverse}
use Rattle.std.proofs.Math.IntN.{+ℤ_idr}
use Rattle.std.specs.Int.Signed.{<ℤ-≤ℤ_trans}
use Rattle.std.proofs.Math.ListN.{length-reverse, get_or-eq_default}
use Rattle.lattices.specs.Answer.{padded}
use Rattle.lattices.specs.Laws.Answer.{length-padded}
use Rattle.integers.specs.Identity.{by_ring, reads}
use Rattle.integers.specs.Order.{≤ℤ-or-<ℤ, ≤ℤ_trans, ≤ℤ_of_≡, lt_z_false}
use Rattle.integers.specs.ListLaws.{length-⊖-same}
use Rattle.integers.specs.Lex.{below-<}
use Rattle.lattices.specs.Vector.{Vec, N, Zero, dot, ◌⊕◌, ◌⊙◌, ◌⊖◌, comb}
use Rattle.lattices.specs.Laws.Vector.{◌≈◌, ≈-N, ≈_trans, bilinear, comb-⊕, comb-⊙, comb-none, comb-reverse, nil-dot}
use Rattle.lattices.specs.Laws.Permutation.{perm_length}
use Rattle.lattices.specs.Volume.{squared_volume}
use Rattle.lattices.specs.Nearest.{nearest}
use Rattle.lattices.specs.Greedy.{Row, vectors, order, last_of, before, Counted, Pass, pass, round, shorter, joined, repeat, total, greedy, greedy_by}
use Rattle.successive_minima.specs.Laws.Values.{Least}
use Rattle.successive_minima.specs.Reduced.{Under, Descending, Reduced}
use Rattle.successive_minima.specs.Laws.Snoc.{comb-fit}
use Rattle.successive_minima.specs.Laws.NearestLaws.{nearest-least, nearest-count}
use Rattle.successive_minima.specs.Laws.NearestRest.{nearest-rest}
use Rattle.greedy_reduction.specs.Moves.{Moves, exchange, Moving, order_perm, before_last, length_before, length-vectors, vectors-credited, vectors-append, moves-length, ordered_moves, greedy-moves}
use Rattle.greedy_reduction.specs.Lengths.{total-nonneg}
use Rattle.greedy_reduction.specs.Fuel.{falls, size-falls, stop, again}
use Rattle.greedy_reduction.specs.Kept.{moves_keep, positive-before, positive-one}

-- ---- a list that the greedy steps leave as it is: reduced, and by the tie rule nothing is taken from any of its vectors
-- longest vector first, as in `Descending`
abbrev pub Still : List Vec → Type 0
Still [] = Unit {0}
Still (b ∷ bs) = Zero (nearest (reverse bs) b) × Still bs

abbrev pub SettledRows : List Vec → Type 0
SettledRows bs = Reduced bs × Still (reverse bs)

-- a least value leaves no longer residual than any other list
pub least-N : {bs : List Vec} {t : Vec} {y : List ℤ} → Least bs t y → (x : List ℤ) → length x ≡ length bs → N (t ⊖ comb y bs) ≤ℤ N (t ⊖ comb x bs)
least-N {bs} {t} {y} l x e = ⊎_elim (λ h. h) (λ h. absurd (false≢true (sym (l.least x e) ∙ below-< x y h))) (≤ℤ-or-<ℤ (N (t ⊖ comb y bs)) (N (t ⊖ comb x bs)))

-- ---- step 4 and 5: no combination of the others makes the last vector shorter
module _ (vs : List Vec) (red : Reduced vs) (four : length vs ≤ 4) (t : Vec) where
  x : List ℤ
  x = nearest vs t

  turned : List ℤ → List ℤ
  turned z = reverse (padded (length vs) z)

  turned-count : (z : List ℤ) → length (turned z) ≡ length vs
  unfolding turned
  turned-count z = length-reverse (padded (length vs) z) ∙ length-padded (length vs) z

  turned-comb : (z : List ℤ) → comb (turned z) vs ≈ comb z (reverse vs)
  unfolding turned
  turned-comb z = ≈_trans
      (subst (λ ws. comb (reverse (padded (length vs) z)) ws ≈ comb (padded (length vs) z) (reverse vs)) (reverse-reverse vs)
      (comb-reverse (padded (length vs) z) (reverse vs) (length-padded (length vs) z ∙ sym (length-reverse vs))))
      (comb-fit (length vs) z (reverse vs) (length-reverse vs))

  pub nearest-shortest : (z : List ℤ) → N (t ⊖ comb (nearest vs t) vs) ≤ℤ N ((t ⊖ comb (nearest vs t) vs) ⊕ comb z (reverse vs))
  unfolding x
  nearest-shortest z = subst (λ s. N (t ⊖ comb x vs) ≤ℤ s) (≈-N (record { on = same-dot }))
      (least-N (nearest-least vs red four t) (x ⊖ turned z) (length-⊖-same x (turned z) (nearest-count vs t ∙ sym (turned-count z)) ∙ nearest-count vs t))
    where
      same-dot : (w : Vec) → dot (t ⊖ comb (x ⊖ turned z) vs) w ≡ dot ((t ⊖ comb x vs) ⊕ comb z (reverse vs)) w
      same-dot w = simp (bilinear, (comb-⊕ x (negsuc 0 ⊙ turned z) vs).on w, (comb-⊙ (negsuc 0) (turned z) vs).on w, (turned-comb z).on w)
          (by_ring (dot t w ∷ dot (comb x vs) w ∷ dot (comb z (reverse vs)) w ∷ []) (search reads depth 20) (search reads depth 20) tt)

-- ---- step 6: a last vector that is kept
under-le : {s t : ℤ} → s ≤ℤ t → (bs : List Vec) → Under s bs → Under t bs
under-le h [] k = tt
under-le h (b ∷ bs) k = (≤ℤ_trans k.0 h, under-le h bs k.1)

stands : (ws : List Vec) (l b : Vec) → Descending (l ∷ ws) → N l ≤ℤ N b → ((z : List ℤ) → N b ≤ℤ N (b ⊕ comb z (l ∷ ws))) → Descending (b ∷ l ∷ ws)
stands ws l b d h s = (record { positive = <ℤ-≤ℤ_trans d.0.positive h; longest = (h, under-le h ws d.0.longest); shortest = s }, d)

-- the vectors of a list of rows, last one first
backward : (r : Row) (rows : List Row) → reverse (vectors (r ∷ rows)) ≡ (last_of r rows).vector ∷ reverse (vectors (before r rows))
backward r rows =
    ap (λ l. reverse (vectors l)) (sym (before_last r rows)) ∙ ap reverse (vectors-append (before r rows) (last_of r rows ∷ []))
    ∙ reverse-append (vectors (before r rows)) ((last_of r rows).vector ∷ [])

-- step 6's comparison is with the last of the first d−1 vectors, whose columns step 5 changed and whose vectors it did not
not-shorter : (b : Row) (first : List Row) (r : Row) (rows : List Row) → vectors first ≡ vectors (r ∷ rows) → shorter b first ≡ false → N (last_of r rows).vector ≤ℤ N b.vector
not-shorter b [] r rows e q = absurd (omega (arith, ap length e))
not-shorter b (f ∷ first) r rows e q = subst (λ v. N v ≤ℤ N b.vector) (ap (λ l. get_or l 0 []) (sym (backward f first) ∙ ap reverse e ∙ backward r rows)) (lt_z_false q)

kept-descending : (rows : List Row) (b : Row) (first : List Row) → vectors first ≡ vectors rows → Reduced (vectors rows) → 1 ≤ length rows → shorter b first ≡ false
    → ((z : List ℤ) → N b.vector ≤ℤ N (b.vector ⊕ comb z (reverse (vectors rows)))) → Descending (b.vector ∷ reverse (vectors rows))
kept-descending [] b first e d s q n = absurd (omega arith)
kept-descending (r ∷ rows) b first e d s q n =
    subst (λ l. Descending (b.vector ∷ l)) (sym (backward r rows))
    (stands (reverse (vectors (before r rows))) (last_of r rows).vector b.vector (subst Descending (backward r rows) d) (not-shorter b first r rows e q)
    (subst (λ l. (z : List ℤ) → N b.vector ≤ℤ N (b.vector ⊕ comb z l)) (backward r rows) n))

-- the vectors after a pass, last one first
turned-pass : (c : Counted) (r : Row) → reverse (vectors (joined (pass c r))) ≡ (pass c r).last.vector ∷ reverse (vectors c.rows)
turned-pass c r =
    let p = pass c r in
    ap reverse (vectors-append p.first (p.last ∷ [])) ∙ reverse-append (vectors p.first) (p.last.vector ∷ [])
    ∙ ap (λ l. p.last.vector ∷ reverse l) (vectors-credited (nearest (vectors c.rows) r.vector) r.v c.rows)

kept-reduced : (c : Counted) (r : Row) → Reduced (vectors c.rows) → length c.rows ≤ 3 → 1 ≤ length c.rows → shorter (pass c r).last (pass c r).first ≡ false
    → Reduced (vectors (joined (pass c r)))
kept-reduced c r d h s q =
    subst Descending (sym (turned-pass c r))
    (kept-descending c.rows (pass c r).last (pass c r).first (vectors-credited (nearest (vectors c.rows) r.vector) r.v c.rows) d s q
    (nearest-shortest (vectors c.rows) d (omega (arith, length-vectors c.rows)) r.vector))

-- and nothing more is taken from the last vector
kept-still : (c : Counted) (r : Row) → SettledRows (vectors c.rows) → length c.rows ≤ 3 → Still (reverse (vectors (joined (pass c r))))
kept-still c r d h =
    let vs = vectors c.rows in
    subst Still (sym (turned-pass c r)) (
      subst (λ l. Zero (nearest l (pass c r).last.vector)) (sym (reverse-reverse vs)) (nearest-rest vs d.0 (omega (arith, length-vectors c.rows)) r.vector),
      d.1,
    )

-- ---- the induction
-- `reduce` gives a settled list for every list of k vectors with positive volume
abbrev Settling : ℕ → ℕ → (List Row → Counted) → Type 0
Settling m k reduce = (rows : List Row) → length rows ≡ k → pos 0 <ℤ squared_volume m (vectors rows) → SettledRows (vectors (reduce rows).rows)

round-settled : (m k : ℕ) → 1 ≤ k → k ≤ 3 → (reduce : List Row → Counted) → Moving k reduce → Settling m k reduce → (rows : List Row) → length rows ≡ suc k
    → pos 0 <ℤ squared_volume m (vectors rows) → shorter (round reduce rows).last (round reduce rows).first ≡ false → SettledRows (vectors (joined (round reduce rows)))
round-settled m k low high reduce mv red [] e v q = absurd (omega arith)
round-settled m k low high reduce mv red (r ∷ rows) e v q =
    let c = reduce (before r rows) in
    let d = red (before r rows) count (positive-before m (vectors (before r rows)) (last_of r rows).vector volume) in
    let n : length c.rows ≡ k = sym (moves-length (mv (before r rows) count)) ∙ count in
    (kept-reduced c (last_of r rows) d.0 (omega arith) (omega arith) q, kept-still c (last_of r rows) d (omega arith))
  where
    count : length (before r rows) ≡ k
    count = length_before r rows ∙ omega arith

    volume : pos 0 <ℤ squared_volume m (vectors (before r rows) ++ ((last_of r rows).vector ∷ []))
    volume = subst (λ l. pos 0 <ℤ squared_volume m l) (ap vectors (sym (before_last r rows)) ∙ vectors-append (before r rows) (last_of r rows ∷ [])) v

repeat-settled : (m k : ℕ) → 1 ≤ k → k ≤ 3 → (reduce : List Row → Counted) → Moving k reduce → Settling m k reduce → (fuel : ℕ) (rows : List Row) → length rows ≡ suc k
    → nat_abs (total rows) < fuel → pos 0 <ℤ squared_volume m (vectors rows) → SettledRows (vectors (repeat reduce fuel rows).rows)
repeat-settled m k low high reduce mv red zero rows e f v = absurd (omega arith)
repeat-settled m k low high reduce mv red (suc fuel) rows e f v =
    go (shorter p.last p.first) refl
    (λ (h : nat_abs (total (joined p)) < nat_abs (total rows)). repeat-settled m k low high reduce mv red fuel (joined p) (sym (moves-length moves) ∙ e) (omega arith)
    (subst (λ s. pos 0 <ℤ s) (moves_keep m moves) v))
  where
    p : Pass
    p = round reduce (order rows)

    moves : Moves rows (joined p)
    moves = ordered_moves k reduce mv rows e

    go : (b : Bool) → shorter p.last p.first ≡ b → (nat_abs (total (joined p)) < nat_abs (total rows) → SettledRows (vectors (repeat reduce fuel (joined p)).rows))
        → SettledRows (vectors (elim b as (λ b. Counted) [ false ↦ stop p | true ↦ again p (repeat reduce fuel (joined p)) ]).rows)
    go false q ih = round-settled m k low high reduce mv red (order rows) (sym (perm_length (order_perm rows)) ∙ e)
        (subst (λ s. pos 0 <ℤ s) (moves_keep m (exchange (order_perm rows))) v) q
    go true q ih = ih (size-falls (total (joined p)) (total rows) (total-nonneg (joined p)) (falls k reduce mv rows e q))

nearest-none : (b : Vec) → Zero (nearest [] b)
nearest-none b i = get_or-eq_default (nearest [] b) (pos 0) (omega (arith, nearest-count [] b))

one-settled : (m : ℕ) (rows : List Row) → length rows ≡ 1 → pos 0 <ℤ squared_volume m (vectors rows) → SettledRows (vectors rows)
one-settled m [] e v = absurd (omega arith)
one-settled m (r ∷ s ∷ rows) e v = absurd (omega arith)
one-settled m (r ∷ []) e v = (
  (
    record {
      positive = positive-one m r.vector v;
      longest = tt;
      shortest = λ z. ≤ℤ_of_≡ (≈-N (record { on = λ w. sym (simp bilinear (ap (λ s. dot r.vector w +ℤ s) ((comb-none z).on w ∙ nil-dot w) ∙ +ℤ_idr (dot r.vector w))) }));
    },
    tt,
  ),
  (nearest-none r.vector, tt),
)

-- the output of the greedy steps is settled
pub greedy-settled : (m d : ℕ) → d ≤ 4 → (rows : List Row) → length rows ≡ d → pos 0 <ℤ squared_volume m (vectors rows) → SettledRows (vectors (greedy d rows).rows)
unfolding greedy_by
greedy-settled m zero h [] e v = (tt, tt)
greedy-settled m zero h (r ∷ rows) e v = absurd (omega arith)
greedy-settled m (suc zero) h rows e v = one-settled m rows e v
greedy-settled m (suc (suc d)) h rows e v =
    repeat-settled m (suc d) (omega arith) (omega arith) (greedy (suc d)) (greedy-moves (suc d)) (greedy-settled m (suc d) (omega arith)) (suc (nat_abs (total rows))) rows e (omega arith) v

pub greedy-reduced : (m d : ℕ) → d ≤ 4 → (rows : List Row) → length rows ≡ d → pos 0 <ℤ squared_volume m (vectors rows) → Reduced (vectors (greedy d rows).rows)
greedy-reduced m d h rows e v = (greedy-settled m d h rows e v).0
