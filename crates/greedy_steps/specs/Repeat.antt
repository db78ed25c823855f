-- The loop of steps 2 to 6 for the first n rows: what each call asks holds at every turn, and the loop ends at the reduced rows.
use Rattle.std.specs.Prelude.{◌≡◌, refl, Bool, true, false, List, [], ◌∷◌, ℕ, zero, suc, ◌+◌, ◌*◌, ◌-◌, ◌≤◌, ◌<◌, ℤ, pos, nat_abs, ◌+ℤ◌, ◌*ℤ◌, length, get_or, take}
use Rattle.std.proofs.Common.{sym, ap, ap₂, ◌∙◌, subst, subst₂, arith, le_refl, mul-le-mul, take-append-drop}
use Rattle.std.proofs.Math.Decide.{dec_lt}
use Rattle.std.specs.Int.Signed.{lt_z}
use Rattle.integers.specs.Size.{size-mul}
use Rattle.integers.specs.Identity.{by_ring, reads}
use Rattle.lattices.specs.Vector.{N, nth}
use Rattle.lattices.specs.Greedy.{Row, shorter, total, greedy_by}
use Rattle.gram_matrix.specs.Tied.{Kind, Tied, tied-diagonal, tied-shorter, shorter_in}
use Rattle.gram_matrix.specs.Work.{Belongs}
use Rattle.gram_matrix.specs.declared.work.Work.{Work}
use Rattle.greedy_steps.specs.State.{blank, order_rows, pass_rows, greedy_rows, greedy_passes}
use Rattle.greedy_steps.specs.Fine.{Fine, fine-fewer, fine-order}
use Rattle.greedy_steps.specs.Room.{PassReady}
use Rattle.greedy_steps.specs.Turn.{round_of, turn_rows, turn-ready, turn-stops, turn-repeats, turn-fine, turn-falls, test-is}

-- the most passes that are counted
abbrev pub most_passes : ℕ
most_passes = 1000000000000

-- step 1
pub few-rows : (n : ℕ) → n < 2 → (rows : List Row) → (greedy_rows n rows ≡ rows) × (greedy_passes n rows ≡ 0)
unfolding greedy_by
few-rows zero h rows = (take-append-drop 0 rows, refl)
few-rows (suc zero) h rows = (take-append-drop 1 rows, refl)
few-rows (suc (suc n)) h rows = absurd (omega arith)

-- the rows after one turn for n rows, of which k go before the last
abbrev pub next_rows : ℕ → ℕ → List Row → List Row
next_rows n k rows = pass_rows k (greedy_rows k (order_rows n rows))

-- is row k shorter than the row before it?
abbrev pub shorter_at : ℕ → List Row → Bool
shorter_at k rows = lt_z (N (get_or rows k blank).vector) (N (get_or rows (k - 1) blank).vector)

-- what holds of the turn that begins with p passes made
pub record Round (K : Kind) (n k p : ℕ) (rows : List Row) : Type 0 where
  pub fewer : Fine K k (order_rows n rows)
  pub fewer-room : p + greedy_passes k (order_rows n rows) ≤ most_passes
  pub ready : PassReady K k (greedy_rows k (order_rows n rows))
  pub fine : Fine K n (next_rows n k rows)
  pub stops : shorter_at k (next_rows n k rows) ≡ false → (greedy_rows n rows ≡ next_rows n k rows) × (greedy_passes n rows ≡ suc (greedy_passes k (order_rows n rows)))
  pub repeats : shorter_at k (next_rows n k rows) ≡ true
      → (greedy_rows n rows ≡ greedy_rows n (next_rows n k rows)) × (greedy_passes n rows ≡ suc (greedy_passes k (order_rows n rows)) + greedy_passes n (next_rows n k rows))
  pub falls : shorter_at k (next_rows n k rows) ≡ true → nat_abs (total (take n (next_rows n k rows))) < nat_abs (total (take n rows))

module _ {K : Kind} (j p : ℕ) (rows : List Row) (f : Fine K (suc (suc j)) rows) (h : suc (suc j) ≤ 4) (few : p + greedy_passes (suc (suc j)) rows ≤ most_passes) where
  abbrev k : ℕ
  k = suc j

  abbrev n : ℕ
  n = suc k

  test : shorter (round_of k rows).last (round_of k rows).first ≡ shorter_at k (turn_rows k rows)
  test = test-is j rows f ∙ ap (λ i. lt_z (N (get_or (turn_rows k rows) k blank).vector) (N (get_or (turn_rows k rows) i blank).vector)) (omega arith)

  -- the passes made so far are among those of the whole reduction
  at_most : (b : Bool) → shorter_at k (turn_rows k rows) ≡ b → p + greedy_passes k (order_rows n rows) ≤ most_passes
  at_most true e = omega (arith, (turn-repeats j rows f (test ∙ e)).1, few)
  at_most false e = omega (arith, (turn-stops j rows f (test ∙ e)).1, few)

  round-at : Round K n k p rows
  round-at = record {
    fewer = fine-fewer {n = n} {k = k} (omega arith) (fine-order f);
    fewer-room = at_most (shorter_at k (turn_rows k rows)) refl;
    ready = turn-ready k rows f (omega arith);
    fine = turn-fine k rows f;
    stops = λ q. turn-stops j rows f (test ∙ q);
    repeats = λ q. turn-repeats j rows f (test ∙ q);
    falls = λ q. turn-falls k rows f (test ∙ q);
  }

pub round-of : {K : Kind} (n : ℕ) → 1 < n → n ≤ 4 → (p : ℕ) (rows : List Row) → Fine K n rows → p + greedy_passes n rows ≤ most_passes → Round K n (n - 1) p rows
round-of zero l h p rows f r = absurd (omega arith)
round-of (suc zero) l h p rows f r = absurd (omega arith)
round-of {K} (suc (suc j)) l h p rows f r = subst (λ i. Round K (suc (suc j)) i p rows) (omega arith) (round-at j p rows f h r)

-- ---- the same of the tables
-- the sum of the first n numbers of the diagonal, which the loop's measure counts
abbrev pub trace : ℕ → List (List ℤ) → ℤ
trace zero g = pos 0
trace (suc n) g = trace n g +ℤ nth (get_or g n []) n

total-suc : (n : ℕ) (rows : List Row) → n < length rows → total (take (suc n) rows) ≡ total (take n rows) +ℤ N (get_or rows n blank).vector
total-suc n [] h = absurd (omega arith)
total-suc zero (r ∷ rows) h = by_ring (N r.vector ∷ []) (search reads) (search reads) tt
total-suc (suc n) (r ∷ rows) h = ap (λ z. N r.vector +ℤ z) (total-suc n rows (omega arith)) ∙ regroup (N r.vector) (total (take n rows)) (N (get_or rows n blank).vector)
  where
    regroup : (a b c : ℤ) → a +ℤ (b +ℤ c) ≡ (a +ℤ b) +ℤ c
    regroup a b c = by_ring (a ∷ b ∷ c ∷ []) (search reads) (search reads) tt

pub trace-is : {K : Kind} {rows : List Row} {g b u v : List (List ℤ)} → Tied K rows g b u v → (n : ℕ) → n ≤ length rows → total (take n rows) ≡ K.factor *ℤ trace n g
trace-is {K} t zero h = by_ring (K.factor ∷ []) (search reads) (search reads) tt
trace-is {K} {rows} {g} t (suc n) h = total-suc n rows (omega arith) ∙ ap₂ ◌+ℤ◌ (trace-is t n (omega arith)) (tied-diagonal t n (omega arith)) ∙ out (trace n g) (nth (get_or g n []) n)
  where
    out : (a b : ℤ) → K.factor *ℤ a +ℤ K.factor *ℤ b ≡ K.factor *ℤ (a +ℤ b)
    out a b = by_ring (K.factor ∷ a ∷ b ∷ []) (search reads) (search reads) tt

-- the test of step 6 in numbers
pub tested : {K : Kind} {rows : List Row} {g b u v : List (List ℤ)} → Tied K rows g b u v → (k : ℕ) → k < length rows → shorter_at k rows ≡ shorter_in g k
tested t k h = tied-shorter t k (k - 1) h (omega arith)

-- a turn that repeats makes it fall
pub trace-falls : {K : Kind} {n : ℕ} {rows next : List Row} {g b u v g' b' u' v' : List (List ℤ)} → Tied K rows g b u v → Tied K next g' b' u' v' → n ≤ length rows → n ≤ length next
    → nat_abs (total (take n next)) < nat_abs (total (take n rows)) → nat_abs (trace n g') < nat_abs (trace n g)
trace-falls {K} {n} {rows} {next} {g} {g' = g'} t s h l f = less (nat_abs K.factor) (nat_abs (trace n g')) (nat_abs (trace n g))
    (subst₂ ◌<◌ (ap nat_abs (trace-is s n l) ∙ size-mul K.factor (trace n g')) (ap nat_abs (trace-is t n h) ∙ size-mul K.factor (trace n g)) f)
  where
    less : (c a b : ℕ) → c * a < c * b → a < b
    less c a b h = pick (dec_lt a b)
      where
        pick : Dec (a < b) → a < b
        pick (yes e) = e
        pick (no e) = let k : c * b ≤ c * a = mul-le-mul (le_refl c) (omega (arith, e)) in absurd (omega (arith, h, k))

-- some rows whose tables these are may be reduced
pub record Reducible (n p : ℕ) (g b u v : List (List ℤ)) : Type 0 where
  pub kind : Kind
  pub rows : List Row
  pub tied : Tied kind rows g b u v
  pub fine : Fine kind n rows
  pub few : p + greedy_passes n rows ≤ most_passes

-- the loop: the tables now belong to rows with the same reduction
pub record Going (K : Kind) (n p₀ : ℕ) (rows : List Row) (g b u v : List (List ℤ)) (p : ℕ) : Type 0 where
  pub now : List Row
  pub tied : Tied K now g b u v
  pub fine : Fine K n now
  pub same : greedy_rows n now ≡ greedy_rows n rows
  pub count : p + greedy_passes n now ≡ p₀ + greedy_passes n rows

pub begin : {n p : ℕ} {g b u v : List (List ℤ)} (r : Reducible n p g b u v) → Going r.kind n p r.rows g b u v p
begin r = record { now = r.rows; tied = r.tied; fine = r.fine; same = refl; count = refl }

pub round-now : {n p₀ p : ℕ} {g₀ b₀ u₀ v₀ g b u v : List (List ℤ)} → 1 < n → n ≤ 4 → (r : Reducible n p₀ g₀ b₀ u₀ v₀) (s : Going r.kind n p₀ r.rows g b u v p) → Round r.kind n (n - 1) p s.now
round-now {n} {p = p} l h r s = round-of n l h p s.now s.fine (subst (λ m. m ≤ most_passes) (sym s.count) r.few)

-- after a turn that repeats
pub repeated : {K : Kind} {n p₀ p q k : ℕ} {rows : List Row} {g b u v g' b' u' v' : List (List ℤ)} (s : Going K n p₀ rows g b u v p) → Round K n k p s.now
    → Tied K (next_rows n k s.now) g' b' u' v' → q ≡ suc (p + greedy_passes k (order_rows n s.now)) → shorter_at k (next_rows n k s.now) ≡ true → Going K n p₀ rows g' b' u' v' q
repeated {n = n} {k = k} s t a c h = record {
  now = next_rows n k s.now;
  tied = a;
  fine = t.fine;
  same = sym (t.repeats h).0 ∙ s.same;
  count = omega (arith, c, (t.repeats h).1, s.count);
}

-- what a reduction hands back
pub record Outcome (K : Kind) (n before : ℕ) (rows : List Row) (g : List (List ℤ)) (w : Work) : Type 0 where
  pub tied : Belongs K (greedy_rows n rows) g w
  pub passes : w.passes ≡ before + greedy_passes n rows

pub outcome : {K : Kind} {n before : ℕ} (g : List (List ℤ)) (w : Work) (rows out : List Row) → Belongs K out g w → out ≡ greedy_rows n rows → w.passes ≡ before + greedy_passes n rows → Outcome K n before rows g w
outcome {K} g w rows out t o q = record { tied = subst (λ l. Belongs K l g w) o t; passes = q }

-- after the turn that is the last
pub ended : {K : Kind} {n p₀ p k : ℕ} {rows : List Row} {g b u v g' : List (List ℤ)} (w : Work) (s : Going K n p₀ rows g b u v p) → Round K n k p s.now
    → Belongs K (next_rows n k s.now) g' w → w.passes ≡ suc (p + greedy_passes k (order_rows n s.now)) → shorter_at k (next_rows n k s.now) ≡ false → Outcome K n p₀ rows g' w
ended {n = n} {k = k} {rows = rows} {g' = g'} w s t a c h = outcome g' w rows (next_rows n k s.now) a (sym (t.stops h).0 ∙ s.same) (omega (arith, c, (t.stops h).1, s.count))
