-- Lengths along the moves: no row gets longer than the longest was, and the sum of the squared lengths does not grow.
use Rattle.std.specs.Prelude.{◌≡◌, refl, Bool, true, false, List, [], ◌∷◌, ◌++◌, ℤ, pos, ◌+ℤ◌, ◌≤ℤ◌}
use Rattle.std.proofs.Common.{sym, ap, ◌∙◌}
use Rattle.std.proofs.Math.IntN.{+ℤ_idl, +ℤ_assoc}
use Rattle.std.specs.Int.Signed.{lt_z, ≤ℤ_refl}
use Rattle.integers.specs.Identity.{by_ring, reads}
use Rattle.integers.specs.Order.{≤ℤ_trans, ≤ℤ_of_<ℤ, ≤ℤ_of_≡, lt_z_true, lt_z_false, +ℤ_mono}
use Rattle.integers.specs.Certificate.{NN, ◌⊞◌}
use Rattle.lattices.specs.Vector.{Vec, N}
use Rattle.lattices.specs.Laws.Vector.{N-nonneg}
use Rattle.lattices.specs.Laws.Permutation.{Perm, same, skip, swap, then}
use Rattle.lattices.specs.Greedy.{Row, vectors, insert, order, last_of, before, less, credited, total, insert_by, order_by}
use Rattle.integers.specs.All.{All}
use Rattle.greedy_reduction.specs.Every.{moves-all}
use Rattle.greedy_reduction.specs.Moves.{Moves, none, after, exchange, subtract, vectors-credited}

-- ---- no row longer than s
abbrev pub NoLonger : ℤ → List Row → Type 0
NoLonger s = All (λ r. N r.vector ≤ℤ s)

-- no vector on the way is longer than the longest input
pub moves-no-longer : (s : ℤ) {a b : List Row} → Moves a b → NoLonger s a → NoLonger s b
moves-no-longer s = moves-all (λ r. N r.vector ≤ℤ s) (λ r q x h k. h) (λ x rows r k h p. ≤ℤ_trans k p)

pub no-longer-credited : (s : ℤ) (x v : List ℤ) (rows : List Row) → NoLonger s rows → NoLonger s (credited x v rows)
unfolding credited
no-longer-credited s [] v rows h = h
no-longer-credited s (x ∷ xs) v [] h = h
no-longer-credited s (x ∷ xs) v (r ∷ rows) h = (h.0, no-longer-credited s xs v rows h.1)

pub last-no-longer : (s : ℤ) (r : Row) (rows : List Row) → NoLonger s (r ∷ rows) → N (last_of r rows).vector ≤ℤ s
last-no-longer s r [] h = h.0
last-no-longer s r (q ∷ rows) h = last-no-longer s q rows h.1

-- ---- the sum of the squared lengths
sum : List Vec → ℤ
sum [] = pos 0
sum (b ∷ bs) = N b +ℤ sum bs

total-sum : (rows : List Row) → total rows ≡ sum (vectors rows)
unfolding sum
total-sum [] = refl
total-sum (r ∷ rows) = ap (λ s. N r.vector +ℤ s) (total-sum rows)

pub total-append : (a b : List Row) → total (a ++ b) ≡ total a +ℤ total b
total-append [] b = sym (+ℤ_idl (total b))
total-append (r ∷ a) b = ap (λ s. N r.vector +ℤ s) (total-append a b) ∙ sym (+ℤ_assoc (N r.vector) (total a) (total b))

pub total-credited : (x v : List ℤ) (rows : List Row) → total (credited x v rows) ≡ total rows
total-credited x v rows = total-sum (credited x v rows) ∙ ap sum (vectors-credited x v rows) ∙ sym (total-sum rows)

pub total-nonneg : (rows : List Row) → NN (total rows)
total-nonneg [] = ≤ℤ_refl (pos 0)
total-nonneg (r ∷ rows) = N-nonneg r.vector ⊞ total-nonneg rows

pub perm_total : {a b : List Row} → Perm a b → total a ≡ total b
perm_total (same l) = refl
perm_total (skip x p) = ap (λ s. N x.vector +ℤ s) (perm_total p)
perm_total (swap x y l) = by_ring (N x.vector ∷ N y.vector ∷ total l ∷ []) (search reads) (search reads) tt
perm_total (then p q) = perm_total p ∙ perm_total q

pub moves-total : {a b : List Row} → Moves a b → total b ≤ℤ total a
moves-total (none a) = ≤ℤ_refl (total a)
moves-total (after p q) = ≤ℤ_trans (moves-total q) (moves-total p)
moves-total (exchange p) = ≤ℤ_of_≡ (sym (perm_total p))
moves-total (subtract x rows r rest e k) =
    rw (total-append (credited x r.v rows) (less x rows r ∷ rest), total-append rows (r ∷ rest), total-credited x r.v rows)
    (+ℤ_mono (≤ℤ_refl (total rows)) (+ℤ_mono k (≤ℤ_refl (total rest))))

-- ---- ordering by length: every row is at least as long as those before it
abbrev pub AtLeast : ℤ → List Row → Type 0
AtLeast s = All (λ r. s ≤ℤ N r.vector)

abbrev pub Sorted : List Row → Type 0
Sorted [] = Unit {0}
Sorted (r ∷ rows) = AtLeast (N r.vector) rows × Sorted rows

at-least-le : {s t : ℤ} → s ≤ℤ t → (rows : List Row) → AtLeast t rows → AtLeast s rows
at-least-le h [] k = tt
at-least-le h (r ∷ rows) k = (≤ℤ_trans h k.0, at-least-le h rows k.1)

insert-at-least : (s : ℤ) (r : Row) (rows : List Row) → s ≤ℤ N r.vector → AtLeast s rows → AtLeast s (insert r rows)
unfolding insert_by
insert-at-least s r [] h k = (h, tt)
insert-at-least s r (q ∷ rows) h k = go (lt_z (N q.vector) (N r.vector)) (insert-at-least s r rows h k.1)
  where
    go : (b : Bool) → AtLeast s (insert r rows) → AtLeast s (elim b [ true ↦ q ∷ insert r rows | false ↦ r ∷ (q ∷ rows) ])
    go true p = (k.0, p)
    go false p = (h, k)

insert_sorted : (r : Row) (rows : List Row) → Sorted rows → Sorted (insert r rows)
unfolding insert_by
insert_sorted r [] k = (tt, tt)
insert_sorted r (q ∷ rows) k = go (lt_z (N q.vector) (N r.vector)) refl (insert_sorted r rows k.1)
  where
    go : (b : Bool) → lt_z (N q.vector) (N r.vector) ≡ b → Sorted (insert r rows) → Sorted (elim b [ true ↦ q ∷ insert r rows | false ↦ r ∷ (q ∷ rows) ])
    go true e p = (insert-at-least (N q.vector) r rows (≤ℤ_of_<ℤ (lt_z_true e)) k.0, p)
    go false e p = ((lt_z_false e, at-least-le (lt_z_false e) rows k.0), k)

pub order_sorted : (rows : List Row) → Sorted (order rows)
unfolding order_by
order_sorted [] = tt
order_sorted (r ∷ rows) = insert_sorted r (order rows) (order_sorted rows)

last-at-least : (s : ℤ) (r : Row) (rows : List Row) → AtLeast s (r ∷ rows) → s ≤ℤ N (last_of r rows).vector
last-at-least s r [] h = h.0
last-at-least s r (q ∷ rows) h = last-at-least s q rows h.1

-- after step 2 the last row is the longest
pub sorted_last : (r : Row) (rows : List Row) → Sorted (r ∷ rows) → NoLonger (N (last_of r rows).vector) (before r rows)
sorted_last r [] h = tt
sorted_last r (q ∷ rows) h = (last-at-least (N r.vector) q rows h.0, sorted_last q rows h.1)
