-- The greedy steps as moves of a list: exchanges and passes. What every move keeps, the reduction keeps.
use Rattle.std.specs.Prelude.{◌≡◌, refl, Bool, true, false, List, [], ◌∷◌, ◌++◌, map, ℕ, zero, suc, ◌+◌, ℤ, nat_abs, ◌≤ℤ◌, length}
use Rattle.std.proofs.Common.{sym, ap, ◌∙◌, subst, subst₂, append_assoc, arith, length-append}
use Rattle.std.specs.Int.Signed.{lt_z}
use Rattle.std.proofs.lemmas.List.{length-map}
use Rattle.lattices.specs.Vector.{N}
use Rattle.lattices.specs.Laws.Permutation.{Perm, same, skip, swap, then, perm_append, perm_length}
use Rattle.lattices.specs.Nearest.{nearest}
use Rattle.lattices.specs.Greedy.{Row, vectors, insert, order, last_of, before, less, credited, Counted, pass, round, shorter, joined, repeat, total, greedy, greedy_by, insert_by, order_by}
use Rattle.successive_minima.specs.Laws.NearestLaws.{nearest-count, nearest-shorter}

pub data Moves : List Row → List Row → Type 0 where
  none : (a : List Row) → Moves a a
  after : {a b c : List Row} → Moves a b → Moves b c → Moves a c
  exchange : {a b : List Row} → Perm a b → Moves a b
  -- a combination of the rows before it is subtracted from a row, which does not get longer
  subtract : (x : List ℤ) (rows : List Row) (r : Row) (rest : List Row) → length x ≡ length rows → N (less x rows r).vector ≤ℤ N r.vector
      → Moves (rows ++ (r ∷ rest)) (credited x r.v rows ++ (less x rows r ∷ rest))

pub moves-append : {a b : List Row} → Moves a b → (c : List Row) → Moves (a ++ c) (b ++ c)
moves-append (none a) c = none (a ++ c)
moves-append (after p q) c = after (moves-append p c) (moves-append q c)
moves-append (exchange p) c = exchange (perm_append p c)
moves-append (subtract x rows r rest e h) c =
    subst₂ Moves (sym (append_assoc rows (r ∷ rest) c)) (sym (append_assoc (credited x r.v rows) (less x rows r ∷ rest) c)) (subtract x rows r (rest ++ c) e h)

-- ---- the steps are moves
insert_perm : (r : Row) (rows : List Row) → Perm (r ∷ rows) (insert r rows)
unfolding insert_by
insert_perm r [] = same (r ∷ [])
insert_perm r (s ∷ rows) = go (lt_z (N s.vector) (N r.vector)) (insert_perm r rows)
  where
    go : (b : Bool) → Perm (r ∷ rows) (insert r rows) → Perm (r ∷ s ∷ rows) (elim b [ true ↦ s ∷ insert r rows | false ↦ r ∷ (s ∷ rows) ])
    go true p = then (swap r s rows) (skip s p)
    go false p = same (r ∷ s ∷ rows)

pub order_perm : (rows : List Row) → Perm rows (order rows)
unfolding order_by
order_perm [] = same []
order_perm (r ∷ rows) = then (skip r (order_perm rows)) (insert_perm r (order rows))

pub before_last : (r : Row) (rows : List Row) → before r rows ++ (last_of r rows ∷ []) ≡ r ∷ rows
before_last r [] = refl
before_last r (s ∷ rows) = ap (λ l. r ∷ l) (before_last s rows)

pub vectors-credited : (x v : List ℤ) (rows : List Row) → vectors (credited x v rows) ≡ vectors rows
unfolding credited
vectors-credited [] v rows = refl
vectors-credited (x ∷ xs) v [] = refl
vectors-credited (x ∷ xs) v (r ∷ rows) = ap (λ l. r.vector ∷ l) (vectors-credited xs v rows)

pub vectors-append : (a b : List Row) → vectors (a ++ b) ≡ vectors a ++ vectors b
vectors-append [] b = refl
vectors-append (r ∷ a) b = ap (λ l. r.vector ∷ l) (vectors-append a b)

pub length-vectors : (rows : List Row) → length (vectors rows) ≡ length rows
length-vectors rows = length-map rows (λ r. r.vector)

pub row-squares : (rows : List Row) → map (λ r. N r.vector) rows ≡ map N (vectors rows)
row-squares [] = refl
row-squares (r ∷ rows) = ap (λ l. N r.vector ∷ l) (row-squares rows)

pass-moves : (c : Counted) (r : Row) → Moves (c.rows ++ (r ∷ [])) (joined (pass c r))
pass-moves c r =
    subtract (nearest (vectors c.rows) r.vector) c.rows r [] (nearest-count (vectors c.rows) r.vector ∙ length-vectors c.rows)
    (nearest-shorter (vectors c.rows) r.vector)

-- `reduce` moves every list of k vectors
abbrev pub Moving : ℕ → (List Row → Counted) → Type 0
Moving k reduce = (rows : List Row) → length rows ≡ k → Moves rows (reduce rows).rows

pub length-credited : (x v : List ℤ) (rows : List Row) → length (credited x v rows) ≡ length rows
length-credited x v rows = sym (length-vectors (credited x v rows)) ∙ ap length (vectors-credited x v rows) ∙ length-vectors rows

pub moves-length : {a b : List Row} → Moves a b → length a ≡ length b
moves-length (none a) = refl
moves-length (after p q) = moves-length p ∙ moves-length q
moves-length (exchange p) = perm_length p
moves-length (subtract x rows r rest e h) =
    length-append rows (r ∷ rest) ∙ ap (λ n. n + suc (length rest)) (sym (length-credited x r.v rows)) ∙ sym (length-append (credited x r.v rows) (less x rows r ∷ rest))

pub length_before : (r : Row) (rows : List Row) → length (before r rows) ≡ length rows
length_before r [] = refl
length_before r (s ∷ rows) = ap suc (length_before s rows)

round-moves : (k : ℕ) (reduce : List Row → Counted) → Moving k reduce → (rows : List Row) → length rows ≡ suc k → Moves rows (joined (round reduce rows))
round-moves k reduce m [] e = absurd (omega arith)
round-moves k reduce m (r ∷ rows) e = after
    (subst (λ l. Moves l ((reduce (before r rows)).rows ++ (last_of r rows ∷ []))) (before_last r rows)
    (moves-append (m (before r rows) (length_before r rows ∙ omega arith)) (last_of r rows ∷ [])))
    (pass-moves (reduce (before r rows)) (last_of r rows))

pub ordered_moves : (k : ℕ) (reduce : List Row → Counted) → Moving k reduce → (rows : List Row) → length rows ≡ suc k → Moves rows (joined (round reduce (order rows)))
ordered_moves k reduce m rows e = after (exchange (order_perm rows)) (round-moves k reduce m (order rows) (sym (perm_length (order_perm rows)) ∙ e))

repeat-moves : (k : ℕ) (reduce : List Row → Counted) → Moving k reduce → (fuel : ℕ) (rows : List Row) → length rows ≡ suc k → Moves rows (repeat reduce fuel rows).rows
repeat-moves k reduce m zero rows e = none rows
repeat-moves k reduce m (suc fuel) rows e =
    let p = round reduce (order rows) in
    let n = ordered_moves k reduce m rows e in
    go (shorter p.last p.first) n (after n (repeat-moves k reduce m fuel (joined p) (sym (moves-length n) ∙ e)))
  where
    go : (b : Bool) → Moves rows (joined (round reduce (order rows))) → Moves rows (repeat reduce fuel (joined (round reduce (order rows)))).rows
        → Moves rows (elim b as (λ b. Counted) [
          | false ↦ record { rows = joined (round reduce (order rows)); passes = (round reduce (order rows)).passes }
          | true ↦ let c = repeat reduce fuel (joined (round reduce (order rows))) in record { rows = c.rows; passes = (round reduce (order rows)).passes + c.passes }
        ]).rows
    go false n q = n
    go true n q = q

-- the greedy reduction of d rows is a chain of moves
pub greedy-moves : (d : ℕ) → Moving d (greedy d)
unfolding greedy_by
greedy-moves zero rows e = none rows
greedy-moves (suc zero) rows e = none rows
greedy-moves (suc (suc d)) rows e = repeat-moves (suc d) (greedy (suc d)) (greedy-moves (suc d)) (suc (nat_abs (total rows))) rows e
