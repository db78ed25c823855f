-- What the moves must do to a row to keep a property of every row.
use mathlib.Core.List.{List, [], ◌∷◌}
use Rattle.std.specs.Prelude.{ℤ, ◌≤ℤ◌}
use Rattle.integers.specs.All.{All}
use Rattle.integers.specs.AllLaws.{all_append, all_left, all_right}
use Rattle.lattices.specs.Vector.{N, ◌⊕◌, ◌⊙◌}
use Rattle.lattices.specs.Laws.Permutation.{Perm, same, skip, swap, then}
use Rattle.lattices.specs.Greedy.{Row, less, credited}
use Rattle.greedy_reduction.specs.Moves.{Moves, none, after, exchange, subtract}

module _ (P : Row → Type 0) where
  pub all_perm : {a b : List Row} → Perm a b → All P a → All P b
  all_perm (same l) h = h
  all_perm (skip x p) h = (h.0, all_perm p h.1)
  all_perm (swap x y l) h = (h.1.0, (h.0, h.1.1))
  all_perm (then p q) h = all_perm q (all_perm p h)

  -- P stays when a column of V gains a multiple of another that has P, and when a row loses a combination of others that have it
  module _
      (gains : (r s : Row) (x : ℤ) → P r → P s → P (record { vector = r.vector; u = r.u; v = r.v ⊕ x ⊙ s.v }))
      (loses : (x : List ℤ) (rows : List Row) (r : Row) → N (less x rows r).vector ≤ℤ N r.vector → All P rows → P r → P (less x rows r)) where
    all-credited : (x : List ℤ) (s : Row) (rows : List Row) → P s → All P rows → All P (credited x s.v rows)
    unfolding credited
    all-credited [] s rows p h = h
    all-credited (x ∷ xs) s [] p h = h
    all-credited (x ∷ xs) s (r ∷ rows) p h = (gains r s x h.0 p, all-credited xs s rows p h.1)

    pub moves-all : {a b : List Row} → Moves a b → All P a → All P b
    moves-all (none a) h = h
    moves-all (after p q) h = moves-all q (moves-all p h)
    moves-all (exchange p) h = all_perm p h
    moves-all (subtract x rows r rest e k) h =
        let a = all_left P rows (r ∷ rest) h in
        let t = all_right P rows (r ∷ rest) h in
        all_append P (credited x r.v rows) (less x rows r ∷ rest) (all-credited x r rows t.0 a) (loses x rows r k a t.0, t.1)
