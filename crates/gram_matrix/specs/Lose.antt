-- Step 5 on the vectors, U and V, one row before row k after the other: row k loses multiples of them, their columns of V gain.
use Rattle.std.specs.Prelude.{◌≡◌, List, [], ◌∷◌, map, ℕ, zero, suc, ◌+◌, ◌≤◌, ◌<◌, ℤ, pos, nat_abs, ◌*ℤ◌, length, get_or, set, take}
use Rattle.std.proofs.Common.{ap, ◌∙◌, arith}
use Rattle.std.proofs.lemmas.List.{set-get_or}
use Rattle.integers.specs.Size.{load}
use Rattle.lattices.specs.Vector.{nth, ◌⊖◌, ◌⊙◌}
use Rattle.greedy_reduction.specs.Start.{Coordinates}
use Rattle.row_operations.specs.Loss.{⊖-nothing}
use Rattle.row_operations.specs.Minus.{room}
use Rattle.gram_matrix.specs.Columns.{gained_at, gained_columns, columns-suc, entry_kept}

-- ---- room for a row that loses a combination of the rows before it
pub record Loses (k : ℕ) (x : List ℤ) (t : List (List ℤ)) : Type 0 where
  pub fits : (i : ℕ) → nat_abs (nth (get_or t k []) i) + load (take k x) (take k t) i ≤ room

-- ---- and for columns that gain
pub record Gainable (k j : ℕ) (q : ℤ) (t : List (List ℤ)) : Type 0 where
  pub fits : (i : ℕ) → nat_abs (nth (get_or t i []) j) + nat_abs (q *ℤ nth (get_or t i []) k) ≤ room

pub record Gains (k : ℕ) (x : List ℤ) (t : List (List ℤ)) : Type 0 where
  pub fits : (i j : ℕ) → j < k → nat_abs (nth (get_or t i []) j) + nat_abs (nth x j *ℤ nth (get_or t i []) k) ≤ room

pub row-wide : (w i : ℕ) (t : List (List ℤ)) → Coordinates w t → i < length t → length (get_or t i []) ≡ w
row-wide w i [] c h = absurd (omega arith)
row-wide w zero (r ∷ t) c h = c.0
row-wide w (suc i) (r ∷ t) c h = row-wide w i t c.1 (omega arith)

module _ (k : ℕ) (x : List ℤ) (t : List (List ℤ)) (three : k ≤ 3) (count : length x ≡ 4) (l : Gains k x t) (j : ℕ) (h : j < k) {s : List (List ℤ)} (e : s ≡ gained_columns (take j x) k t) where
  pub gainable : Gainable k j (nth x j) s
  gainable = record {
    fits = λ i. rw (e, entry_kept j k j i x t (omega arith), entry_kept j k k i x t (omega arith)) (l.fits i j h);
  }

  pub gained-next : map (gained_at j (nth x j) k) s ≡ gained_columns (take (suc j) x) k t
  gained-next = ap (map (gained_at j (nth x j) k)) e ∙ columns-suc j k x t (omega (arith, count)) h

-- ---- one multiple; by 0 it changes nothing
abbrev pub lost : ℕ → ℕ → ℤ → List (List ℤ) → List (List ℤ)
lost k j q t = set t k (get_or t k [] ⊖ q ⊙ get_or t j [])

pub lost-nothing : (k j : ℕ) (t : List (List ℤ)) → length (get_or t j []) ≤ length (get_or t k []) → lost k j (pos 0) t ≡ t
lost-nothing k j t h = ap (set t k) (⊖-nothing (get_or t k []) (get_or t j []) h) ∙ set-get_or t k []

-- the first rows are as wide as all are
pub take-wide : (w j : ℕ) (t : List (List ℤ)) → Coordinates w t → Coordinates w (take j t)
take-wide w zero t c = tt
take-wide w (suc j) [] c = tt
take-wide w (suc j) (r ∷ t) c = (c.0, take-wide w j t c.1)
