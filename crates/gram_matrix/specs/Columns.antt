-- Step 5 on the rows of V: column j gains x_j times column k, one column after the other.
use Rattle.std.specs.Prelude.{◌≡◌, ℤ, pos, ◌+ℤ◌, ◌*ℤ◌, length, get_or, set, take}
use Rattle.std.proofs.Math.Path.{refl, ap}
use Rattle.std.proofs.Common.{sym, ap₂, ◌∙◌, arith}
use mathlib.Core.List.{List, [], ◌∷◌, map}
use Prim.Native.Nat.{ℕ, zero, suc, ◌≤◌, ◌<◌}
use Rattle.std.proofs.lemmas.List.{set-get_or}
use Rattle.integers.specs.Identity.{by_ring, reads}
use Rattle.integers.specs.ListLaws.{entries}
use Rattle.lattices.specs.Vector.{nth}
use Rattle.row_operations.specs.Rows.{gained, transposed}

-- entry j of a row gains q times entry k
abbrev pub gained_at : ℕ → ℤ → ℕ → List ℤ → List ℤ
gained_at j q k r = set r j (nth r j +ℤ q *ℤ nth r k)

-- the first entries gain each its number of x times y
unfoldable pub gained_by : List ℤ → ℤ → List ℤ → List ℤ
gained_by [] y r = r
gained_by (x ∷ xs) y [] = []
gained_by (x ∷ xs) y (a ∷ r) = (a +ℤ x *ℤ y) ∷ gained_by xs y r

-- of every row, by its own entry k
abbrev pub gained_columns : List ℤ → ℕ → List (List ℤ) → List (List ℤ)
gained_columns x k = map (λ r. gained_by x (nth r k) r)

-- ---- one column more
module _ (y : ℤ) where
  nth-gained_by : (j i : ℕ) (x r : List ℤ) → j ≤ i → nth (gained_by (take j x) y r) i ≡ nth r i
  unfolding gained_by
  nth-gained_by zero i x r h = refl
  nth-gained_by (suc j) i [] r h = refl
  nth-gained_by (suc j) i (z ∷ x) [] h = refl
  nth-gained_by (suc j) zero (z ∷ x) (a ∷ r) h = absurd (omega arith)
  nth-gained_by (suc j) (suc i) (z ∷ x) (a ∷ r) h = nth-gained_by j i x r (omega arith)

  set-gained_by : (j : ℕ) (x r : List ℤ) → j < length x → set (gained_by (take j x) y r) j (nth r j +ℤ nth x j *ℤ y) ≡ gained_by (take (suc j) x) y r
  unfolding gained_by
  set-gained_by j [] r h = absurd (omega arith)
  set-gained_by zero (z ∷ x) [] h = refl
  set-gained_by zero (z ∷ x) (a ∷ r) h = refl
  set-gained_by (suc j) (z ∷ x) [] h = refl
  set-gained_by (suc j) (z ∷ x) (a ∷ r) h = ap (λ l. (a +ℤ z *ℤ y) ∷ l) (set-gained_by j x r (omega arith))

pub gained-suc : (j k : ℕ) (x r : List ℤ) → j < length x → j < k → gained_at j (nth x j) k (gained_by (take j x) (nth r k) r) ≡ gained_by (take (suc j) x) (nth r k) r
gained-suc j k x r h l =
    ap₂ (λ a b. set (gained_by (take j x) (nth r k) r) j (a +ℤ nth x j *ℤ b)) (nth-gained_by (nth r k) j j x r (omega arith)) (nth-gained_by (nth r k) j k x r (omega arith))
    ∙ set-gained_by (nth r k) j x r h

pub columns-none : (k : ℕ) (x : List ℤ) (t : List (List ℤ)) → gained_columns (take 0 x) k t ≡ t
unfolding gained_by
columns-none k x [] = refl
columns-none k x (r ∷ t) = ap (λ l. r ∷ l) (columns-none k x t)

pub columns-suc : (j k : ℕ) (x : List ℤ) (t : List (List ℤ)) → j < length x → j < k → map (gained_at j (nth x j) k) (gained_columns (take j x) k t) ≡ gained_columns (take (suc j) x) k t
columns-suc j k x [] h l = refl
columns-suc j k x (r ∷ t) h l = ap₂ ◌∷◌ (gained-suc j k x r h l) (columns-suc j k x t h l)

-- what has not gained yet is as it was
pub entry_kept : (j k i m : ℕ) (x : List ℤ) (t : List (List ℤ)) → j ≤ i → nth (get_or (gained_columns (take j x) k t) m []) i ≡ nth (get_or t m []) i
entry_kept j k i m x [] h = refl
entry_kept j k i zero x (r ∷ t) h = nth-gained_by (nth r k) j i x r h
entry_kept j k i (suc m) x (r ∷ t) h = entry_kept j k i m x t h

-- a multiple by 0 changes nothing
pub gained-nothing : (j k : ℕ) (t : List (List ℤ)) → map (gained_at j (pos 0) k) t ≡ t
gained-nothing j k [] = refl
gained-nothing j k (r ∷ t) = ap₂ ◌∷◌ (ap (set r j) (nothing (nth r j) (nth r k)) ∙ set-get_or r j (pos 0)) (gained-nothing j k t)
  where
    nothing : (a b : ℤ) → a +ℤ pos 0 *ℤ b ≡ a
    nothing a b = by_ring (a ∷ b ∷ []) (search reads) (search reads) tt

-- ---- rows gain as columns
column-gained : (i : ℕ) (x w : List ℤ) (t : List (List ℤ)) → map (λ r. nth r i) (gained x w t) ≡ gained_by x (nth w i) (map (λ r. nth r i) t)
unfolding gained gained_by
column-gained i [] w t = refl
column-gained i (z ∷ x) w [] = refl
column-gained i (z ∷ x) w (r ∷ t) = ap₂ ◌∷◌ (simp entries) (column-gained i x w t)

pub nth-column : (i k : ℕ) (t : List (List ℤ)) → nth (map (λ r. nth r i) t) k ≡ nth (get_or t k []) i
nth-column i k [] = refl
nth-column i zero (r ∷ t) = refl
nth-column i (suc k) (r ∷ t) = nth-column i k t

pub transposed-gained : (x : List ℤ) (k : ℕ) (t : List (List ℤ)) → transposed (gained x (get_or t k []) t) ≡ gained_columns x k (transposed t)
unfolding transposed
transposed-gained x k t = λ p. column 0 p ∷ column 1 p ∷ column 2 p ∷ column 3 p ∷ []
  where
    column : (i : ℕ) → map (λ r. nth r i) (gained x (get_or t k []) t) ≡ gained_by x (nth (map (λ r. nth r i) t) k) (map (λ r. nth r i) t)
    column i = column-gained i x (get_or t k []) t ∙ ap (λ y. gained_by x y (map (λ r. nth r i) t)) (sym (nth-column i k t))
