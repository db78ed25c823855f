-- Rows as three tables: vectors, rows of U and columns of V.
use Rattle.std.specs.Prelude.{◌≡◌, refl, List, [], ◌∷◌, map, ℕ, ℤ, length, get_or, set}
use Rattle.std.proofs.Common.{sym, ap, ◌∙◌, arith}
use Rattle.lattices.specs.Vector.{nth, ◌⊕◌, ◌⊙◌}
use Rattle.lattices.specs.Greedy.{Row, credited}

-- row i has vector b[i], row u[i] of U and column v[i] of V; as many rows as the shortest of the three lists has
unfoldable pub rows_of : List (List ℤ) → List (List ℤ) → List (List ℤ) → List Row
rows_of [] us vs = []
rows_of (b ∷ bs) [] vs = []
rows_of (b ∷ bs) (u ∷ us) [] = []
rows_of (b ∷ bs) (u ∷ us) (v ∷ vs) = record { vector = b; u = u; v = v } ∷ rows_of bs us vs

-- `credited` on the columns alone: column j gains x_j times v
unfoldable pub gained : List ℤ → List ℤ → List (List ℤ) → List (List ℤ)
gained [] v t = t
gained (x ∷ xs) v [] = []
gained (x ∷ xs) v (r ∷ t) = (r ⊕ x ⊙ v) ∷ gained xs v t

-- the table whose row i holds entry i of every row
unfoldable pub transposed : List (List ℤ) → List (List ℤ)
transposed t = map (λ i. map (λ r. nth r i) t) (0 ∷ 1 ∷ 2 ∷ 3 ∷ [])

-- ---- the three tables of rows, and the rows of three tables

pub record Tables (bs us vs : List (List ℤ)) (rows : List Row) : Type 0 where
  pub vectors : map (λ r. r.vector) rows ≡ bs
  pub u : map (λ r. r.u) rows ≡ us
  pub v : map (λ r. r.v) rows ≡ vs

pub rows_of-tables : (bs us vs : List (List ℤ)) → length us ≡ length bs → length vs ≡ length bs → Tables bs us vs (rows_of bs us vs)
unfolding rows_of
rows_of-tables [] [] [] e f = record { vectors = refl; u = refl; v = refl }
rows_of-tables [] (u ∷ us) vs e f = absurd (omega arith)
rows_of-tables [] [] (v ∷ vs) e f = absurd (omega arith)
rows_of-tables (b ∷ bs) [] vs e f = absurd (omega arith)
rows_of-tables (b ∷ bs) (u ∷ us) [] e f = absurd (omega arith)
rows_of-tables (b ∷ bs) (u ∷ us) (v ∷ vs) e f =
    let t = rows_of-tables bs us vs (omega arith) (omega arith) in
    record { vectors = ap (λ l. b ∷ l) t.vectors; u = ap (λ l. u ∷ l) t.u; v = ap (λ l. v ∷ l) t.v }

pub rows_of-parts : (rows : List Row) → rows_of (map (λ r. r.vector) rows) (map (λ r. r.u) rows) (map (λ r. r.v) rows) ≡ rows
unfolding rows_of
rows_of-parts [] = refl
rows_of-parts (r ∷ rows) = ap (λ l. r ∷ l) (rows_of-parts rows)

-- ---- step 5 on the columns alone

pub credited-rows_of : (x v : List ℤ) (bs us vs : List (List ℤ)) → credited x v (rows_of bs us vs) ≡ rows_of bs us (gained x v vs)
unfolding rows_of gained credited
credited-rows_of [] v bs us vs = refl
credited-rows_of (x ∷ xs) v [] us vs = refl
credited-rows_of (x ∷ xs) v (b ∷ bs) [] vs = refl
credited-rows_of (x ∷ xs) v (b ∷ bs) (u ∷ us) [] = refl
credited-rows_of (x ∷ xs) v (b ∷ bs) (u ∷ us) (w ∷ vs) = ap (λ l. record { vector = b; u = u; v = w ⊕ x ⊙ v } ∷ l) (credited-rows_of xs v bs us vs)

pub credited-columns : (x v : List ℤ) (rows : List Row) → credited x v rows ≡ rows_of (map (λ r. r.vector) rows) (map (λ r. r.u) rows) (gained x v (map (λ r. r.v) rows))
credited-columns x v rows =
    ap (credited x v) (sym (rows_of-parts rows)) ∙ credited-rows_of x v (map (λ r. r.vector) rows) (map (λ r. r.u) rows) (map (λ r. r.v) rows)

-- ---- four rows, one by one

abbrev pub first_four : List ℕ
first_four = 0 ∷ 1 ∷ 2 ∷ 3 ∷ []

pub four : {A : Type 0} (l : List A) (d : A) → length l ≡ 4 → map (λ i. get_or l i d) first_four ≡ l
four [] d e = absurd (omega arith)
four (a ∷ []) d e = absurd (omega arith)
four (a ∷ b ∷ []) d e = absurd (omega arith)
four (a ∷ b ∷ c ∷ []) d e = absurd (omega arith)
four (a ∷ b ∷ c ∷ f ∷ []) d e = refl
four (a ∷ b ∷ c ∷ f ∷ g ∷ l) d e = absurd (omega arith)

pub map-four : {A B : Type 0} (f : A → B) (l : List A) (d : A) → length l ≡ 4 → f (get_or l 0 d) ∷ f (get_or l 1 d) ∷ f (get_or l 2 d) ∷ f (get_or l 3 d) ∷ [] ≡ map f l
map-four f l d e = ap (map f) (four l d e)

pub set-four : {A : Type 0} (l : List A) {p q r s : A} → length l ≡ 4 → set (set (set (set l 0 p) 1 q) 2 r) 3 s ≡ p ∷ q ∷ r ∷ s ∷ []
set-four [] e = absurd (omega arith)
set-four (a ∷ []) e = absurd (omega arith)
set-four (a ∷ b ∷ []) e = absurd (omega arith)
set-four (a ∷ b ∷ c ∷ []) e = absurd (omega arith)
set-four (a ∷ b ∷ c ∷ f ∷ []) e = refl
set-four (a ∷ b ∷ c ∷ f ∷ g ∷ l) e = absurd (omega arith)
