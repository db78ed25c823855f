-- Which rows the tables belong to: g is their Gram matrix up to a positive factor, b has their vectors or zeros, u their rows of U, v the
-- rows of V (whose columns the rows have). Order by length works on the tables alone.
use Rattle.std.specs.Prelude.{◌≡◌, refl, Bool, true, false, List, [], ◌∷◌, map, ℕ, zero, suc, ◌+◌, ◌-◌, ◌<◌, ◌≤◌, ℤ, pos, ◌*ℤ◌, ◌<ℤ◌, length, get_or}
use Rattle.std.proofs.Common.{sym, ap, ap₂, ◌∙◌, subst, ⊎_elim, arith}
use Rattle.std.proofs.Math.Path.{fun_ext}
use Rattle.std.proofs.lemmas.Simd.{map-map}
use Rattle.std.specs.Int.Signed.{lt_z}
use Rattle.std.proofs.lemmas.List.{length-map}
use Rattle.integers.specs.Order.{<ℤ-lt_z, ≤ℤ-lt_z, ≤ℤ-or-<ℤ, ≤ℤ_of_<ℤ, *ℤ_mono, *ℤ_mono_<}
use Rattle.integers.specs.AllLaws.{get_d_map}
use Rattle.integers.specs.ListLaws.{nth-⊙, length-⊙}
use Rattle.lattices.specs.Vector.{N, nth, ◌⊙◌}
use Rattle.lattices.specs.Greedy.{Row, vectors}
use Rattle.greedy_reduction.specs.Start.{Coordinates}
use Rattle.row_operations.specs.Rows.{transposed}
use Rattle.gram_matrix.specs.Order.{exchanged, insert_at, insert_at-suc, longer, blank}
use Rattle.gram_matrix.specs.Gram.{gram_of, gram-length, gram-exchanged, gram-diagonal, map-exchanged, coordinates-against}

-- the factor of the Gram matrix, and whether the vectors stand in their table; where they do not, it holds zeros
pub record Kind : Type 0 where
  pub factor : ℤ
  pub vectors : Bool

-- vectors as they are
abbrev pub whole : Kind
whole = record { factor = pos 1; vectors = true }

abbrev pub scaled : ℤ → List (List ℤ) → List (List ℤ)
scaled c = map (λ r. c ⊙ r)

abbrev pub bit : Bool → ℤ
bit true = pos 1
bit false = pos 0

pub record Tied (K : Kind) (rows : List Row) (g b u v : List (List ℤ)) : Type 0 where
  pub positive : pos 0 <ℤ K.factor
  pub gram : gram_of (vectors rows) ≡ scaled K.factor g
  pub vectors : scaled (bit K.vectors) (vectors rows) ≡ b
  pub us : map (λ r. r.u) rows ≡ u
  pub vs : transposed (map (λ r. r.v) rows) ≡ v

-- ---- rows that change places
exchanged-⊙ : (F : ℤ) (j : ℕ) (r : List ℤ) → exchanged j (F ⊙ r) ≡ F ⊙ exchanged j r
unfolding ◌⊙◌ exchanged
exchanged-⊙ F j [] = refl
exchanged-⊙ F zero (x ∷ []) = refl
exchanged-⊙ F zero (x ∷ y ∷ r) = refl
exchanged-⊙ F (suc j) (x ∷ r) = ap (λ l. (F *ℤ x) ∷ l) (exchanged-⊙ F j r)

transposed-exchanged : (j : ℕ) (t : List (List ℤ)) → transposed (exchanged j t) ≡ map (exchanged j) (transposed t)
unfolding transposed
transposed-exchanged j t = λ k. column 0 k ∷ column 1 k ∷ column 2 k ∷ column 3 k ∷ []
  where
    column : (i : ℕ) → map (λ r. nth r i) (exchanged j t) ≡ exchanged j (map (λ r. nth r i) t)
    column i = map-exchanged (λ r. nth r i) j t

pub tied-length : {K : Kind} {rows : List Row} {g b u v : List (List ℤ)} → Tied K rows g b u v → length rows ≡ length u
tied-length {rows = rows} t = sym (length-map rows (λ r. r.u)) ∙ ap length t.us

pub tied-length-gram : {K : Kind} {rows : List Row} {g b u v : List (List ℤ)} → Tied K rows g b u v → length g ≡ length rows
tied-length-gram {K} {rows} {g} t = sym (length-map g (λ r. K.factor ⊙ r)) ∙ ap length (sym t.gram) ∙ gram-length (vectors rows) ∙ length-map rows (λ r. r.vector)

-- every row of the Gram matrix has a number for each row, and so has every row of V
coordinates-⊙ : (F : ℤ) (n : ℕ) (g : List (List ℤ)) → Coordinates n (map (λ r. F ⊙ r) g) → Coordinates n g
coordinates-⊙ F n [] c = tt
coordinates-⊙ F n (r ∷ g) c = (sym (length-⊙ F r) ∙ c.0, coordinates-⊙ F n g c.1)

pub tied-square : {K : Kind} {rows : List Row} {g b u v : List (List ℤ)} → Tied K rows g b u v → Coordinates (length rows) g
tied-square {K} {rows} {g} t = coordinates-⊙ K.factor (length rows) g
    (subst (Coordinates (length rows)) t.gram (subst (λ n. Coordinates n (gram_of (vectors rows))) (length-map rows (λ r. r.vector)) (coordinates-against (vectors rows) (vectors rows))))

pub tied-exchanged : {K : Kind} {rows : List Row} {g b u v : List (List ℤ)} (j : ℕ) → Tied K rows g b u v
    → Tied K (exchanged j rows) (exchanged j (map (exchanged j) g)) (exchanged j b) (exchanged j u) (map (exchanged j) v)
tied-exchanged {K} {rows} {g} {b} {u} {v} j t = record {
  positive = t.positive;
  gram = ap gram_of (map-exchanged (λ r. r.vector) j rows) ∙ gram-exchanged j (vectors rows)
      ∙ ap (λ l. exchanged j (map (exchanged j) l)) t.gram
      ∙ ap (exchanged j) (map-map (exchanged j) (λ r. K.factor ⊙ r) g ∙ ap (λ f. map f g) (fun_ext (exchanged-⊙ K.factor j)) ∙ sym (map-map (λ r. K.factor ⊙ r) (exchanged j) g))
      ∙ sym (map-exchanged (λ r. K.factor ⊙ r) j (map (exchanged j) g));
  vectors = ap (scaled (bit K.vectors)) (map-exchanged (λ r. r.vector) j rows) ∙ map-exchanged (λ r. bit K.vectors ⊙ r) j (vectors rows) ∙ ap (exchanged j) t.vectors;
  us = map-exchanged (λ r. r.u) j rows ∙ ap (exchanged j) t.us;
  vs = ap transposed (map-exchanged (λ r. r.v) j rows) ∙ transposed-exchanged j (map (λ r. r.v) rows) ∙ ap (map (exchanged j)) t.vs;
}

-- ---- the diagonal holds the squared lengths, up to the factor
pub scaled-row : (F : ℤ) (g : List (List ℤ)) (j : ℕ) → get_or (map (λ r. F ⊙ r) g) j [] ≡ F ⊙ get_or g j []
unfolding ◌⊙◌
scaled-row F [] j = refl
scaled-row F (r ∷ g) zero = refl
scaled-row F (r ∷ g) (suc j) = scaled-row F g j

pub tied-diagonal : {K : Kind} {rows : List Row} {g b u v : List (List ℤ)} → Tied K rows g b u v → (j : ℕ) → j < length rows → N (get_or rows j blank).vector ≡ K.factor *ℤ nth (get_or g j []) j
tied-diagonal {K} {rows} {g} t j h =
    ap (λ x. N x) (sym (get_d_map (λ r. r.vector) rows blank [] j h))
    ∙ sym (gram-diagonal (vectors rows) j (omega (arith, length-map rows (λ r. r.vector))))
    ∙ ap (λ l. nth (get_or l j []) j) t.gram
    ∙ ap (λ r. nth r j) (scaled-row K.factor g j) ∙ nth-⊙ K.factor (get_or g j []) j

lt_z-scale : {c : ℤ} → pos 0 <ℤ c → (x y : ℤ) → lt_z (c *ℤ x) (c *ℤ y) ≡ lt_z x y
lt_z-scale {c} h x y = ⊎_elim
    (λ k. ≤ℤ-lt_z {a = c *ℤ x} {b = c *ℤ y} (*ℤ_mono (≤ℤ_of_<ℤ h) k) ∙ sym (≤ℤ-lt_z {a = x} {b = y} k))
    (λ k. <ℤ-lt_z (*ℤ_mono_< h k) ∙ sym (<ℤ-lt_z k)) (≤ℤ-or-<ℤ y x)

-- is vector k shorter than vector i, by numbers
pub tied-shorter : {K : Kind} {rows : List Row} {g b u v : List (List ℤ)} → Tied K rows g b u v → (k i : ℕ) → k < length rows → i < length rows
    → lt_z (N (get_or rows k blank).vector) (N (get_or rows i blank).vector) ≡ lt_z (nth (get_or g k []) k) (nth (get_or g i []) i)
tied-shorter {g = g} t k i h l = ap₂ lt_z (tied-diagonal t k h) (tied-diagonal t i l) ∙ lt_z-scale t.positive (nth (get_or g k []) k) (nth (get_or g i []) i)

-- ---- the insertion: the test at place j is whether vector j + 1 is shorter than the one before it
abbrev pub shorter_in : List (List ℤ) → ℕ → Bool
shorter_in g k = lt_z (nth (get_or g k []) k) (nth (get_or g (k - 1) []) (k - 1))

module _ {K : Kind} {rows : List Row} {g b u v : List (List ℤ)} (t : Tied K rows g b u v) (n j : ℕ) (h : j + 1 < n) (l : n ≤ length rows) where
  longer-is : longer rows j ≡ shorter_in g (j + 1)
  longer-is =
      let e : suc j ≡ j + 1 = omega arith in
      let f : j ≡ j + 1 - 1 = omega arith in
      ap₂ (λ k i. lt_z (N (get_or rows k blank).vector) (N (get_or rows i blank).vector)) e f ∙ tied-shorter t (j + 1) (j + 1 - 1) (omega arith) (omega arith)

  pub tied-stop : shorter_in g (j + 1) ≡ false → insert_at j (n - suc j) rows ≡ rows
  tied-stop q =
      let m : n - suc j ≡ suc (n - suc (suc j)) = omega arith in
      rw m (insert_at-suc j (n - suc (suc j)) rows false (longer-is ∙ q))

  pub tied-go : shorter_in g (j + 1) ≡ true → insert_at (j + 1) (n - suc (j + 1)) (exchanged j rows) ≡ insert_at j (n - suc j) rows
  tied-go q =
      let m : n - suc j ≡ suc (n - suc (suc j)) = omega arith in
      let e : j + 1 ≡ suc j = omega arith in
      rw (e, m) (sym (insert_at-suc j (n - suc (suc j)) rows true (longer-is ∙ q)))

-- in the loop: the tables belong to some rows, of which the rest of the insertion gives the whole
pub record Left (K : Kind) (i j n : ℕ) (rows : List Row) (g b u v : List (List ℤ)) : Type 0 where
  pub now : List Row
  pub tied : Tied K now g b u v
  pub same : insert_at j (n - suc j) now ≡ insert_at i (n - suc i) rows

-- every row of V has a number for each row
pub tied-wide : {K : Kind} {rows : List Row} {g b u v : List (List ℤ)} → Tied K rows g b u v → Coordinates (length rows) v
unfolding transposed
tied-wide {rows = rows} t = subst (Coordinates (length rows)) t.vs (column 0, (column 1, (column 2, (column 3, tt))))
  where
    column : (i : ℕ) → length (map (λ r. nth r i) (map (λ r. r.v) rows)) ≡ length rows
    column i = length-map (map (λ r. r.v) rows) (λ r. nth r i) ∙ length-map rows (λ r. r.v)
