-- A pass on the tables: what they are when row k has lost the combination x of the rows before it.
use Rattle.std.specs.Prelude.{◌≡◌, refl, List, [], ◌∷◌, map, ℕ, zero, suc, ◌<◌, ℤ, pos, negsuc, ◌+ℤ◌, ◌-ℤ◌, ◌*ℤ◌, ◌<ℤ◌, length, get_or, set, take}
use Rattle.std.proofs.Common.{sym, ap, ap₂, ◌∙◌, arith, get_or-set_same}
use Rattle.std.proofs.Math.Path.{fun_ext}
use Rattle.std.proofs.lemmas.Simd.{map-map}
use Rattle.std.proofs.lemmas.List.{length-map}
use Rattle.integers.specs.Identity.{by_ring, reads}
use Rattle.integers.specs.Order.{≤ℤ_antisymm, ≤ℤ_of_≡, *ℤ-cancel-≤}
use Rattle.integers.specs.AllLaws.{take-map}
use Rattle.integers.specs.ListLaws.{same, nth-⊕, nth-⊙, length-⊕, length-⊙}
use Rattle.lattices.specs.Vector.{Vec, nth, dot, comb, ◌⊕◌, ◌⊙◌, ◌⊖◌}
use Rattle.lattices.specs.Laws.Vector.{dot-⊙ʳ, dot_comm, dot-nil, against}
use Rattle.lattices.specs.Greedy.{Row, vectors}
use Rattle.row_operations.specs.Rows.{gained, transposed}
use Rattle.gram_matrix.specs.Gram.{gram_of, gram-losing, rows-losing, losing, losing_entry, map-set, nth-against}
use Rattle.gram_matrix.specs.Tied.{Kind, Tied, scaled, bit, scaled-row, tied-length-gram}
use Rattle.gram_matrix.specs.Columns.{gained_columns, transposed-gained}
use Rattle.gram_matrix.specs.Cross.{crossed, crossed-is}

-- ---- every entry of the Gram matrix, beyond the last too
pub gram-row : (bs ds : List Vec) (i j : ℕ) → nth (get_or (map (against bs) ds) i []) j ≡ dot (get_or bs j []) (get_or ds i [])
gram-row bs [] i j = sym (dot-nil (get_or bs j []))
gram-row bs (d ∷ ds) zero j = nth-against bs d j
gram-row bs (d ∷ ds) (suc i) j = gram-row bs ds i j

pub tied-entry : {K : Kind} {rows : List Row} {g b u v : List (List ℤ)} → Tied K rows g b u v → (i j : ℕ) → K.factor *ℤ nth (get_or g i []) j ≡ dot (get_or (vectors rows) j []) (get_or (vectors rows) i [])
tied-entry {K} {rows} {g} t i j = sym (ap (λ r. nth r j) (scaled-row K.factor g i) ∙ nth-⊙ K.factor (get_or g i []) j) ∙ ap (λ l. nth (get_or l i []) j) (sym t.gram) ∙ gram-row (vectors rows) (vectors rows) i j

cancel : {c x y : ℤ} → pos 0 <ℤ c → c *ℤ x ≡ c *ℤ y → x ≡ y
cancel h e = ≤ℤ_antisymm (*ℤ-cancel-≤ h (≤ℤ_of_≡ e)) (*ℤ-cancel-≤ h (≤ℤ_of_≡ (sym e)))

pub tied_symmetric : {K : Kind} {rows : List Row} {g b u v : List (List ℤ)} → Tied K rows g b u v → (i j : ℕ) → nth (get_or g i []) j ≡ nth (get_or g j []) i
tied_symmetric {rows = rows} t i j = cancel t.positive (tied-entry t i j ∙ dot_comm (get_or (vectors rows) j []) (get_or (vectors rows) i []) ∙ sym (tied-entry t j i))

-- ---- a factor goes through rows and entries
⊙-⊕ : (F : ℤ) (u v : Vec) → F ⊙ (u ⊕ v) ≡ F ⊙ u ⊕ F ⊙ v
⊙-⊕ F u v = same
    (length-⊙ F (u ⊕ v) ∙ length-⊕ u v ∙ sym (length-⊕ (F ⊙ u) (F ⊙ v) ∙ omega (arith, length-⊙ F u, length-⊙ F v)))
    (λ i. nth-⊙ F (u ⊕ v) i ∙ ap (λ z. F *ℤ z) (nth-⊕ u v i) ∙ distribute (nth u i) (nth v i) ∙ sym (nth-⊕ (F ⊙ u) (F ⊙ v) i ∙ ap₂ ◌+ℤ◌ (nth-⊙ F u i) (nth-⊙ F v i)))
  where
    distribute : (a b : ℤ) → F *ℤ (a +ℤ b) ≡ F *ℤ a +ℤ F *ℤ b
    distribute a b = by_ring (F ∷ a ∷ b ∷ []) (search reads) (search reads) tt

⊙-⊙ : (F k : ℤ) (u : Vec) → F ⊙ (k ⊙ u) ≡ k ⊙ (F ⊙ u)
unfolding ◌⊙◌
⊙-⊙ F k [] = refl
⊙-⊙ F k (x ∷ u) = ap₂ ◌∷◌ (swap F k x) (⊙-⊙ F k u)
  where
    swap : (F k x : ℤ) → F *ℤ (k *ℤ x) ≡ k *ℤ (F *ℤ x)
    swap F k x = by_ring (F ∷ k ∷ x ∷ []) (search reads) (search reads) tt

⊙-comb : (F : ℤ) (x : List ℤ) (t : List Vec) → F ⊙ comb x t ≡ comb x (map (λ r. F ⊙ r) t)
unfolding comb ◌⊙◌
⊙-comb F [] t = refl
⊙-comb F (x ∷ xs) [] = refl
⊙-comb F (x ∷ xs) (r ∷ t) = ⊙-⊕ F (x ⊙ r) (comb xs t) ∙ ap₂ ◌⊕◌ (⊙-⊙ F x r) (⊙-comb F xs t)

losing-⊙ : (F : ℤ) (x : List ℤ) (g : List (List ℤ)) (k : ℕ) → losing x (map (λ r. F ⊙ r) g) k ≡ map (λ r. F ⊙ r) (losing x g k)
losing-⊙ F x g k =
    ap (set (map (λ r. F ⊙ r) g) k) (ap₂ (λ a l. a ⊖ comb x l) (scaled-row F g k) (take-map (λ r. F ⊙ r) k g)
    ∙ ap (λ v. F ⊙ get_or g k [] ⊖ v) (sym (⊙-comb F x (take k g)))
    ∙ sym (⊙-⊕ F (get_or g k []) (negsuc 0 ⊙ comb x (take k g)) ∙ ap (λ v. F ⊙ get_or g k [] ⊕ v) (⊙-⊙ F (negsuc 0) (comb x (take k g)))))
    ∙ sym (map-set (λ r. F ⊙ r) g k (get_or g k [] ⊖ comb x (take k g)))

take-⊙ : (F : ℤ) (k : ℕ) (r : Vec) → take k (F ⊙ r) ≡ F ⊙ take k r
unfolding ◌⊙◌
take-⊙ F zero r = refl
take-⊙ F (suc k) [] = refl
take-⊙ F (suc k) (x ∷ r) = ap (λ l. (F *ℤ x) ∷ l) (take-⊙ F k r)

set-⊙ : (F : ℤ) (r : Vec) (k : ℕ) (z : ℤ) → set (F ⊙ r) k (F *ℤ z) ≡ F ⊙ set r k z
unfolding ◌⊙◌
set-⊙ F [] k z = refl
set-⊙ F (x ∷ r) zero z = refl
set-⊙ F (x ∷ r) (suc k) z = ap (λ l. (F *ℤ x) ∷ l) (set-⊙ F r k z)

entry-⊙ : (F : ℤ) (x : List ℤ) (k : ℕ) (r : Vec) → losing_entry x k (F ⊙ r) ≡ F ⊙ losing_entry x k r
entry-⊙ F x k r = ap (set (F ⊙ r) k) (ap₂ ◌-ℤ◌ (nth-⊙ F r k) (ap (dot x) (take-⊙ F k r) ∙ dot-⊙ʳ F (take k r) x) ∙ out (nth r k) (dot x (take k r))) ∙ set-⊙ F r k (nth r k -ℤ dot x (take k r))
  where
    out : (a b : ℤ) → F *ℤ a -ℤ F *ℤ b ≡ F *ℤ (a -ℤ b)
    out a b = by_ring (F ∷ a ∷ b ∷ []) (search reads) (search reads) tt

-- ---- what is left of row k are the inner products of what is left of vector k, up to the factor
pub tied-left : {K : Kind} {rows : List Row} {g b u v : List (List ℤ)} → Tied K rows g b u v → (k : ℕ) → k < length rows → (x : List ℤ) (j : ℕ)
    → K.factor *ℤ nth (get_or g k [] ⊖ comb x (take k g)) j ≡ dot (get_or (vectors rows) j []) (get_or (vectors rows) k [] ⊖ comb x (take k (vectors rows)))
tied-left {K} {rows} {g} t k h x j =
    sym (nth-⊙ K.factor (get_or g k [] ⊖ comb x (take k g)) j)
    ∙ ap (λ r. nth (K.factor ⊙ r) j) (sym (get_or-set_same g k (get_or g k [] ⊖ comb x (take k g)) [] (omega (arith, tied-length-gram t))))
    ∙ ap (λ r. nth r j) (sym (scaled-row K.factor (losing x g k) k))
    ∙ ap (λ l. nth (get_or l k []) j) (sym (losing-⊙ K.factor x g k) ∙ ap (λ l. losing x l k) (sym t.gram) ∙ rows-losing x (vectors rows) k count)
    ∙ gram-row (vectors rows) (losing x (vectors rows) k) k j
    ∙ ap (dot (get_or (vectors rows) j [])) (get_or-set_same (vectors rows) k (get_or (vectors rows) k [] ⊖ comb x (take k (vectors rows))) [] count)
  where
    count : k < length (vectors rows)
    count = omega (arith, length-map rows (λ r. r.vector))

-- ---- the pass: after the row operations the tables belong to rows that lost and gained alike
pub tied-passed : {K : Kind} {rows : List Row} {g b u v : List (List ℤ)} → Tied K rows g b u v → (k : ℕ) → k < length rows → (x : List ℤ) (after : List Row)
    → vectors after ≡ losing x (vectors rows) k → map (λ r. r.u) after ≡ losing x (map (λ r. r.u) rows) k → map (λ r. r.v) after ≡ gained x (get_or (map (λ r. r.v) rows) k []) (map (λ r. r.v) rows)
    → Tied K after (crossed x k (get_or g k [] ⊖ comb x (take k g)) g) (losing x b k) (losing x u k) (gained_columns x k v)
tied-passed {K} {rows} {g} {b} {u} {v} t k h x after p q r = record {
  positive = t.positive;
  gram = ap gram_of p
      ∙ gram-losing x (vectors rows) k (omega (arith, length-map rows (λ r. r.vector)))
      ∙ ap (λ l. map (losing_entry x k) (losing x l k)) t.gram
      ∙ ap (map (losing_entry x k)) (losing-⊙ K.factor x g k)
      ∙ map-map (losing_entry x k) (λ r. K.factor ⊙ r) (losing x g k) ∙ ap (λ f. map f (losing x g k)) (fun_ext (entry-⊙ K.factor x k)) ∙ sym (map-map (λ r. K.factor ⊙ r) (losing_entry x k) (losing x g k))
      ∙ ap (map (λ r. K.factor ⊙ r)) (sym (crossed-is g (tied_symmetric t) x k long));
  vectors = ap (scaled (bit K.vectors)) p ∙ sym (losing-⊙ (bit K.vectors) x (vectors rows) k) ∙ ap (λ l. losing x l k) t.vectors;
  us = q ∙ ap (λ l. losing x l k) t.us;
  vs = ap transposed r ∙ transposed-gained x k (map (λ r. r.v) rows) ∙ ap (gained_columns x k) t.vs;
}
  where
    long : k < length g
    long = omega (arith, tied-length-gram t)
