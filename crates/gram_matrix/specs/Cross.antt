-- Row and column k of the Gram matrix after a pass: the row that the search leaves, with its own entry k lowered once more.
use Rattle.std.specs.Prelude.{◌≡◌, refl, ℕ, zero, suc, ◌≤◌, ◌<◌, ℤ, pos, ◌+ℤ◌, ◌-ℤ◌, ◌*ℤ◌, get_or, set, take}
use Rattle.std.proofs.Math.Path.{sym}
use Rattle.std.proofs.Common.{ap, ap₂, ◌∙◌, arith, length-take, get_or-set_same, get_or-set_other, set-set, get_or-take}
use mathlib.Core.List.{List, [], ◌∷◌, map}
use Rattle.std.proofs.Math.Decide.{dec_lt, ℕ_discrete}
use Rattle.std.proofs.Math.ListN.{length, length-set, get_or-eq_default}
use Rattle.std.proofs.lemmas.List.{length-map}
use Rattle.std.proofs.Math.Seq.{ext_get_or}
use Rattle.integers.specs.Identity.{by_ring, reads}
use Rattle.integers.specs.AllLaws.{get_d_map}
use Rattle.integers.specs.Ring.{negsuc-zero-*ℤ}
use Rattle.integers.specs.ListLaws.{entries}
use Rattle.lattices.specs.Vector.{nth, dot, comb, ◌⊖◌}
use Rattle.lattices.specs.Laws.Vector.{≈_refl, ≈-dot, nth-≈}
use Rattle.row_operations.specs.Dot.{dot-suc}
use Rattle.gram_matrix.specs.Gram.{losing, losing_entry, nth-comb}
use Rattle.gram_matrix.specs.Columns.{nth-column}

-- entry k of row i is entry i of r
unfoldable pub entered : ℕ → List ℤ → List (List ℤ) → List (List ℤ)
entered k r [] = []
entered k [] (row ∷ g) = set row k (pos 0) ∷ entered k [] g
entered k (z ∷ r) (row ∷ g) = set row k z ∷ entered k r g

pub get_d_entered : (k : ℕ) (r : List ℤ) (g : List (List ℤ)) (i : ℕ) → get_or (entered k r g) i [] ≡ set (get_or g i []) k (nth r i)
unfolding entered
get_d_entered k r [] i = refl
get_d_entered k [] (row ∷ g) zero = refl
get_d_entered k [] (row ∷ g) (suc i) = get_d_entered k [] g i
get_d_entered k (z ∷ r) (row ∷ g) zero = refl
get_d_entered k (z ∷ r) (row ∷ g) (suc i) = get_d_entered k r g i

pub length-entered : (k : ℕ) (r : List ℤ) (g : List (List ℤ)) → length (entered k r g) ≡ length g
unfolding entered
length-entered k r [] = refl
length-entered k [] (row ∷ g) = ap suc (length-entered k [] g)
length-entered k (z ∷ r) (row ∷ g) = ap suc (length-entered k r g)

-- and row k is r with its entry k lowered
abbrev pub crossed : List ℤ → ℕ → List ℤ → List (List ℤ) → List (List ℤ)
crossed x k r g = set (entered k r g) k (losing_entry x k r)

-- coefficients that are 0 from k on weigh nothing there
pub dot-behind : (n k : ℕ) (x r : List ℤ) → ((i : ℕ) → k ≤ i → nth x i ≡ pos 0) → k ≤ n → dot (take n x) (take n r) ≡ dot (take k x) (take k r)
dot-behind zero k x r z h = let e : zero ≡ k = omega arith in ap (λ i. dot (take i x) (take i r)) e
dot-behind (suc n) k x r z h = pick (dec_lt n k) (dot-behind n k x r z)
  where
    nothing : (a b : ℤ) → a +ℤ pos 0 *ℤ b ≡ a
    nothing a b = by_ring (a ∷ b ∷ []) (search reads) (search reads) tt

    pick : Dec (n < k) → (k ≤ n → dot (take n x) (take n r) ≡ dot (take k x) (take k r)) → dot (take (suc n) x) (take (suc n) r) ≡ dot (take k x) (take k r)
    pick (yes l) q = let e : suc n ≡ k = omega arith in ap (λ i. dot (take i x) (take i r)) e
    pick (no l) q = let m : k ≤ n = omega (arith, l) in dot-suc n x r ∙ ap (λ y. dot (take n x) (take n r) +ℤ y *ℤ nth r n) (z n m) ∙ nothing (dot (take n x) (take n r)) (nth r n) ∙ q m

-- the row stored, and then its entry k
pub stored : (t : List (List ℤ)) (k : ℕ) (r : List ℤ) (z : ℤ) → k < length t → set (set t k r) k (set (get_or (set t k r) k []) k z) ≡ set t k (set r k z)
stored t k r z h = set-set t k r (set (get_or (set t k r) k []) k z) ∙ ap (λ l. set t k (set l k z)) (get_or-set_same t k r [] h)

-- ---- where the table is symmetric, this is the loss of rows and entries
module _ (g : List (List ℤ)) (symmetric : (i j : ℕ) → nth (get_or g i []) j ≡ nth (get_or g j []) i) (x : List ℤ) (k : ℕ) (h : k < length g) where
  r : List ℤ
  r = get_or g k [] ⊖ comb x (take k g)

  -- the entries of row i before place k are those of column i
  column : (i j : ℕ) → nth (take k (get_or g i [])) j ≡ nth (map (λ t. nth t i) (take k g)) j
  column i j = pick (dec_lt j k)
    where
      pick : Dec (j < k) → nth (take k (get_or g i [])) j ≡ nth (map (λ t. nth t i) (take k g)) j
      pick (yes l) = get_or-take k (get_or g i []) j (pos 0) l ∙ symmetric i j ∙ ap (λ t. nth t i) (sym (get_or-take k g j [] l)) ∙ sym (nth-column i j (take k g))
      pick (no l) = get_or-eq_default (take k (get_or g i [])) (pos 0) (omega (arith, length-take k (get_or g i []), l))
          ∙ sym (nth-column i j (take k g) ∙ ap (λ t. nth t i) (get_or-eq_default (take k g) [] (omega (arith, length-take k g, l))))

  entry : (i : ℕ) → nth r i ≡ nth (get_or g i []) k -ℤ dot x (take k (get_or g i []))
  unfolding r
  entry i = simp (entries, negsuc-zero-*ℤ)
      (ap₂ (λ a b. a -ℤ b) (symmetric k i) (nth-comb x (take k g) i ∙ sym (≈-dot (≈_refl {u = x}) (nth-≈ (take k (get_or g i [])) (map (λ t. nth t i) (take k g)) (column i)))))

  row : (i : ℕ) → i < length g → get_or (crossed x k r g) i [] ≡ get_or (map (losing_entry x k) (losing x g k)) i []
  unfolding r
  row i l = pick (ℕ_discrete i k)
    where
      q : i < length (losing x g k)
      q = omega (arith, length-set g k (get_or g k [] ⊖ comb x (take k g)))

      pick : Dec (i ≡ k) → get_or (crossed x k (get_or g k [] ⊖ comb x (take k g)) g) i [] ≡ get_or (map (losing_entry x k) (losing x g k)) i []
      pick (yes e) = rw e (get_or-set_same (entered k (get_or g k [] ⊖ comb x (take k g)) g) k (losing_entry x k (get_or g k [] ⊖ comb x (take k g))) [] (omega (arith, length-entered k (get_or g k [] ⊖ comb x (take k g)) g))
          ∙ sym (get_d_map (losing_entry x k) (losing x g k) [] [] k (omega (arith, length-set g k (get_or g k [] ⊖ comb x (take k g)))) ∙ ap (losing_entry x k) (get_or-set_same g k (get_or g k [] ⊖ comb x (take k g)) [] h)))
      pick (no e) = get_or-set_other (entered k (get_or g k [] ⊖ comb x (take k g)) g) k i (losing_entry x k (get_or g k [] ⊖ comb x (take k g))) [] e
          ∙ get_d_entered k (get_or g k [] ⊖ comb x (take k g)) g i ∙ ap (set (get_or g i []) k) (entry i)
          ∙ sym (get_d_map (losing_entry x k) (losing x g k) [] [] i q ∙ ap (losing_entry x k) (get_or-set_other g k i (get_or g k [] ⊖ comb x (take k g)) [] e))

  pub crossed-is : crossed x k (get_or g k [] ⊖ comb x (take k g)) g ≡ map (losing_entry x k) (losing x g k)
  unfolding r
  crossed-is = ext_get_or [] (crossed x k (get_or g k [] ⊖ comb x (take k g)) g) (map (losing_entry x k) (losing x g k))
      (same_length ∙ sym (length-map (losing x g k) (losing_entry x k) ∙ length-set g k (get_or g k [] ⊖ comb x (take k g))))
      (λ i l. row i (omega (arith, same_length)))
    where
      same_length : length (crossed x k (get_or g k [] ⊖ comb x (take k g)) g) ≡ length g
      same_length = length-set (entered k (get_or g k [] ⊖ comb x (take k g)) g) k (losing_entry x k (get_or g k [] ⊖ comb x (take k g))) ∙ length-entered k (get_or g k [] ⊖ comb x (take k g)) g
