-- The reduction generates the lattice of its input and no other, and U·V is the unit table too.
use Rattle.std.specs.Prelude.{◌≡◌, refl, ◌↔◌, List, [], ◌∷◌, map, ℕ, zero, suc, ◌≤◌, ◌<◌, ℤ, negsuc, ◌+ℤ◌, ◌*ℤ◌, ◌<ℤ◌, length, get_or}
use Rattle.std.proofs.Common.{sym, ap, ap₂, ◌∙◌, subst, arith, ext_get_or}
use Rattle.std.proofs.Math.IntN.{pos}
use Rattle.std.proofs.lemmas.List.{length-map}
use Rattle.integers.specs.Ring.{ -ℤ-zero}
use Rattle.integers.specs.Identity.{by_ring, reads}
use Rattle.integers.specs.All.{All}
use Rattle.integers.specs.AllLaws.{all-places, get_d_map}
use Rattle.integers.specs.ListLaws.{nth-⊕, nth-⊙}
use Rattle.lattices.specs.Vector.{Vec, nth, dot, ◌⊙◌, ◌⊖◌, comb, Zero, In}
use Rattle.lattices.specs.Laws.Vector.{◌≈◌, ≈_refl, ≈_sym, ≈_trans, ≈_of_≡, ≈-⊕, ≈-≡, ≈-Zero, nil-dot, bilinear, comb-⊕, comb-⊙}
use Rattle.lattices.specs.Volume.{squared_volume}
use Rattle.lattices.specs.Greedy.{Row, vectors, units, reduction}
use Rattle.lattices.specs.Answer.{rows_of_v}
use Rattle.exterior_algebra.specs.Dependence.{zero_coefficient}
use Rattle.successive_minima.specs.Reduced.{Reduced}
use Rattle.greedy_reduction.specs.Moves.{length-vectors}
use Rattle.greedy_reduction.specs.Start.{Coordinates, unit-comb, start-vectors, length-units, units-coordinates, sized-vectors, sized-us}
use Rattle.greedy_reduction.specs.Exactness.{comb-full, coordinates-at, begin, moved, length-begin, reduction-length, reduction-sized, reduction-u, reduction-v}
use Rattle.greedy_reduction.specs.Kept.{moves_keep}
use Rattle.greedy_reduction.specs.Output.{greedy-reduced}

-- ---- a combination of combinations
pub comb-comb : (x : List ℤ) (t : List (List ℤ)) (gs : List Vec) → comb (comb x t) gs ≈ comb x (map (λ y. comb y gs) t)
unfolding comb
comb-comb [] t gs = ≈_refl
comb-comb (x ∷ xs) [] gs = ≈_refl
comb-comb (x ∷ xs) (y ∷ t) gs = ≈_trans (comb-⊕ (x ⊙ y) (comb xs t) gs) (≈-⊕ (comb-⊙ x y gs) (comb-comb xs t gs))

map-coordinates : (m : ℕ) (gs : List Vec) → Coordinates m gs → 1 ≤ length gs → (t : List (List ℤ)) → Coordinates (length gs) t → Coordinates m (map (λ y. comb y gs) t)
map-coordinates m gs h s [] k = tt
map-coordinates m gs h s (y ∷ t) k = (comb-full m y gs h k.0 s, map-coordinates m gs h s t k.1)

-- a lattice whose generators are combinations of gs lies in the lattice of gs
pub through : (m : ℕ) (gs : List Vec) → Coordinates m gs → 1 ≤ length gs → (t : List (List ℤ)) → Coordinates (length gs) t → 1 ≤ length t
    → (v : Vec) → In (map (λ y. comb y gs) t) v → In gs v
through m gs h s t k n v i = record {
  coefficients = comb i.coefficients t;
  count = comb-full (length gs) i.coefficients t k count n;
  gives = ≈-≡ (comb (comb i.coefficients t) gs) (comb i.coefficients (map (λ y. comb y gs) t))
      (comb-full m (comb i.coefficients t) gs h (comb-full (length gs) i.coefficients t k count n) s
      ∙ sym (comb-full m i.coefficients (map (λ y. comb y gs) t) (map-coordinates m gs h s t k) i.count (subst (λ l. 1 ≤ l) (sym (length-map t (λ y. comb y gs))) n)))
      (comb-comb i.coefficients t gs) ∙ i.gives;
}
  where
    count : length i.coefficients ≡ length t
    count = i.count ∙ length-map t (λ y. comb y gs)

-- every vector of a list is in its lattice
pub generators : (m : ℕ) (gs : List Vec) → Coordinates m gs → All (In gs) gs
generators m gs h = all-places (In gs) gs [] (λ k l. record {
  coefficients = get_or (units (length gs)) k [];
  count = coordinates-at (length gs) (units (length gs)) (units-coordinates (length gs)) k (omega (arith, length-units (length gs)));
  gives = ≈-≡ (comb (get_or (units (length gs)) k []) gs) (get_or gs k [])
      (comb-full m (get_or (units (length gs)) k []) gs h (coordinates-at (length gs) (units (length gs)) (units-coordinates (length gs)) k (omega (arith, length-units (length gs)))) (omega arith)
      ∙ sym (coordinates-at m gs h k l))
      (unit-comb gs k l);
})

-- the coefficients of vectors of a lattice, row by row
pub tabled : (gs vs : List Vec) → All (In gs) vs → (t : List (List ℤ)) × Coordinates (length gs) t × (map (λ y. comb y gs) t ≡ vs)
tabled gs [] h = ([], tt, refl)
tabled gs (v ∷ vs) h = let r = tabled gs vs h.1 in (h.0.coefficients ∷ r.0, (h.0.count, r.1), ap₂ ◌∷◌ h.0.gives r.2)

-- a lattice holds that of any of its vectors
pub generated : (m : ℕ) (gs vs : List Vec) → Coordinates m gs → 1 ≤ length gs → 1 ≤ length vs → All (In gs) vs → (v : Vec) → In vs v → In gs v
generated m gs vs h s n p v i =
    let r = tabled gs vs p in
    through m gs h s r.0 r.1 (omega (arith, length-map r.0 (λ y. comb y gs), ap length r.2)) v (subst (λ l. In l v) (sym r.2) i)

pub rows-of-v : (rows : List Row) (i n : ℕ) → Coordinates (length rows) (rows_of_v rows i n)
rows-of-v rows i zero = tt
rows-of-v rows i (suc n) = (length-map rows (λ r. nth r.v i), rows-of-v rows (suc i) n)

pub length-rows_of_v : (rows : List Row) (i n : ℕ) → length (rows_of_v rows i n) ≡ n
length-rows_of_v rows i zero = refl
length-rows_of_v rows i (suc n) = ap suc (length-rows_of_v rows (suc i) n)

-- ---- coefficients on a list of positive volume are unique
unique : (m : ℕ) (bs : List Vec) → pos 0 <ℤ squared_volume m bs → (x y : List ℤ) → length x ≡ length bs → length y ≡ length bs → comb x bs ≈ comb y bs → x ≡ y
unique m bs h x y e f k = ext_get_or (pos 0) x y (e ∙ sym f) (λ i l. entry i (omega arith))
  where
    vanishing : Zero (comb (x ⊖ y) bs)
    vanishing = ≈-Zero (record {
      on = λ w. (comb-⊕ x (negsuc 0 ⊙ y) bs).on w
          ∙ simp (bilinear, (comb-⊙ (negsuc 0) y bs).on w, k.on w) (by_ring (dot (comb y bs) w ∷ []) (search reads) (search reads) tt) ∙ sym (nil-dot w);
    })

    entry : (i : ℕ) → i < length bs → nth x i ≡ nth y i
    entry i l = -ℤ-zero (nth x i) (nth y i)
        (by_ring (nth x i ∷ nth y i ∷ []) {y = nth x i +ℤ negsuc 0 *ℤ nth y i} (search reads) (search reads) tt
        ∙ ap (λ s. nth x i +ℤ s) (sym (nth-⊙ (negsuc 0) y i)) ∙ sym (nth-⊕ x (negsuc 0 ⊙ y) i) ∙ zero_coefficient m bs h (x ⊖ y) vanishing i l)

-- ---- the reduction of one to four vectors of m coordinates each with positive squared volume
module _ (m : ℕ) (bs : List Vec) (full : Coordinates m bs) (some : 1 ≤ length bs) where
  abbrev outs : List Vec
  outs = vectors (reduction bs).rows

  pub reduced-count : length (vectors (reduction bs).rows) ≡ length bs
  reduced-count = length-vectors (reduction bs).rows ∙ reduction-length m bs full some

  pub reduced-full : Coordinates m (vectors (reduction bs).rows)
  reduced-full = sized-vectors m (length bs) (reduction bs).rows (reduction-sized m bs full some)

  v-full : Coordinates (length outs) (rows_of_v (reduction bs).rows 0 (length bs))
  v-full = subst (λ n. Coordinates n (rows_of_v (reduction bs).rows 0 (length bs))) (sym (length-vectors (reduction bs).rows)) (rows-of-v (reduction bs).rows 0 (length bs))

  -- the vectors given generate the lattice of the input and no other
  pub reduction-lattice : (v : Vec) → In bs v ↔ In (vectors (reduction bs).rows) v
  reduction-lattice v = (
    (λ i. through m outs reduced-full (omega (arith, reduced-count)) (rows_of_v (reduction bs).rows 0 (length bs)) v-full (omega (arith, length-rows_of_v (reduction bs).rows 0 (length bs))) v
        (subst (λ l. In l v) (sym (reduction-v m bs full some)) i)),
    (λ i. through m bs full some (map (λ r. r.u) (reduction bs).rows) (sized-us m (length bs) (reduction bs).rows (reduction-sized m bs full some))
        (omega (arith, length-map (reduction bs).rows (λ r. r.u), reduction-length m bs full some)) v (subst (λ l. In l v) (sym (reduction-u m bs full some)) i)),
  )

  module _ (four : length bs ≤ 4) (volume : pos 0 <ℤ squared_volume m bs) where
    begin-vectors : vectors (begin m bs full some) ≡ bs
    unfolding begin
    begin-vectors = start-vectors bs (units (length bs)) (length-units (length bs))

    pub reduction-volume : pos 0 <ℤ squared_volume m (vectors (reduction bs).rows)
    reduction-volume = subst (λ s. pos 0 <ℤ s) (ap (squared_volume m) (sym begin-vectors) ∙ moves_keep m (moved m bs full some)) volume

    pub reduction-reduced : Reduced (vectors (reduction bs).rows)
    unfolding begin
    reduction-reduced = greedy-reduced m (length bs) four (begin m bs full some) (length-begin m bs full some) (subst (λ l. pos 0 <ℤ squared_volume m l) (sym begin-vectors) volume)

    abbrev table-v : List (List ℤ)
    table-v = rows_of_v (reduction bs).rows 0 (length bs)

    abbrev table-u : List (List ℤ)
    table-u = map (λ r. r.u) (reduction bs).rows

    table-u-count : length table-u ≡ length bs
    table-u-count = length-map (reduction bs).rows (λ r. r.u) ∙ reduction-length m bs full some

    -- row k of U gives vector k
    row_of_u : (k : ℕ) → k < length bs → comb (get_or table-u k []) bs ≡ get_or outs k []
    row_of_u k h = sym (get_d_map (λ u. comb u bs) table-u [] [] k (omega (arith, table-u-count))) ∙ ap (λ l. get_or l k []) (reduction-u m bs full some)

    row_of_uv : (k : ℕ) → k < length bs → comb (get_or table-u k []) table-v ≡ get_or (units (length bs)) k []
    row_of_uv k h = unique m outs reduction-volume (comb (get_or table-u k []) table-v) (get_or (units (length bs)) k [])
        (comb-full (length outs) (get_or table-u k []) table-v v-full
        (coordinates-at (length bs) table-u (sized-us m (length bs) (reduction bs).rows (reduction-sized m bs full some)) k (omega (arith, table-u-count))
        ∙ sym (length-rows_of_v (reduction bs).rows 0 (length bs)))
        (omega (arith, length-rows_of_v (reduction bs).rows 0 (length bs))))
        (coordinates-at (length bs) (units (length bs)) (units-coordinates (length bs)) k (omega (arith, length-units (length bs))) ∙ sym reduced-count)
        (≈_trans (comb-comb (get_or table-u k []) table-v outs)
        (≈_trans (≈_of_≡ (ap (comb (get_or table-u k [])) (reduction-v m bs full some) ∙ row_of_u k h))
        (≈_sym (subst (λ n. comb (get_or (units n) k []) outs ≈ get_or outs k []) reduced-count (unit-comb outs k (omega (arith, reduced-count)))))))

    -- U·V is the unit table
    pub reduction_uv : map (λ u. comb u (rows_of_v (reduction bs).rows 0 (length bs))) (map (λ r. r.u) (reduction bs).rows) ≡ units (length bs)
    reduction_uv = ext_get_or [] (map (λ u. comb u table-v) table-u) (units (length bs)) (length-map table-u (λ u. comb u table-v) ∙ table-u-count ∙ sym (length-units (length bs)))
        (λ k h. get_d_map (λ u. comb u table-v) table-u [] [] k (omega (arith, length-map table-u (λ u. comb u table-v))) ∙ row_of_uv k (omega (arith, length-map table-u (λ u. comb u table-v), table-u-count)))
