-- Both tables of the greedy reduction are exact, as equations of lists: U·inputs = vectors, V·vectors = inputs, V·U = 1.
use Rattle.std.specs.Prelude.{◌≡◌, List, [], ◌∷◌, map, ℕ, zero, suc, ◌+◌, ◌≤◌, ◌<◌, ℤ, ◌+ℤ◌, get_or, drop}
use Rattle.std.proofs.Math.Path.{refl, sym, ap}
use Rattle.std.proofs.Common.{ap₂, ◌∙◌, subst, arith, drop_of_length-le, drop-cons}
use Rattle.std.proofs.Math.ListN.{length}
use Rattle.std.proofs.lemmas.List.{length-map}
use Rattle.integers.specs.ListLaws.{length-⊕, length-⊙}
use Rattle.lattices.specs.Vector.{Vec, nth, dot, ◌⊙◌, comb}
use Rattle.lattices.specs.Laws.Vector.{≈-≡, nil-dot, dot-⊕, dot-⊙}
use Rattle.lattices.specs.Greedy.{Row, vectors, units, start, reduction}
use Rattle.lattices.specs.Answer.{row_of_v, rows_of_v}
use Rattle.greedy_reduction.specs.Moves.{Moves, moves-length, greedy-moves, length-vectors}
use Rattle.integers.specs.All.{All}
use Rattle.greedy_reduction.specs.Tables.{Exact, moves_exact, spread, Linear, moves-spread}
use Rattle.greedy_reduction.specs.Start.{Sized, Coordinates, comb-places, sized-vectors, sized-us, moves-sized, sized-start, exact_start, spread-start, start-vectors, start-us, length-units, units-coordinates}

pub comb-full : (m : ℕ) (x : List ℤ) (bs : List Vec) → Coordinates m bs → length x ≡ length bs → 1 ≤ length bs → length (comb x bs) ≡ m
unfolding comb
comb-full m x [] h e s = absurd (omega arith)
comb-full m [] (b ∷ bs) h e s = absurd (omega arith)
comb-full m (x ∷ xs) (b ∷ bs) h e s = omega (arith, length-⊕ (x ⊙ b) (comb xs bs), length-⊙ x b, h.0, comb-places m xs bs h.1)

u_exact : (m : ℕ) (bs : List Vec) → Coordinates m bs → 1 ≤ length bs → (rows : List Row) → All (Sized m (length bs)) rows → Exact bs rows
    → map (λ u. comb u bs) (map (λ r. r.u) rows) ≡ vectors rows
u_exact m bs h s [] z e = refl
u_exact m bs h s (r ∷ rows) z e = ap₂ ◌∷◌
    (≈-≡ (comb r.u bs) r.vector (comb-full m r.u bs h z.0.u s ∙ sym z.0.vector) e.0) (u_exact m bs h s rows z.1 e.1)

pub comb-spread : (f : Row → Vec) (i : ℕ) (rows : List Row) (w : Vec) → dot (comb (row_of_v rows i) (map f rows)) w ≡ spread f i rows w
unfolding comb
comb-spread f i [] w = nil-dot w
comb-spread f i (r ∷ rows) w = dot-⊕ (nth r.v i ⊙ f r) (comb (row_of_v rows i) (map f rows)) w ∙ ap₂ ◌+ℤ◌ (dot-⊙ (nth r.v i) (f r) w) (comb-spread f i rows w)

pub coordinates-at : (m : ℕ) (gs : List Vec) → Coordinates m gs → (i : ℕ) → i < length gs → length (get_or gs i []) ≡ m
coordinates-at m [] h i k = absurd (omega arith)
coordinates-at m (g ∷ gs) h zero k = h.0
coordinates-at m (g ∷ gs) h (suc i) k = coordinates-at m gs h.1 i (omega arith)

-- row by row, from row i on, the rows of V give the vectors gs
v_exact : (m : ℕ) (f : Row → Vec) (gs : List Vec) → Coordinates m gs → (rows : List Row) → Coordinates m (map f rows) → 1 ≤ length rows
    → ((i : ℕ) (w : Vec) → spread f i rows w ≡ dot (get_or gs i []) w) → (i n : ℕ) → i + n ≡ length gs
    → map (λ x. comb x (map f rows)) (rows_of_v rows i n) ≡ drop i gs
v_exact m f gs h rows k s e i zero q = sym (drop_of_length-le gs {i = i} (omega arith))
v_exact m f gs h rows k s e i (suc n) q =
    ap₂ ◌∷◌ (≈-≡ (comb (row_of_v rows i) (map f rows)) (get_or gs i []) places (record { on = λ w. comb-spread f i rows w ∙ e i w }))
    (v_exact m f gs h rows k s e (suc i) n (omega arith)) ∙ sym (drop-cons gs i [] (omega arith))
  where
    places : length (comb (row_of_v rows i) (map f rows)) ≡ length (get_or gs i [])
    places = comb-full m (row_of_v rows i) (map f rows) k (length-map rows (λ r. nth r.v i) ∙ sym (length-map rows f)) (subst (λ n. 1 ≤ n) (sym (length-map rows f)) s)
        ∙ sym (coordinates-at m gs h i (omega arith))

pub vector-linear : Linear (λ r. r.vector)
vector-linear = record { blind = λ r v. refl; linear = λ x rows r. refl }

u-linear : Linear (λ r. r.u)
u-linear = record { blind = λ r v. refl; linear = λ x rows r. refl }

-- ---- the reduction of a list of at least one vector, of m coordinates each
module _ (m : ℕ) (bs : List Vec) (full : Coordinates m bs) (some : 1 ≤ length bs) where
  abbrev pub rows : List Row
  rows = (reduction bs).rows

  unfoldable pub begin : List Row
  begin = start bs (units (length bs))

  pub length-begin : length begin ≡ length bs
  unfolding begin
  length-begin = sym (length-vectors (start bs (units (length bs)))) ∙ ap length (start-vectors bs (units (length bs)) (length-units (length bs)))

  pub moved : Moves begin rows
  unfolding begin
  moved = greedy-moves (length bs) (start bs (units (length bs))) length-begin

  -- the list has as many vectors as before
  pub reduction-length : length (reduction bs).rows ≡ length bs
  reduction-length = sym (moves-length moved) ∙ length-begin

  pub reduction-sized : All (Sized m (length bs)) (reduction bs).rows
  unfolding begin
  reduction-sized = moves-sized m (length bs) moved (sized-start m bs full)

  -- U·inputs = vectors
  pub reduction-u : map (λ u. comb u bs) (map (λ r. r.u) (reduction bs).rows) ≡ vectors (reduction bs).rows
  unfolding begin
  reduction-u = u_exact m bs full some rows reduction-sized (moves_exact bs moved (exact_start bs))

  -- V·vectors = inputs
  pub reduction-v : map (λ x. comb x (vectors (reduction bs).rows)) (rows_of_v (reduction bs).rows 0 (length bs)) ≡ bs
  unfolding begin
  reduction-v = v_exact m (λ r. r.vector) bs full rows (sized-vectors m (length bs) rows reduction-sized) (omega (arith, reduction-length))
      (λ i w. sym (moves-spread (λ r. r.vector) vector-linear i moved w) ∙ spread-start (λ r. r.vector) bs bs (start-vectors bs (units (length bs)) (length-units (length bs))) refl i w)
      0 (length bs) (omega arith)

  -- V·U is the unit table
  pub reduction_vu : map (λ x. comb x (map (λ r. r.u) (reduction bs).rows)) (rows_of_v (reduction bs).rows 0 (length bs)) ≡ units (length bs)
  unfolding begin
  reduction_vu = v_exact (length bs) (λ r. r.u) (units (length bs)) (units-coordinates (length bs)) rows (sized-us m (length bs) rows reduction-sized) (omega (arith, reduction-length))
      (λ i w. sym (moves-spread (λ r. r.u) u-linear i moved w) ∙ spread-start (λ r. r.u) bs (units (length bs)) (start-us bs (units (length bs)) (length-units (length bs))) (length-units (length bs)) i w)
      0 (length bs) (omega (arith, length-units (length bs)))
