-- Sizes on the way of the greedy steps, for one to four vectors of squared length at most 400,000,000 with positive squared volume:
-- no number in U or V passes 20,000⁴, and what a pass adds to a table fits 64 bits term by term.
use Rattle.std.specs.Prelude.{◌≡◌, refl, List, [], ◌∷◌, ◌++◌, map, ℕ, zero, suc, ◌+◌, ◌*◌, ◌≤◌, ◌<◌, ℤ, pos, negsuc, nat_abs, ◌+ℤ◌, ◌-ℤ◌, ◌*ℤ◌, ◌≤ℤ◌, ◌<ℤ◌, length, get_or}
use Rattle.std.proofs.Common.{sym, ap, ap₂, ◌∙◌, subst, arith}
use Rattle.std.proofs.Math.Decide.{dec_lt}
use Rattle.std.proofs.Math.IntN.{*ℤ-zero}
use Rattle.std.proofs.lemmas.List.{length-map}
use Rattle.std.proofs.Math.ListN.{get_or-eq_default}
use Rattle.integers.specs.Identity.{by_ring, reads}
use Rattle.integers.specs.Order.{≤ℤ_trans, ≤ℤ_of_≡, *ℤ_mono}
use Rattle.integers.specs.Certificate.{NN, nn-pos}
use Rattle.integers.specs.Size.{load, size-sub, root}
use Rattle.integers.specs.ListLaws.{nth-⊕, nth-⊙}
use Rattle.lattices.specs.Vector.{Vec, N, nth, dot, ◌⊕◌, ◌⊙◌, comb}
use Rattle.lattices.specs.Laws.Vector.{◌≈◌, ≈-N, ≈_trans, ≈-⊙, square-≤, nil-dot, comb-≈, comb-⊙}
use Rattle.lattices.specs.Volume.{squared_volume}
use Rattle.lattices.specs.Nearest.{nearest}
use Rattle.lattices.specs.Greedy.{Row, vectors, less, credited, units, start}
use Rattle.lattices.specs.Answer.{padded, row_of_v}
use Rattle.lattices.specs.Laws.Answer.{nth-padded, padded-≈}
use Rattle.exterior_algebra.specs.Sizes.{Short, coefficient_≤, near_le}
use Rattle.successive_minima.specs.Reduced.{Reduced}
use Rattle.successive_minima.specs.Laws.NearestLaws.{nearest-count, nearest-shorter}
use Rattle.greedy_reduction.specs.Moves.{Moves, moves-length, after, subtract, length-vectors, vectors-append}
use Rattle.integers.specs.All.{All}
use Rattle.integers.specs.AllLaws.{all_left, all_right, all_both}
use Rattle.greedy_reduction.specs.Every.{moves-all}
use Rattle.greedy_reduction.specs.Lengths.{NoLonger, moves-no-longer}
use Rattle.greedy_reduction.specs.Tables.{Exact, moves_exact, spread, moves-spread}
use Rattle.greedy_reduction.specs.Start.{Coordinates, start-vectors, length-units, units-coordinates, exact_start, spread-start}
use Rattle.greedy_reduction.specs.Exactness.{comb-spread, vector-linear}
use Rattle.greedy_reduction.specs.Weight.{weighs, cost-most}
use Rattle.greedy_reduction.specs.Kept.{moves_keep, positive-left}

-- 20,000⁴
abbrev pub most : ℕ
most = 160000000000000000

-- zeros from place d on: a table's row may be wider than the list of vectors
abbrev pub Narrow : ℕ → List ℤ → Type 0
Narrow d u = (j : ℕ) → d ≤ j → nth u j ≡ pos 0

pub narrow-length : (d : ℕ) (u : List ℤ) → length u ≡ d → Narrow d u
narrow-length d u e j h = get_or-eq_default u (pos 0) (omega arith)

narrow-⊙ : (d : ℕ) (y : ℤ) (u : List ℤ) → Narrow d u → Narrow d (y ⊙ u)
narrow-⊙ d y u n j h = nth-⊙ y u j ∙ ap (λ z. y *ℤ z) (n j h) ∙ *ℤ-zero y

narrow-⊕ : (d : ℕ) (u v : List ℤ) → Narrow d u → Narrow d v → Narrow d (u ⊕ v)
narrow-⊕ d u v m n j h = nth-⊕ u v j ∙ ap₂ ◌+ℤ◌ (m j h) (n j h)

narrow-comb : (d : ℕ) (x : List ℤ) (rows : List Row) → All (λ r. Narrow d r.u) rows → Narrow d (comb x (map (λ r. r.u) rows))
unfolding comb
narrow-comb d [] rows n j h = refl
narrow-comb d (x ∷ xs) [] n j h = refl
narrow-comb d (x ∷ xs) (r ∷ rows) n j h = narrow-⊕ d (x ⊙ r.u) (comb xs (map (λ r. r.u) rows)) (narrow-⊙ d x r.u n.0) (narrow-comb d xs rows n.1) j h

moves-narrow : (d : ℕ) {a b : List Row} → Moves a b → All (λ r. Narrow d r.u) a → All (λ r. Narrow d r.u) b
moves-narrow d = moves-all (λ r. Narrow d r.u) (λ r s x h k. h)
    (λ x rows r k h p. narrow-⊕ d r.u (negsuc 0 ⊙ comb x (map (λ r. r.u) rows)) p (narrow-⊙ d (negsuc 0) (comb x (map (λ r. r.u) rows)) (narrow-comb d x rows h)))

-- ---- a vector of the lattice that is at most A · 20,000 long has coefficients of at most A · 20,000⁴
module _ (m : ℕ) (ins : List Vec) (four : length ins ≤ 4) (limit : Short (pos 400000000) ins) (volume : pos 0 <ℤ squared_volume m ins) where
  pub entry : (A : ℕ) (u : List ℤ) → Narrow (length ins) u → N (comb u ins) ≤ℤ pos (A * A * 400000000) → (j : ℕ) → nat_abs (nth u j) ≤ A * most
  entry A u e h j = go (dec_lt j (length ins))
    where
      go : Dec (j < length ins) → nat_abs (nth u j) ≤ A * most
      go (yes k) = coefficient_≤ A m j u ins four limit volume k h
      go (no k) = subst (λ z. nat_abs z ≤ A * most) (sym (e j (omega arith))) (omega arith)

  -- so has its row of U
  row-size : (A : ℕ) (y : ℤ) (r : Row) → Narrow (length ins) r.u × (comb r.u ins ≈ r.vector) → N (y ⊙ r.vector) ≤ℤ pos (A * A * 400000000) → (j : ℕ) → nat_abs (y *ℤ nth r.u j) ≤ A * most
  row-size A y r p h j = subst (λ z. nat_abs z ≤ A * most) (nth-⊙ y r.u j)
      (entry A (y ⊙ r.u) (narrow-⊙ (length ins) y r.u p.0) (≤ℤ_trans (≤ℤ_of_≡ (≈-N (≈_trans (comb-⊙ y r.u ins) (≈-⊙ y p.1)))) h) j)

-- a coordinate is no larger than its vector is long
pub coordinate : (A : ℕ) (v : Vec) → N v ≤ℤ pos (A * A * 400000000) → (j : ℕ) → nat_abs (nth v j) ≤ A * 20000
coordinate A v h j = root (nth v j) (pos (A * 20000)) (≤ℤ_trans (square-≤ v j) (≤ℤ_trans h (≤ℤ_of_≡ (ap pos (regroup A)))))
  where
    regroup : (A : ℕ) → A * A * 400000000 ≡ A * 20000 * (A * 20000)
    regroup A = omega arith

-- ---- a list that may be reduced, and the rows on the way
pub record Basis (m : ℕ) (ins : List Vec) : Type 0 where
  pub full : Coordinates m ins
  pub some : 1 ≤ length ins
  pub four : length ins ≤ 4
  pub limit : Short (pos 400000000) ins
  pub volume : pos 0 <ℤ squared_volume m ins

-- the rows with which the greedy steps begin, with tables of w numbers to a row
abbrev pub first_rows : ℕ → List Vec → List Row
first_rows w ins = start ins (map (padded w) (units (length ins)))

pub short_of : (s : ℤ) → NN s → (rows : List Row) → NoLonger s rows → Short s (vectors rows)
short_of s n [] h i = subst (λ z. z ≤ℤ s) (sym (nil-dot [])) n
short_of s n (r ∷ rows) h zero = h.0
short_of s n (r ∷ rows) h (suc i) = short_of s n rows h.1 i

pub no-longer_of : (s : ℤ) (ins : List Vec) (es : List (List ℤ)) → Short s ins → NoLonger s (start ins es)
no-longer_of s [] es h = tt
no-longer_of s (b ∷ ins) [] h = tt
no-longer_of s (b ∷ ins) (e ∷ es) h = (h 0, no-longer_of s ins es (λ i. h (suc i)))

wide-length : (w d : ℕ) → length (map (padded w) (units d)) ≡ d
wide-length w d = length-map (units d) (padded w) ∙ length-units d

narrow_start : (w : ℕ) (d : ℕ) (ins : List Vec) (es : List (List ℤ)) → Coordinates d es → d ≤ w → All (λ r. Narrow d r.u) (start ins (map (padded w) es))
narrow_start w d [] es c h = tt
narrow_start w d (b ∷ ins) [] c h = tt
narrow_start w d (b ∷ ins) (e ∷ es) c h =
    (λ j k. nth-padded w e (omega (arith, c.0)) j ∙ narrow-length d e c.0 j k, narrow_start w d ins es c.1 h)

exact_wide : (w d : ℕ) (ins bs : List Vec) (es : List (List ℤ)) → Coordinates d es → d ≤ w → Exact ins (start bs es) → Exact ins (start bs (map (padded w) es))
exact_wide w d ins [] es c h e = tt
exact_wide w d ins (b ∷ bs) [] c h e = tt
exact_wide w d ins (b ∷ bs) (f ∷ es) c h e = (≈_trans (comb-≈ ins (padded-≈ w f (omega (arith, c.0)))) e.0, exact_wide w d ins bs es c.1 h e.1)

spread-wide : (w d i : ℕ) (bs : List Vec) (es : List (List ℤ)) → Coordinates d es → d ≤ w → (v : Vec)
    → spread (λ r. r.vector) i (start bs (map (padded w) es)) v ≡ spread (λ r. r.vector) i (start bs es) v
spread-wide w d i [] es c h v = refl
spread-wide w d i (b ∷ bs) [] c h v = refl
spread-wide w d i (b ∷ bs) (f ∷ es) c h v = ap₂ (λ a s. a *ℤ dot b v +ℤ s) (nth-padded w f (omega (arith, c.0)) i) (spread-wide w d i bs es c.1 h v)

module _ (m w : ℕ) (ins : List Vec) (B : Basis m ins) (wide : length ins ≤ w) (rows : List Row) (moved : Moves (first_rows w ins) rows) where
  start_is : vectors (first_rows w ins) ≡ ins
  start_is = start-vectors ins (map (padded w) (units (length ins))) (wide-length w (length ins))

  pub way-narrow : All (λ r. Narrow (length ins) r.u) rows
  way-narrow = moves-narrow (length ins) moved (narrow_start w (length ins) ins (units (length ins)) (units-coordinates (length ins)) wide)

  pub way_exact : Exact ins rows
  way_exact = moves_exact ins moved (exact_wide w (length ins) ins ins (units (length ins)) (units-coordinates (length ins)) wide (exact_start ins))

  pub way-count : length rows ≡ length ins
  way-count = sym (moves-length moved) ∙ sym (length-vectors (first_rows w ins)) ∙ ap length start_is

  pub way-short : NoLonger (pos 400000000) rows
  way-short = moves-no-longer (pos 400000000) moved (no-longer_of (pos 400000000) ins (map (padded w) (units (length ins))) B.limit)

  pub way-volume : pos 0 <ℤ squared_volume m (vectors rows)
  way-volume = subst (λ s. pos 0 <ℤ s) (ap (squared_volume m) (sym start_is) ∙ moves_keep m moved) B.volume

  -- no number in U passes 20,000⁴
  pub u-size : (j : ℕ) → All (λ r. nat_abs (nth r.u j) ≤ most) rows
  u-size j = go rows way-narrow way_exact way-short
    where
      go : (l : List Row) → All (λ r. Narrow (length ins) r.u) l → Exact ins l → NoLonger (pos 400000000) l → All (λ r. nat_abs (nth r.u j) ≤ most) l
      go [] z e s = tt
      go (r ∷ l) z e s = (omega (arith, entry m ins B.four B.limit B.volume 1 r.u z.0 (≤ℤ_trans (≤ℤ_of_≡ (≈-N e.0)) s.0) j), go l z.1 e.1 s.1)

  -- nor in V: row i of V gives input i
  row_exact : (i : ℕ) → comb (row_of_v rows i) (vectors rows) ≈ get_or ins i []
  row_exact i = record {
    on = λ v. comb-spread (λ r. r.vector) i rows v ∙ sym (moves-spread (λ r. r.vector) vector-linear i moved v)
        ∙ spread-wide w (length ins) i ins (units (length ins)) (units-coordinates (length ins)) wide v
        ∙ spread-start (λ r. r.vector) ins ins (start-vectors ins (units (length ins)) (length-units (length ins))) refl i v;
  }

  pub v-size : (i : ℕ) → All (λ r. nat_abs (nth r.v i) ≤ most) rows
  v-size i = go rows (λ k. omega (
    arith,
    entry m (vectors rows) (omega (arith, length-vectors rows, way-count, B.four)) (short_of (pos 400000000) (nn-pos 400000000) rows way-short) way-volume
        1 (row_of_v rows i) (narrow-length (length (vectors rows)) (row_of_v rows i) (length-map rows (λ r. nth r.v i) ∙ sym (length-vectors rows))) (≤ℤ_trans (≤ℤ_of_≡ (≈-N (row_exact i))) (B.limit i)) k,
  ))
    where
      go : (l : List Row) → ((k : ℕ) → nat_abs (nth (row_of_v l i) k) ≤ most) → All (λ r. nat_abs (nth r.v i) ≤ most) l
      go [] h = tt
      go (r ∷ l) h = (h 0, go l (λ k. h (suc k)))

-- ---- room for a pass: the rows front, the row r behind them, and what is nearest to it
every_unit : (l : List Row) → All (λ r. Unit {0}) l
every_unit [] = tt
every_unit (r ∷ l) = (tt, every_unit l)

-- what a column gains is the difference of two columns
gain-size : (a y b : ℤ) → nat_abs a ≤ most → nat_abs (a +ℤ y *ℤ b) ≤ most → nat_abs a + nat_abs (y *ℤ b) ≤ 3 * most
gain-size a y b p q = omega (arith, ap nat_abs difference, size-sub (a +ℤ y *ℤ b) a)
  where
    difference : y *ℤ b ≡ a +ℤ y *ℤ b -ℤ a
    difference = by_ring (a ∷ y ∷ b ∷ []) (search reads) (search reads) tt

gain-room : (i : ℕ) (v xs : List ℤ) (l : List Row) → length xs ≡ length l → All (λ r. nat_abs (nth r.v i) ≤ most) l → All (λ r. nat_abs (nth r.v i) ≤ most) (credited xs v l)
    → (j : ℕ) → j < length l → nat_abs (nth (get_or (map (λ s. s.v) l) j []) i) + nat_abs (nth xs j *ℤ nth v i) ≤ 3 * most
unfolding credited
gain-room i v xs [] e p q j h = absurd (omega arith)
gain-room i v [] (s ∷ l) e p q j h = absurd (omega arith)
gain-room i v (y ∷ xs) (s ∷ l) e p q zero h =
    gain-size (nth s.v i) y (nth v i) p.0 (subst (λ z. nat_abs z ≤ most) (nth-⊕ s.v (y ⊙ v) i ∙ ap (λ z. nth s.v i +ℤ z) (nth-⊙ y v i)) q.0)
gain-room i v (y ∷ xs) (s ∷ l) e p q (suc j) h = gain-room i v xs l (omega arith) p.1 q.1 j (omega arith)

module _ (m w : ℕ) (ins : List Vec) (B : Basis m ins) (wide : length ins ≤ w) (front : List Row) (r : Row) (rest : List Row) (moved : Moves (first_rows w ins) (front ++ (r ∷ rest)))
    (few : length front ≤ 3) (red : Reduced (vectors front)) where
  abbrev x : List ℤ
  x = nearest (vectors front) r.vector

  x-count : length x ≡ length front
  x-count = nearest-count (vectors front) r.vector ∙ length-vectors front

  abbrev all : List Row
  all = front ++ (r ∷ rest)

  short-front : NoLonger (pos 400000000) front
  short-front = all_left (λ r. N r.vector ≤ℤ pos 400000000) front (r ∷ rest) (way-short m w ins B wide all moved)

  short-last : N r.vector ≤ℤ pos 400000000
  short-last = (all_right (λ r. N r.vector ≤ℤ pos 400000000) front (r ∷ rest) (way-short m w ins B wide all moved)).0

  -- the nearest vector is at most twice as long as the limit
  near-long : N (comb x (vectors front)) ≤ℤ pos (2 * 2 * 400000000)
  near-long = ≤ℤ_trans (near_le r.vector (comb x (vectors front)) (nearest-shorter (vectors front) r.vector)) (*ℤ_mono (nn-pos 4) short-last)

  pub u-room : (j : ℕ) → nat_abs (nth r.u j) + load x (map (λ s. s.u) front) j ≤ 53 * most
  u-room j = omega (
    arith,
    (all_right (λ r. nat_abs (nth r.u j) ≤ most) front (r ∷ rest) (u-size m w ins B wide all moved j)).0,
    weighs (λ s. s.u) most (λ r. Narrow (length ins) r.u × (comb r.u ins ≈ r.vector)) (row-size m ins B.four B.limit B.volume) (length front) 2 front refl (omega arith)
        (all_both (λ r. Narrow (length ins) r.u) (λ r. comb r.u ins ≈ r.vector) front (all_left (λ r. Narrow (length ins) r.u) front (r ∷ rest) (way-narrow m w ins B wide all moved))
        (all_left (λ r. comb r.u ins ≈ r.vector) front (r ∷ rest) (way_exact m w ins B wide all moved))) red x x-count near-long j,
    cost-most (length front) few,
  )

  -- the same for the vectors themselves
  pub vector-room : (j : ℕ) → nat_abs (nth r.vector j) + load x (vectors front) j ≤ 53 * 20000
  vector-room j = omega (
    arith,
    coordinate 1 r.vector short-last j,
    weighs (λ s. s.vector) 20000 (λ r. Unit {0}) (λ A y r p h j. subst (λ z. nat_abs z ≤ A * 20000) (nth-⊙ y r.vector j) (coordinate A (y ⊙ r.vector) h j))
        (length front) 2 front refl (omega arith) (every_unit front) red x x-count near-long j,
    cost-most (length front) few,
  )

  -- no coefficient passes 2 · 20,000⁴
  pub x-size : (j : ℕ) → nat_abs (nth x j) ≤ 2 * most
  x-size j = entry m (vectors front) (omega (arith, length-vectors front)) (short_of (pos 400000000) (nn-pos 400000000) front short-front)
      (positive-left m (vectors front) (vectors (r ∷ rest)) (subst (λ l. pos 0 <ℤ squared_volume m l) (vectors-append front (r ∷ rest)) (way-volume m w ins B wide all moved)))
      2 x (narrow-length (length (vectors front)) x (nearest-count (vectors front) r.vector)) near-long j

  next : Moves (first_rows w ins) (credited x r.v front ++ (less x front r ∷ rest))
  next = after moved (subtract x front r rest x-count (nearest-shorter (vectors front) r.vector))

  pub v-room : (i : ℕ) (j : ℕ) → j < length front → nat_abs (nth (get_or (map (λ s. s.v) front) j []) i) + nat_abs (nth x j *ℤ nth r.v i) ≤ 3 * most
  v-room i j h = gain-room i r.v x front x-count (all_left (λ r. nat_abs (nth r.v i) ≤ most) front (r ∷ rest) (v-size m w ins B wide all moved i))
      (all_left (λ r. nat_abs (nth r.v i) ≤ most) (credited x r.v front) (less x front r ∷ rest) (v-size m w ins B wide (credited x r.v front ++ (less x front r ∷ rest)) next i)) j h
