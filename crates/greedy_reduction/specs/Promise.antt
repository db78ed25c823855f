-- The two numbers that document 01 promises: no number in U or V passes 160,000,000,000,000,000 and no coefficient of a nearest
-- vector 320,000,000,000,000,000, for every accepted input.
use Rattle.std.specs.Prelude.{◌≡◌, refl, false, ◌||◌, List, [], ◌∷◌, ◌++◌, map, ℕ, zero, suc, ◌*◌, ◌≤◌, ltb, ℤ, pos, nat_abs, ◌≤ℤ◌, ◌<ℤ◌, length, get_or}
use Rattle.std.proofs.Common.{sym, ap₂, subst, zero-le, le_refl, arith, le-ltb}
use Rattle.lattices.specs.Vector.{Vec, N, nth, comb}
use Rattle.lattices.specs.Laws.Vector.{nil-dot}
use Rattle.lattices.specs.Volume.{squared_volume}
use Rattle.lattices.specs.Nearest.{nearest}
use Rattle.lattices.specs.Greedy.{Row, vectors, units, start, reduction}
use Rattle.lattices.specs.Refusal.{Input, basis, first_of, vector_checks, target_checks, too_long, most_square, most_size}
use Rattle.integers.specs.Every.{any}
use Rattle.lattices.specs.Answer.{padded, table, row_of_v, rows_of_v, reduction_of, nearest_of}
use Rattle.lattices.specs.Laws.Answer.{padded-same, length-vectors_of}
use Rattle.integers.specs.All.{All}
use Rattle.successive_minima.specs.Laws.NearestLaws.{nearest-count, nearest-shorter}
use Rattle.exterior_algebra.specs.Sizes.{Short, near_le}
use Rattle.integers.specs.Order.{≤ℤ_trans, ≤ℤ-lt_z, *ℤ_mono, pos-nonneg}
use Rattle.greedy_reduction.specs.Moves.{Moves, length-vectors}
use Rattle.greedy_reduction.specs.Lengths.{NoLonger}
use Rattle.greedy_reduction.specs.Exactness.{begin, moved}
use Rattle.greedy_reduction.specs.Start.{Coordinates, units-coordinates}
use Rattle.greedy_reduction.specs.Accepted.{Accepted, accepted, passed, short as short-vector}
use Rattle.greedy_reduction.specs.Demand.{accepted-reduction, accepted-nearest, first-append}
use Rattle.greedy_reduction.specs.Sizes.{Basis, first_rows, narrow-length, most, entry, coordinate, short_of, way-count, way-short, way-volume, u-size, v-size}

-- ---- an accepted input may be reduced
short-by-places : (vs : List Vec) → All (λ v. N v ≤ℤ pos most_square) vs → Short (pos most_square) vs
short-by-places [] h i = subst (λ z. z ≤ℤ pos most_square) (sym (nil-dot [])) (pos-nonneg most_square)
short-by-places (v ∷ vs) h zero = h.0
short-by-places (v ∷ vs) h (suc i) = short-by-places vs h.1 i

pub basis-of : (i : Input) → Accepted i → Basis i.m (basis i)
basis-of i ok =
    let count = length-vectors_of i.d i.m i.numbers in
    record { full = ok.full; some = omega (arith, count, ok.some); four = omega (arith, count, ok.most); limit = short-by-places (basis i) ok.limit; volume = ok.volume }

-- rows of d numbers are as wide as they need be
padded-units : (d : ℕ) (es : List (List ℤ)) → Coordinates d es → map (padded d) es ≡ es
padded-units d [] c = refl
padded-units d (e ∷ es) c = ap₂ ◌∷◌ (padded-same d e c.0) (padded-units d es c.1)

pub basis-moves : (m : ℕ) (bs : List Vec) → Basis m bs → Moves (first_rows (length bs) bs) (reduction bs).rows
unfolding begin
basis-moves m bs B =
    subst (λ es. Moves (start bs es) (reduction bs).rows) (sym (padded-units (length bs) (units (length bs)) (units-coordinates (length bs))))
    (moved m bs B.full B.some)

pub reduction-moves : (i : Input) → Accepted i → Moves (first_rows (length (basis i)) (basis i)) (reduction (basis i)).rows
reduction-moves i ok = basis-moves i.m (basis i) (basis-of i ok)

-- ---- "no coordinate passes 20,000 in size, and a reduced vector obeys the same limit"
none_large : (v : List ℤ) → ((j : ℕ) → nat_abs (nth v j) ≤ most_size) → any (λ x. ltb most_size (nat_abs x)) v ≡ false
none_large [] h = refl
none_large (x ∷ v) h = ap₂ ◌||◌ (le-ltb most_size (nat_abs x) (h 0)) (none_large v (λ j. h (suc j)))

pub not-long : (v : Vec) → N v ≤ℤ pos most_square → too_long v ≡ false
not-long v h = ap₂ ◌||◌ (none_large v (coordinate 1 v h)) (≤ℤ-lt_z h)

pub reduced-short : (m : ℕ) (bs : List Vec) → Basis m bs → All (λ v. too_long v ≡ false) (vectors (reduction bs).rows)
reduced-short m bs B = go (reduction bs).rows (way-short m (length bs) bs B (le_refl (length bs)) (reduction bs).rows (basis-moves m bs B))
  where
    go : (rows : List Row) → NoLonger (pos most_square) rows → All (λ v. too_long v ≡ false) (vectors rows)
    go [] h = tt
    go (r ∷ rows) h = (not-long r.vector h.0, go rows h.1)

-- ---- sizes in tables
abbrev Entries : ℕ → List ℤ → Type 0
Entries s l = (j : ℕ) → nat_abs (nth l j) ≤ s

padded-entries : (s n : ℕ) (l : List ℤ) → Entries s l → Entries s (padded n l)
padded-entries s zero l h j = zero-le
padded-entries s (suc n) [] h zero = zero-le
padded-entries s (suc n) [] h (suc j) = padded-entries s n [] (λ j. zero-le) j
padded-entries s (suc n) (x ∷ l) h zero = h 0
padded-entries s (suc n) (x ∷ l) h (suc j) = padded-entries s n l (λ j. h (suc j)) j

table-entries : (s h w : ℕ) (rows : List (List ℤ)) → All (Entries s) rows → (k : ℕ) → Entries s (get_or (table h w rows) k [])
table-entries s zero w rows a k j = zero-le
table-entries s (suc h) w [] a zero j = padded-entries s w [] (λ j. zero-le) j
table-entries s (suc h) w [] a (suc k) j = table-entries s h w [] tt k j
table-entries s (suc h) w (r ∷ rows) a zero j = padded-entries s w r a.0 j
table-entries s (suc h) w (r ∷ rows) a (suc k) j = table-entries s h w rows a.1 k j

u-entries : (s : ℕ) (rows : List Row) → ((j : ℕ) → All (λ r. nat_abs (nth r.u j) ≤ s) rows) → All (Entries s) (map (λ r. r.u) rows)
u-entries s [] h = tt
u-entries s (r ∷ rows) h = (λ j. (h j).0, u-entries s rows (λ j. (h j).1))

v-entries : (s : ℕ) (rows : List Row) → ((i : ℕ) → All (λ r. nat_abs (nth r.v i) ≤ s) rows) → (i n : ℕ) → All (Entries s) (rows_of_v rows i n)
v-entries s rows h i zero = tt
v-entries s rows h i (suc n) = (row rows (h i), v-entries s rows h (suc i) n)
  where
    row : (l : List Row) → All (λ r. nat_abs (nth r.v i) ≤ s) l → Entries s (row_of_v l i)
    row [] e j = zero-le
    row (r ∷ l) e zero = e.0
    row (r ∷ l) e (suc j) = row l e.1 j

-- every number of both tables
pub table-sizes : (i : Input) → first_of vector_checks i ≡ 0 → (k j : ℕ)
    → (nat_abs (nth (get_or (reduction_of i).u k []) j) ≤ 160000000000000000) × (nat_abs (nth (get_or (reduction_of i).v k []) j) ≤ 160000000000000000)
table-sizes i e k j =
    let ok = accepted i e in
    let rows = (reduction (basis i)).rows in
    subst (λ r. (nat_abs (nth (get_or r.u k []) j) ≤ 160000000000000000) × (nat_abs (nth (get_or r.v k []) j) ≤ 160000000000000000)) (sym (accepted-reduction i e)) (
      table-entries most 4 4 (map (λ r. r.u) rows) (u-entries most rows (u-size i.m (length (basis i)) (basis i) (basis-of i ok) (le_refl (length (basis i))) rows (reduction-moves i ok))) k j,
      table-entries most 4 4 (rows_of_v rows 0 (length rows)) (v-entries most rows (v-size i.m (length (basis i)) (basis i) (basis-of i ok) (le_refl (length (basis i))) rows (reduction-moves i ok)) 0 (length rows)) k j,
    )

-- every coefficient of a nearest vector
pub coefficient_sizes : (i : Input) → first_of (vector_checks ++ target_checks) i ≡ 0 → (j : ℕ) → nat_abs (nth (nearest_of i).coefficients j) ≤ 320000000000000000
coefficient_sizes i e j =
    subst (λ r. nat_abs (nth r.coefficients j) ≤ 320000000000000000) (sym (accepted-nearest i e))
    (padded-entries 320000000000000000 4 x (λ j. entry i.m outs (omega (arith, length-vectors rows, count, B.four)) (short_of (pos most_square) (pos-nonneg most_square) rows short) volume
    2 x (narrow-length (length outs) x (nearest-count outs i.target)) long j) j)
  where
    v : first_of vector_checks i ≡ 0
    v = first-append vector_checks target_checks i (omega arith) e

    ok : Accepted i
    ok = accepted i v

    B : Basis i.m (basis i)
    B = basis-of i ok

    rows : List Row
    rows = (reduction (basis i)).rows

    outs : List Vec
    outs = vectors rows

    x : List ℤ
    x = nearest outs i.target

    count : length rows ≡ length (basis i)
    count = way-count i.m (length (basis i)) (basis i) B (le_refl (length (basis i))) rows (reduction-moves i ok)

    short : NoLonger (pos most_square) rows
    short = way-short i.m (length (basis i)) (basis i) B (le_refl (length (basis i))) rows (reduction-moves i ok)

    volume : pos 0 <ℤ squared_volume i.m outs
    volume = way-volume i.m (length (basis i)) (basis i) B (le_refl (length (basis i))) rows (reduction-moves i ok)

    target : N i.target ≤ℤ pos most_square
    target = short-vector i.target (passed (vector_checks ++ target_checks) i (omega arith) e).1.1.1.1.1.1.0

    long : N (comb x outs) ≤ℤ pos (2 * 2 * 400000000)
    long = ≤ℤ_trans (near_le i.target (comb x outs) (nearest-shorter outs i.target)) (*ℤ_mono (pos-nonneg 4) target)
