-- What the greedy steps may rely on, on every row that they lead to: lengths, and room in 64 bits for a pass. Vectors within the length
-- limit give it; another list of rows may be reduced by the same code once these limits are proved of it.
use Rattle.std.specs.Prelude.{◌≡◌, refl, true, List, [], ◌∷◌, ◌++◌, map, ℕ, zero, suc, ◌+◌, ◌*◌, ◌≤◌, ◌<◌, ℤ, pos, nat_abs, ◌*ℤ◌, ◌≤ℤ◌, ◌<ℤ◌, length, get_or}
use Rattle.std.proofs.Common.{sym, ap, ◌∙◌, subst, arith}
use Rattle.std.proofs.lemmas.Simd.{map-map}
use Rattle.std.proofs.Math.IntN.{*ℤ-zero}
use Rattle.integers.specs.Identity.{by_ring, reads}
use Rattle.integers.specs.All.{All}
use Rattle.integers.specs.AllLaws.{all_right}
use Rattle.integers.specs.Order.{≤ℤ_trans, *ℤ_mono}
use Rattle.integers.specs.Certificate.{nn-pos}
use Rattle.integers.specs.Size.{load}
use Rattle.lattices.specs.Vector.{Vec, N, nth, dot, comb, ◌⊖◌}
use Rattle.lattices.specs.Laws.Vector.{against, dot_comm, nil-dot}
use Rattle.lattices.specs.Nearest.{nearest}
use Rattle.lattices.specs.Refusal.{most_vectors}
use Rattle.lattices.specs.Greedy.{Row, vectors}
use Rattle.lattices.specs.Volume.{squared_volume}
use Rattle.exterior_algebra.specs.Sizes.{near_le}
use Rattle.successive_minima.specs.Reduced.{Reduced}
use Rattle.successive_minima.specs.Laws.NearestLaws.{nearest-count, nearest-shorter}
use Rattle.greedy_reduction.specs.Moves.{Moves, none, length-vectors}
use Rattle.greedy_reduction.specs.Lengths.{NoLonger}
use Rattle.greedy_reduction.specs.Sizes.{Basis, first_rows, way-short, way-volume, u-room, v-room, vector-room}
use Rattle.greedy_reduction.specs.Weight.{weighs, cost-most}
use Rattle.row_operations.specs.Minus.{room}
use Rattle.gram_matrix.specs.Gram.{nth-against}
use Rattle.gram_matrix.specs.Tied.{Kind, whole}
use Rattle.gram_matrix.specs.Passed.{gram-row}
use Rattle.greedy_steps.specs.Products.{product-size}

-- the limit of a squared length
abbrev pub longest : Kind → ℤ
longest K = K.factor *ℤ pos 400000000

-- a pass: of rows on the way, those in front are reduced, and what is nearest to the next one is taken away
pub record Limits (K : Kind) (first : List Row) : Type 0 where
  pub width : ℕ
  pub volume : pos 0 <ℤ squared_volume width (vectors first)
  pub short : NoLonger (longest K) first
  pub on-vectors : K.vectors ≡ true → (front : List Row) (r : Row) (rest : List Row) → Moves first (front ++ (r ∷ rest)) → length front ≤ 3 → Reduced (vectors front)
      → (j : ℕ) → nat_abs (nth r.vector j) + load (nearest (vectors front) r.vector) (vectors front) j ≤ room
  pub on-u : (front : List Row) (r : Row) (rest : List Row) → Moves first (front ++ (r ∷ rest)) → length front ≤ 3 → Reduced (vectors front)
      → (j : ℕ) → nat_abs (nth r.u j) + load (nearest (vectors front) r.vector) (map (λ s. s.u) front) j ≤ room
  pub on-v : (front : List Row) (r : Row) (rest : List Row) → Moves first (front ++ (r ∷ rest)) → length front ≤ 3 → Reduced (vectors front)
      → (i j : ℕ) → j < length front → nat_abs (nth (get_or (map (λ s. s.v) front) j []) i) + nat_abs (nth (nearest (vectors front) r.vector) j *ℤ nth r.v i) ≤ room
  -- and on the inner products of what is left
  pub on-gram : (front : List Row) (r : Row) (rest : List Row) → Moves first (front ++ (r ∷ rest)) → length front ≤ 3 → Reduced (vectors front) → (j : ℕ)
      → let x = nearest (vectors front) r.vector in nat_abs (nth x j *ℤ dot (get_or (vectors front) j []) (r.vector ⊖ comb x (vectors front))) ≤ nat_abs K.factor * 20800000000

-- ---- vectors within the limit
zero-* : (z : ℤ) → pos 0 *ℤ z ≡ pos 0
zero-* z = by_ring (z ∷ []) (search reads) (search reads) tt

load-term : (x : List ℤ) (t : List (List ℤ)) (i j : ℕ) → nat_abs (nth x j *ℤ nth (get_or t j []) i) ≤ load x t i
unfolding load
load-term [] t i j = subst (λ z. nat_abs z ≤ 0) (sym (zero-* (nth (get_or t j []) i))) (omega arith)
load-term (y ∷ x) [] i zero = subst (λ z. nat_abs z ≤ 0) (sym (*ℤ-zero y)) (omega arith)
load-term (y ∷ x) [] i (suc j) = subst (λ z. nat_abs z ≤ 0) (sym (*ℤ-zero (nth x j))) (omega arith)
load-term (y ∷ x) (r ∷ t) i zero = omega arith
load-term (y ∷ x) (r ∷ t) i (suc j) = omega (arith, load-term x t i j)

every_unit : (l : List Row) → All (λ r. Unit {0}) l
every_unit [] = tt
every_unit (r ∷ l) = (tt, every_unit l)

-- what the combination takes from the inner product with a vector within the limit
module _ (front : List Row) (r : Row) (few : length front ≤ 3) (red : Reduced (vectors front)) (short : N r.vector ≤ℤ pos 400000000) where
  abbrev x : List ℤ
  x = nearest (vectors front) r.vector

  near-long : N (comb x (vectors front)) ≤ℤ pos (2 * 2 * 400000000)
  near-long = ≤ℤ_trans (near_le r.vector (comb x (vectors front)) (nearest-shorter (vectors front) r.vector)) (*ℤ_mono (nn-pos 4) short)

  one-short : (v : Vec) → N v ≤ℤ pos 400000000 → (i : ℕ) → N (get_or (v ∷ []) i []) ≤ℤ pos 400000000
  one-short v h zero = h
  one-short v h (suc i) = rw nil-dot (nn-pos 400000000)

  term : (v : Vec) → N v ≤ℤ pos 400000000 → (j : ℕ) → nat_abs (nth x j *ℤ dot (get_or (vectors front) j []) v) ≤ 52 * 400000000
  term v h j = subst (λ z. nat_abs (nth x j *ℤ z) ≤ 52 * 400000000)
      (ap (λ l. nth (get_or l j []) 0) (sym (map-map (against (v ∷ [])) (λ s. s.vector) front)) ∙ gram-row (v ∷ []) (vectors front) j 0 ∙ dot_comm v (get_or (vectors front) j []))
      (omega (
        arith,
        load-term x (map (λ s. against (v ∷ []) s.vector) front) 0 j,
        weighs (λ s. against (v ∷ []) s.vector) 400000000 (λ s. Unit {0})
            (λ A y s p q i. subst (λ z. nat_abs (y *ℤ z) ≤ A * 400000000) (sym (nth-against (v ∷ []) s.vector i)) (product-size A y (get_or (v ∷ []) i []) s.vector (one-short v h i) q))
            (length front) 2 front refl (omega arith) (every_unit front) red x (nearest-count (vectors front) r.vector ∙ length-vectors front) near-long 0,
        cost-most (length front) few,
      ))

  pub left-terms : (j : ℕ) → nat_abs (nth x j *ℤ dot (get_or (vectors front) j []) (r.vector ⊖ comb x (vectors front))) ≤ 1 * 20800000000
  left-terms j = omega (arith, term (r.vector ⊖ comb x (vectors front)) (≤ℤ_trans (nearest-shorter (vectors front) r.vector) short) j)

unfoldable pub vector-limits : (w : ℕ) (ins : List Vec) → Basis w ins → length ins ≤ most_vectors → Limits whole (first_rows most_vectors ins)
vector-limits w ins B four = record {
  width = w;
  volume = way-volume w most_vectors ins B four (first_rows most_vectors ins) (none (first_rows most_vectors ins));
  short = way-short w most_vectors ins B four (first_rows most_vectors ins) (none (first_rows most_vectors ins));
  on-vectors = λ e front r rest m few red j. omega (arith, vector-room w most_vectors ins B four front r rest m few red j);
  on-u = λ front r rest m few red j. omega (arith, u-room w most_vectors ins B four front r rest m few red j);
  on-v = λ front r rest m few red i j h. omega (arith, v-room w most_vectors ins B four front r rest m few red i j h);
  on-gram = λ front r rest m few red j. left-terms front r few red (all_right (λ r. N r.vector ≤ℤ pos 400000000) front (r ∷ rest) (way-short w most_vectors ins B four (front ++ (r ∷ rest)) m)).0 j;
}
