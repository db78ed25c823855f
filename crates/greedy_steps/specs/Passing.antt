-- A pass for row k in vectors: the coefficients, what is left of the last vector, and room for its inner products.
use Rattle.std.specs.Prelude.{◌≡◌, List, [], ◌∷◌, ℕ, zero, suc, ◌*◌, ◌≤◌, ◌<◌, ℤ, pos, negsuc, nat_abs, ◌*ℤ◌, ◌≤ℤ◌, ◌<ℤ◌, length, get_or, take}
use Rattle.std.proofs.Common.{sym, ap₂, ◌∙◌, subst, subst₂, arith, le_refl, mul-le-mul, get_or-take}
use Rattle.std.proofs.Math.Path.{ap}
use Rattle.std.proofs.Math.Decide.{dec_lt}
use Rattle.std.specs.Int.Signed.{<ℤ_irrefl}
use Rattle.std.proofs.Math.ListN.{get_or-eq_default}
use Rattle.integers.specs.Identity.{by_ring, reads}
use Rattle.integers.specs.AllLaws.{take-map, get_d_map}
use Rattle.integers.specs.Order.{≤ℤ_trans, ≤ℤ_of_<ℤ}
use Rattle.integers.specs.Certificate.{nn-pos, ◌⊠◌}
use Rattle.integers.specs.Size.{Within, size-mul, root}
use Rattle.lattices.specs.Vector.{Vec, N, nth, dot, comb, ◌⊖◌}
use Rattle.lattices.specs.Laws.Vector.{N-nonneg}
use Rattle.lattices.specs.Nearest.{nearest}
use Rattle.lattices.specs.Greedy.{Row, vectors}
use Rattle.lattices.specs.Answer.{padded}
use Rattle.lattices.specs.Laws.Answer.{nth-padded, take-padded}
use Rattle.successive_minima.specs.Laws.NearestLaws.{nearest-shorter}
use Rattle.exterior_algebra.specs.Hadamard.{*ℤ_mono_both}
use Rattle.gram_matrix.specs.Tied.{Kind, Tied}
use Rattle.gram_matrix.specs.Passed.{tied-left}
use Rattle.greedy_steps.specs.State.{blank}
use Rattle.greedy_steps.specs.Limits.{longest}
use Rattle.greedy_steps.specs.Room as Room
use Rattle.greedy_steps.specs.Room.{PassReady, rows_short}
use Rattle.greedy_steps.specs.Products.{schwarz}

-- the coefficients of the vector nearest to row k
abbrev pub coefficients : ℕ → List Row → List ℤ
coefficients k rows = nearest (vectors (take k rows)) (get_or rows k blank).vector

zero-* : (z : ℤ) → pos 0 *ℤ z ≡ pos 0
zero-* z = by_ring (z ∷ []) (search reads) (search reads) tt

size-positive : (c : ℤ) → pos 0 <ℤ c → 1 ≤ nat_abs c
size-positive (pos zero) h = absurd (<ℤ_irrefl h)
size-positive (pos (suc n)) h = omega arith
size-positive (negsuc n) h = omega arith

-- a size that holds of multiples holds without the factor
without : (c a M : ℕ) → 1 ≤ c → c * a ≤ c * M → a ≤ M
without c a M p q = pick (dec_lt M a)
  where
    pick : Dec (M < a) → a ≤ M
    pick (yes l) = let m : c * suc M ≤ c * a = mul-le-mul (le_refl c) l in absurd (omega (arith, m, q, p))
    pick (no l) = omega (arith, l)

module _ {K : Kind} (positive : pos 0 <ℤ K.factor) (k : ℕ) (rows : List Row) (r : PassReady K k rows) (three : k ≤ 3) where
  abbrev bs : List Vec
  bs = vectors rows

  abbrev t : Vec
  t = (get_or rows k blank).vector

  abbrev x : List ℤ
  x = coefficients k rows

  pub long : k < length rows
  long = Room.long k rows r.fine three r.reduced

  pub last-is : get_or bs k [] ≡ t
  last-is = get_d_map (λ s. s.vector) rows blank [] k long

  pub front-is : take k bs ≡ vectors (take k rows)
  front-is = take-map (λ s. s.vector) k rows

  pub short : (i : ℕ) → N (get_or bs i []) ≤ℤ longest K
  short i = rows_short positive r.fine i

  pub short-last : N t ≤ℤ longest K
  short-last = subst (λ v. N v ≤ℤ longest K) last-is (short k)

  pub x-count : length x ≡ k
  unfolding Room.x
  x-count = Room.x-count k rows r.fine three r.reduced

  pub taken : take k (padded 4 x) ≡ x
  taken = take-padded k 4 x x-count (omega arith)

  nth-x : (j : ℕ) → nth (padded 4 x) j ≡ nth x j
  nth-x j = nth-padded 4 x (omega (arith, x-count)) j

  -- what is left of the last vector is no longer
  rest : Vec
  rest = t ⊖ comb x (vectors (take k rows))

  rest-short : N rest ≤ℤ longest K
  unfolding rest
  rest-short = ≤ℤ_trans (nearest-shorter (vectors (take k rows)) t) short-last

  terms : (j : ℕ) → nat_abs (nth x j *ℤ dot (get_or (vectors (take k rows)) j []) rest) ≤ nat_abs K.factor * 20800000000
  unfolding rest Room.x
  terms j = Room.terms-room k rows r.fine three r.reduced j

  -- ---- its inner products in the tables, up to the factor
  module _ {g b u v : List (List ℤ)} (tied : Tied K rows g b u v) where
    abbrev F : ℤ
    F = K.factor

    abbrev left : List ℤ
    left = get_or g k [] ⊖ comb x (take k g)

    entry-is : (j : ℕ) → F *ℤ nth left j ≡ dot (get_or bs j []) rest
    unfolding rest
    entry-is j = tied-left tied k long x j ∙ ap (dot (get_or bs j [])) (ap₂ (λ a l. a ⊖ comb x l) last-is front-is)

    lower : (z : ℤ) (M : ℕ) → nat_abs (F *ℤ z) ≤ nat_abs F * M → nat_abs z ≤ M
    lower z M h = without (nat_abs F) (nat_abs z) M (size-positive F positive) (subst (λ n. n ≤ nat_abs F * M) (size-mul F z) h)

    pub left-room : (j : ℕ) → Within 2000000000000000000 (nth (padded 4 x) j *ℤ nth left j)
    left-room j = record { within = subst (λ y. nat_abs (y *ℤ nth left j) ≤ 2000000000000000000) (sym (nth-x j)) (pick (dec_lt j k)) }
      where
        swap : (y z : ℤ) → F *ℤ (y *ℤ z) ≡ y *ℤ (F *ℤ z)
        swap y z = by_ring (F ∷ y ∷ z ∷ []) (search reads) (search reads) tt

        pick : Dec (j < k) → nat_abs (nth x j *ℤ nth left j) ≤ 2000000000000000000
        pick (yes h) =
            let m : nat_abs (nth x j *ℤ nth left j) ≤ 20800000000 = lower (nth x j *ℤ nth left j) 20800000000 (subst (λ z. nat_abs z ≤ nat_abs F * 20800000000)
            (sym (swap (nth x j) (nth left j) ∙ ap (λ z. nth x j *ℤ z) (entry-is j ∙ ap (λ v. dot v rest) (sym (get_or-take k bs j [] h) ∙ ap (λ l. get_or l j []) front-is)))) (terms j)) in
            omega (arith, m)
        pick (no h) = subst (λ y. nat_abs (y *ℤ nth left j) ≤ 2000000000000000000) (sym (get_or-eq_default x (pos 0) (omega (arith, x-count, h)))) (subst (λ z. nat_abs z ≤ 2000000000000000000) (sym (zero-* (nth left j))) (omega arith))

    pub square-room : Within 1000000000000000000 (nth left k)
    square-room =
        let m : nat_abs (nth left k) ≤ 400000000 = lower (nth left k) 400000000 (subst₂ ◌≤◌ (ap nat_abs (sym (entry-is k))) (size-mul F (pos 400000000))
        (root (dot (get_or bs k []) rest) (longest K) (≤ℤ_trans (schwarz (get_or bs k []) rest) (*ℤ_mono_both (N-nonneg (get_or bs k [])) (≤ℤ_of_<ℤ positive ⊠ nn-pos 400000000) (short k) rest-short)))) in
        record { within = omega (arith, m) }
