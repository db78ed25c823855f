-- The solution of a target's linear system: there is one, for independent vectors only one, and how numbers in whole tenths near it are found.
use Rattle.std.specs.Prelude.{◌≡◌, refl, List, [], ◌∷◌, ℕ, zero, suc, ◌≤◌, ℤ, pos, negsuc, neg_ℤ, ◌+ℤ◌, ◌-ℤ◌, ◌*ℤ◌, ◌≤ℤ◌, ◌<ℤ◌, length}
use Rattle.std.proofs.Common.{sym, ap, ap₂, ◌∙◌, ⊎_elim}
use Rattle.std.specs.Int.Signed.{lt_z_yes, le_z_yes}
use Rattle.integers.specs.All.{All}
use Rattle.integers.specs.AllLaws.{all_imp}
use Rattle.integers.specs.Division.{up, quot, rest, up_pos, quot-rest, rest-nonneg, rest_lt}
use Rattle.integers.specs.Identity.{by_ring, by-eq, reads}
use Rattle.integers.specs.Order.{≤ℤ_of_<ℤ, ≤ℤ-or-<ℤ, zero_or_not}
use Rattle.integers.specs.Certificate.{NN, ◌⊞◌, ◌⊠◌, nn-pos, nn-false, le, lt, eq, by_nn, by-lt}
use Rattle.integers.specs.ListLaws.{entries, length-⊙, length-⊕-same}
use Rattle.lattices.specs.Vector.{Vec, N, nth, dot, comb, ◌⊕◌, ◌⊙◌, ◌⊖◌, Independent}
use Rattle.lattices.specs.Laws.Vector.{dot-⊕, dot-⊙, bilinear, comb-⊕, comb-⊙, definite}
use Rattle.successive_minima.specs.Reduced.{Reduced}
use Rattle.solutions.specs.Solution.{Solution, InTenths}
use Rattle.solutions.specs.Laws.Projection.{Orthogonal, orthogonal-comb, Projection, project}
use Rattle.solutions.specs.Laws.Settled.{by-up, Between, between-≡, between-mul, between_self, between-up, Slight, bound, settled-reduced}

-- ---- there is one

pub solution_of : (bs : List Vec) (t : Vec) → Solution bs t
solution_of bs t = record {
  denominator = p.factor;
  positive = p.positive;
  numerators = negsuc 0 ⊙ p.coefficients;
  count = length-⊙ (negsuc 0) p.coefficients ∙ p.count;
  solves = all_imp turn bs p.orthogonal;
}
  where
    p : Projection bs t
    p = project bs t

    turn : (b : Vec) → dot (p.factor ⊙ t ⊕ comb p.coefficients bs) b ≡ pos 0 → dot (comb (negsuc 0 ⊙ p.coefficients) bs) b ≡ p.factor *ℤ dot t b
    turn b e = (comb-⊙ (negsuc 0) p.coefficients bs).on b ∙ dot-⊙ (negsuc 0) (comb p.coefficients bs) b
        ∙ by-eq (p.factor ∷ dot t b ∷ dot (comb p.coefficients bs) b ∷ []) (negsuc 0) (sym (dot-⊕ (p.factor ⊙ t) (comb p.coefficients bs) b ∙ ap (λ z. z +ℤ dot (comb p.coefficients bs) b) (dot-⊙ p.factor t b)) ∙ e)
        (search reads depth 20) (search reads depth 20) tt

-- ---- and only one, for independent vectors

-- a·Σ x_i·b_i + k·Σ y_i·b_i
comb-lin : (a k : ℤ) (x y : List ℤ) (bs : List Vec) (u : Vec) → dot (comb (a ⊙ x ⊕ k ⊙ y) bs) u ≡ a *ℤ dot (comb x bs) u +ℤ k *ℤ dot (comb y bs) u
comb-lin a k x y bs u = (comb-⊕ (a ⊙ x) (k ⊙ y) bs).on u ∙ dot-⊕ (comb (a ⊙ x) bs) (comb (k ⊙ y) bs) u
    ∙ ap₂ ◌+ℤ◌ ((comb-⊙ a x bs).on u ∙ dot-⊙ a (comb x bs) u) ((comb-⊙ k y bs).on u ∙ dot-⊙ k (comb y bs) u)

length-lin : (a k : ℤ) (x y : List ℤ) {n : ℕ} → length x ≡ n → length y ≡ n → length (a ⊙ x ⊕ k ⊙ y) ≡ n
length-lin a k x y e f = length-⊕-same (a ⊙ x) (k ⊙ y) (length-⊙ a x ∙ e ∙ sym f ∙ sym (length-⊙ k y)) ∙ length-⊙ a x ∙ e

pub solution-only : (bs : List Vec) (t : Vec) → Independent bs → (p q : Solution bs t) (i : ℕ) → q.denominator *ℤ nth p.numerators i ≡ p.denominator *ℤ nth q.numerators i
solution-only bs t f p q i = ⊎_elim
    (λ e. by-eq (q.denominator ∷ nth p.numerators i ∷ p.denominator ∷ nth q.numerators i ∷ []) (pos 1) (sym (at i) ∙ e) (search reads depth 20) (search reads depth 20) tt)
    (λ g. absurd (f (record {
      coefficients = x;
      count = length-lin q.denominator (neg_ℤ p.denominator) p.numerators q.numerators p.count q.count;
      nonzero = λ z. g (z i);
      vanishes = definite (comb x bs) (orthogonal-comb (comb x bs) x bs (flat bs p.solves q.solves));
    })))
    (zero_or_not (nth x i))
  where
    x : List ℤ
    x = q.denominator ⊙ p.numerators ⊕ neg_ℤ p.denominator ⊙ q.numerators

    at : (i : ℕ) → nth x i ≡ q.denominator *ℤ nth p.numerators i +ℤ neg_ℤ p.denominator *ℤ nth q.numerators i
    at i = simp entries

    flat : (cs : List Vec) → All (λ b. dot (comb p.numerators bs) b ≡ p.denominator *ℤ dot t b) cs → All (λ b. dot (comb q.numerators bs) b ≡ q.denominator *ℤ dot t b) cs → Orthogonal (comb x bs) cs
    flat [] d e = tt
    flat (c ∷ cs) d e = (
      comb-lin q.denominator (neg_ℤ p.denominator) p.numerators q.numerators bs c
          ∙ ap₂ (λ y z. q.denominator *ℤ y +ℤ neg_ℤ p.denominator *ℤ z) d.0 e.0 ∙ by_ring (q.denominator ∷ p.denominator ∷ dot t c ∷ []) (search reads depth 20) (search reads depth 20) tt,
      flat cs d.1 e.1,
    )

-- ---- whole tenths

-- |s/10 − n/q| < 1/10
abbrev Tenth : ℤ → ℤ → ℤ → Type 0
Tenth q n s = ((s *ℤ q) <ℤ (pos 10 *ℤ n +ℤ q)) × ((pos 10 *ℤ n) <ℤ (s *ℤ q +ℤ q))

in_tenths : (bs : List Vec) (t : Vec) (p : Solution bs t) (s : List ℤ) → length s ≡ length bs → ((i : ℕ) → Tenth p.denominator (nth p.numerators i) (nth s i)) → InTenths bs t s
in_tenths bs t p s e h = record { solution = p; count = e; below = λ i. (h i).0; above = λ i. (h i).1 }

-- there are such: the floor of 10·n/q
record Floors (q : ℤ) (n : List ℤ) : Type 0 where
  list : List ℤ
  count : length list ≡ length n
  near : (i : ℕ) → Tenth q (nth n i) (nth list i)

floors : (q : ℤ) → pos 0 <ℤ q → (n : List ℤ) → Floors q n
floors = by-up (λ q. (n : List ℤ) → Floors q n) each
  where
    nothing : (k : ℕ) → Tenth (up k) (pos 0) (pos 0)
    nothing k = (by-lt (up k ∷ []) (lt (up_pos k)) (search reads) (search reads) tt, by-lt (up k ∷ []) (lt (up_pos k)) (search reads) (search reads) tt)

    one : (k : ℕ) (x : ℤ) → Tenth (up k) x (quot k (pos 10 *ℤ x))
    one k x = (
      by-lt (up k ∷ x ∷ y ∷ r ∷ []) (rest-nonneg k (pos 10 *ℤ x) ⊞ lt (up_pos k) ⊞ eq (pos 1) (quot-rest k (pos 10 *ℤ x))) (search reads depth 20) (search reads depth 20) tt,
      by-lt (up k ∷ x ∷ y ∷ r ∷ []) (lt (rest_lt k (pos 10 *ℤ x)) ⊞ eq (negsuc 0) (quot-rest k (pos 10 *ℤ x))) (search reads depth 20) (search reads depth 20) tt,
    )
      where
        y : ℤ
        y = quot k (pos 10 *ℤ x)

        r : ℤ
        r = rest k (pos 10 *ℤ x)

    each : (k : ℕ) (n : List ℤ) → Floors (up k) n
    each k [] = record { list = []; count = refl; near = λ i. nothing k }
    each k (x ∷ n) =
        let f = each k n in
        record { list = quot k (pos 10 *ℤ x) ∷ f.list; count = ap suc f.count; near = λ i. at f i }
      where
        at : (f : Floors (up k) n) (i : ℕ) → Tenth (up k) (nth (x ∷ n) i) (nth (quot k (pos 10 *ℤ x) ∷ f.list) i)
        at f zero = one k x
        at f (suc i) = f.near i

pub tenths_exist : (bs : List Vec) (t : Vec) → (s : List ℤ) × InTenths bs t s
tenths_exist bs t =
    let p = solution_of bs t in
    let f = floors p.denominator p.positive p.numerators in
    (f.list, in_tenths bs t p f.list (f.count ∙ p.count) f.near)

-- ---- from numbers that leave little of the target, K times as fine

bound-≤ : (k : ℕ) → k ≤ 4 → pos (bound k) ≤ℤ pos 216
bound-≤ zero l = le_z_yes tt
bound-≤ (suc zero) l = le_z_yes tt
bound-≤ (suc (suc zero)) l = le_z_yes tt
bound-≤ (suc (suc (suc zero))) l = le_z_yes tt
bound-≤ (suc (suc (suc (suc k)))) l = le_z_yes tt

-- |K·(n − q·x) − q·z| ≤ 108·q·M and |10·z − K·(s − 10·x)| ≤ H with 1080·M + H < K give |10·n − q·s| < q
module _ (K M H : ℤ) (K-nn : NN K) (room : (pos 1080 *ℤ M +ℤ H) <ℤ K) where
  rounded : (n q x z s : ℤ) → pos 0 <ℤ q → Between (pos 216 *ℤ (q *ℤ M)) (pos 2 *ℤ (K *ℤ (n +ℤ neg_ℤ q *ℤ x) +ℤ neg_ℤ q *ℤ z)) → Between H (pos 10 *ℤ z -ℤ K *ℤ (s -ℤ pos 10 *ℤ x)) → Tenth q n s
  rounded n q x z s p h k = (
    smaller (s *ℤ q) (pos 10 *ℤ n +ℤ q) (by_nn (K ∷ M ∷ H ∷ n ∷ q ∷ x ∷ z ∷ s ∷ [])
        (nn-pos 5 ⊠ h.low ⊞ ≤ℤ_of_<ℤ p ⊠ k.low ⊞ ≤ℤ_of_<ℤ p ⊠ lt room ⊞ lt p) (search reads depth 20 fits 5000) (search reads depth 20 fits 5000) tt),
    smaller (pos 10 *ℤ n) (s *ℤ q +ℤ q) (by_nn (K ∷ M ∷ H ∷ n ∷ q ∷ x ∷ z ∷ s ∷ [])
        (nn-pos 5 ⊠ h.high ⊞ ≤ℤ_of_<ℤ p ⊠ k.high ⊞ ≤ℤ_of_<ℤ p ⊠ lt room ⊞ lt p) (search reads depth 20 fits 5000) (search reads depth 20 fits 5000) tt),
  )
    where
      smaller : (x y : ℤ) → (K *ℤ x +ℤ pos 1) ≤ℤ (K *ℤ y) → x <ℤ y
      smaller x y h = ⊎_elim (λ (k : y ≤ℤ x). nn-false (K ∷ x ∷ y ∷ []) (le h ⊞ K-nn ⊠ le k) (search reads depth 20) tt) (λ k. k) (≤ℤ-or-<ℤ y x)

  module _ (bs : List Vec) (t : Vec) (x z : List ℤ) (q : Solution bs t) where
    abbrev past : List ℤ
    past = pos 1 ⊙ q.numerators ⊕ neg_ℤ q.denominator ⊙ x

    -- q times what is left, as a combination
    abbrev difference : List ℤ
    difference = K ⊙ past ⊕ neg_ℤ q.denominator ⊙ z

    residue : (cs : List Vec) → All (λ b. dot (comb q.numerators bs) b ≡ q.denominator *ℤ dot t b) cs → Slight M (K ⊙ (t ⊖ comb x bs) ⊖ comb z bs) cs → Slight (q.denominator *ℤ M) (comb difference bs) cs
    residue [] e g = tt
    residue (c ∷ cs) e g = (
      between-≡ (one q.denominator M (N c)) (ap (λ y. q.denominator *ℤ (pos 2 *ℤ y)) split ∙ two ∙ ap (λ y. pos 2 *ℤ y) (sym combined))
          (between-mul (between_self (≤ℤ_of_<ℤ q.positive)) g.0),
      residue cs e.1 g.1,
    )
      where
        one : (d m n : ℤ) → d *ℤ (m *ℤ n) ≡ d *ℤ m *ℤ n
        one d m n = by_ring (d ∷ m ∷ n ∷ []) (search reads depth 20) (search reads depth 20) tt

        split : dot (K ⊙ (t ⊖ comb x bs) ⊖ comb z bs) c ≡ K *ℤ (dot t c +ℤ negsuc 0 *ℤ dot (comb x bs) c) +ℤ negsuc 0 *ℤ dot (comb z bs) c
        split = simp bilinear

        combined : dot (comb difference bs) c ≡ K *ℤ (pos 1 *ℤ dot (comb q.numerators bs) c +ℤ neg_ℤ q.denominator *ℤ dot (comb x bs) c) +ℤ neg_ℤ q.denominator *ℤ dot (comb z bs) c
        combined = comb-lin K (neg_ℤ q.denominator) past z bs c
            ∙ ap (λ y. K *ℤ y +ℤ neg_ℤ q.denominator *ℤ dot (comb z bs) c) (comb-lin (pos 1) (neg_ℤ q.denominator) q.numerators x bs c)

        two : q.denominator *ℤ (pos 2 *ℤ (K *ℤ (dot t c +ℤ negsuc 0 *ℤ dot (comb x bs) c) +ℤ negsuc 0 *ℤ dot (comb z bs) c))
            ≡ pos 2 *ℤ (K *ℤ (pos 1 *ℤ dot (comb q.numerators bs) c +ℤ neg_ℤ q.denominator *ℤ dot (comb x bs) c) +ℤ neg_ℤ q.denominator *ℤ dot (comb z bs) c)
        two = by-eq (K ∷ q.denominator ∷ dot t c ∷ dot (comb x bs) c ∷ dot (comb z bs) c ∷ dot (comb q.numerators bs) c ∷ []) (negsuc 1 *ℤ K) e.0 (search reads depth 20 fits 5000) (search reads depth 20 fits 5000) tt

  found : (bs : List Vec) → Reduced bs → length bs ≤ 4 → NN M → (t : Vec) (x z s : List ℤ) → length x ≡ length bs → length z ≡ length bs → length s ≡ length bs
      → Slight M (K ⊙ (t ⊖ comb x bs) ⊖ comb z bs) bs → ((i : ℕ) → Between H (pos 10 *ℤ nth z i -ℤ K *ℤ (nth s i -ℤ pos 10 *ℤ nth x i))) → InTenths bs t s
  found bs d l m t x z s e f c g h = in_tenths bs t q s c near
    where
      q : Solution bs t
      q = solution_of bs t

      y : List ℤ
      y = difference bs t x z q

      fits : length y ≡ length bs
      fits = length-lin K (neg_ℤ q.denominator) (past bs t x z q) z (length-lin (pos 1) (neg_ℤ q.denominator) q.numerators x q.count e) f

      q_m : NN (q.denominator *ℤ M)
      q_m = ≤ℤ_of_<ℤ q.positive ⊠ m

      near : (i : ℕ) → Tenth q.denominator (nth q.numerators i) (nth s i)
      near i = rounded (nth q.numerators i) q.denominator (nth x i) (nth z i) (nth s i) q.positive
          (between-≡ refl (ap (λ w. pos 2 *ℤ w) at)
          (between-up (settled-reduced bs d l (q.denominator *ℤ M) q_m y fits (residue bs t x z q bs q.solves g) i)
          (by_nn (pos (bound (length bs)) ∷ (q.denominator *ℤ M) ∷ []) (le (bound-≤ (length bs) l) ⊠ q_m) (search reads depth 20) (search reads depth 20) tt)))
          (h i)
        where
          at : nth y i ≡ K *ℤ (nth q.numerators i +ℤ neg_ℤ q.denominator *ℤ nth x i) +ℤ neg_ℤ q.denominator *ℤ nth z i
          at = simp entries (by_ring (K ∷ q.denominator ∷ nth q.numerators i ∷ nth x i ∷ nth z i ∷ []) (search reads depth 20) (search reads depth 20) tt)

-- the target less a combination x, 8192 times as fine, less a combination z, is slight: then 10·x + 10·z/8192, rounded, are tenths
pub tenths-law : (bs : List Vec) → Reduced bs → length bs ≤ 4 → (t : Vec) (x z s : List ℤ) → length x ≡ length bs → length z ≡ length bs → length s ≡ length bs
    → Slight (pos 3) (pos 8192 ⊙ (t ⊖ comb x bs) ⊖ comb z bs) bs → ((i : ℕ) → Between (pos 4096) (pos 10 *ℤ nth z i -ℤ pos 8192 *ℤ (nth s i -ℤ pos 10 *ℤ nth x i))) → InTenths bs t s
tenths-law bs d l = found (pos 8192) (pos 3) (pos 4096) (nn-pos 8192) (lt_z_yes tt) bs d l (nn-pos 3)
