-- Parts z of reduced vectors bs are taken from a vector u; h holds the inner products of the vectors with what they leave. Sizes, steps to a
-- shorter rest with a measure, and what the end of the steps means.
use Rattle.std.specs.Prelude.{Option, IsNone, ◌≡◌, refl, List, [], ◌∷◌, ℕ, zero, suc, ◌+◌, ◌*◌, ◌≤◌, ◌<◌, ℤ, pos, negsuc, neg_ℤ, nat_abs, ◌+ℤ◌, ◌-ℤ◌, ◌*ℤ◌, ◌≤ℤ◌, ◌<ℤ◌, length, get_or, take, set}
use Rattle.std.proofs.Common.{sym, ap, ap₂, ◌∙◌, subst, subst₂, ⊎_elim, le_of_suc-le-suc, not-suc-le-zero, arith, ltb→lt, length-set, length-take, get_or-take, get_or-set_other, SFits}
use Rattle.std.proofs.Math.Decide.{dec_lt}
use Rattle.std.specs.Int.Signed.{lt_z_yes, le_z_yes}
use Rattle.std.proofs.Math.ListN.{get_or-eq_default}
use Rattle.std.specs.Int.{w64}
use Rattle.integers.specs.AllLaws.{all-places}
use Rattle.integers.specs.Identity.{by_ring, by-eq, reads}
use Rattle.integers.specs.Order.{≤ℤ_trans, ≤ℤ_of_<ℤ, ≤ℤ-or-<ℤ, ≤ℤ_antisymm, zero_or_not}
use Rattle.integers.specs.Certificate.{NN, ◌⊞◌, ◌⊠◌, nn-pos, nn-sq, nn_ring, nn_cancel, nn-false, le, lt, eq, by_nn, by-lt}
use Rattle.integers.specs.Size.{Within, within-add, within-mul, within_of_bounds, within-lower, within-upper, fits-within}
use Rattle.integers.specs.ListLaws.{same}
use Rattle.lattices.specs.Vector.{Vec, N, nth, dot, comb, ◌⊕◌, ◌⊙◌, ◌⊖◌}
use Rattle.lattices.specs.Laws.Vector.{◌≈◌, ≈_refl, ≈_trans, ≈-⊕, ≈-⊙, ≈-N, ≈-dot, nth-≈, bilinear, dot_comm, dot-⊙, dot-⊕ʳ, dot-⊙ʳ, nil-dot, zero-dot, definite, N-nonneg, comb-dot, comb-⊕, comb-⊙, comb-none, against, dot-nil}
use Rattle.row_operations.specs.Minus.{room, nth-minus}
use Rattle.successive_minima.specs.Reduced.{Reduced}
use Rattle.successive_minima.specs.Laws.Digits.{Bounded}
use Rattle.solutions.specs.Laws.Settled.{Between, between-zero, between-up, between-≡, between-cancel, Slight, bound, settled-reduced}
use Rattle.lattices.specs.Laws.Answer.{length-padded, nth-padded}
use Rattle.solutions.specs.Solution.{PaddedTenths}
use Rattle.solutions.specs.Laws.Tenths.{tenths-law}
use Rattle.solution_tenths.specs.Rest.{Rest}
use Rattle.solution_tenths.specs.Tests.{Flat, Steep, Toward, toward_unit}

pub record Taken (bs : List Vec) (u : Vec) (g : List (List ℤ)) (h z : List ℤ) : Type 0 where
  pub few : length bs ≤ 4
  pub reduced : Reduced bs
  pub short : (i : ℕ) → N (get_or bs i []) ≤ℤ pos 400000000
  pub gram : (i j : ℕ) → nth (get_or g i []) j ≡ dot (get_or bs j []) (get_or bs i [])
  pub whole : N u ≤ℤ pos 26843545600000000
  pub products : (j : ℕ) → nth h j ≡ dot (get_or bs j []) (u ⊖ comb z bs)
  pub left : N (u ⊖ comb z bs) ≤ℤ pos 40000000000000000000000
  pub long : length z ≡ 4
  pub behind : (j : ℕ) → length bs ≤ j → nth z j ≡ pos 0

pub record Known (g : List (List ℤ)) (h z : List ℤ) : Type 0 where
  pub vectors : List Vec
  pub target : Vec
  pub taken : Taken vectors target g h z

pub record Settled (bs : List Vec) (u : Vec) (w : List ℤ) : Type 0 where
  pub slight : Slight (pos 3) (u ⊖ comb w bs) bs
  pub long : length w ≡ 4
  pub behind : (j : ℕ) → length bs ≤ j → nth w j ≡ pos 0
  pub small : Bounded 65000000000000 w

-- ---- inner products are bounded by lengths

-- N b ≤ A and N v ≤ K²·A give |<b, v>| ≤ K·A
inner-between : (K A : ℤ) (b v : Vec) → pos 0 <ℤ K → N b ≤ℤ A → N v ≤ℤ (K *ℤ K *ℤ A) → Between (K *ℤ A) (dot b v)
inner-between K A b v p h k = record {
  low = nn_cancel {n = pos 2 *ℤ K} twice (nn_ring (K ∷ A ∷ N b ∷ N v ∷ dot b v ∷ N (K ⊙ b ⊕ v) ∷ [])
      (nn-sq K ⊠ le h ⊞ le k ⊞ N-nonneg (K ⊙ b ⊕ v) ⊞ eq (negsuc 0) plus) (search reads depth 20 fits 5000) (search reads depth 20 fits 5000) tt);
  high = nn_cancel {n = pos 2 *ℤ K} twice (nn_ring (K ∷ A ∷ N b ∷ N v ∷ dot b v ∷ N (K ⊙ b ⊖ v) ∷ [])
      (nn-sq K ⊠ le h ⊞ le k ⊞ N-nonneg (K ⊙ b ⊖ v) ⊞ eq (negsuc 0) minus) (search reads depth 20 fits 5000) (search reads depth 20 fits 5000) tt);
}
  where
    twice : pos 0 <ℤ (pos 2 *ℤ K)
    twice = by-lt (K ∷ []) (lt p ⊞ lt p ⊞ nn-pos 1) (search reads depth 8) (search reads depth 8) tt

    plus : N (K ⊙ b ⊕ v) ≡ K *ℤ K *ℤ N b +ℤ pos 2 *ℤ (K *ℤ dot b v) +ℤ N v
    plus = simp (bilinear, dot_comm v b) (by_ring (K ∷ N b ∷ N v ∷ dot b v ∷ []) (search reads depth 20 fits 5000) (search reads depth 20 fits 5000) tt)

    minus : N (K ⊙ b ⊖ v) ≡ K *ℤ K *ℤ N b -ℤ pos 2 *ℤ (K *ℤ dot b v) +ℤ N v
    minus = simp (bilinear, dot_comm v b) (by_ring (K ∷ N b ∷ N v ∷ dot b v ∷ []) (search reads depth 20 fits 5000) (search reads depth 20 fits 5000) tt)

between-within : {B : ℕ} {z : ℤ} → Between (pos B) z → Within B z
between-within {B} {z} h = within_of_bounds (law (pos B) z h.low) (other (pos B) z h.high)
  where
    law : (b z : ℤ) → NN (b +ℤ z) → neg_ℤ b ≤ℤ z
    law b z h = by_nn (b ∷ z ∷ []) h (search reads) (search reads) tt

    other : (b z : ℤ) → NN (b -ℤ z) → z ≤ℤ b
    other b z h = by_nn (b ∷ z ∷ []) h (search reads) (search reads) tt

-- two short vectors
pub inner-within : (b v : Vec) → N b ≤ℤ pos 400000000 → N v ≤ℤ pos 400000000 → Within 400000000 (dot b v)
inner-within b v h k = between-within (inner-between (pos 1) (pos 400000000) b v (lt_z_yes tt) h k)

-- ---- a combination of few short vectors

-- N (u + v) ≤ 2·N u + 2·N v
sum-≤ : (u v : Vec) → N (u ⊕ v) ≤ℤ (pos 2 *ℤ N u +ℤ pos 2 *ℤ N v)
sum-≤ u v = by_nn (N u ∷ N v ∷ dot u v ∷ N (u ⊕ v) ∷ N (u ⊖ v) ∷ []) (N-nonneg (u ⊖ v) ⊞ eq (negsuc 0) minus ⊞ eq (negsuc 0) plus) (search reads depth 20) (search reads depth 20) tt
  where
    plus : N (u ⊕ v) ≡ N u +ℤ pos 2 *ℤ dot u v +ℤ N v
    plus = simp (bilinear, dot_comm v u) (by_ring (N u ∷ N v ∷ dot u v ∷ []) (search reads depth 20) (search reads depth 20) tt)

    minus : N (u ⊖ v) ≡ N u -ℤ pos 2 *ℤ dot u v +ℤ N v
    minus = simp (bilinear, dot_comm v u) (by_ring (N u ∷ N v ∷ dot u v ∷ []) (search reads depth 20) (search reads depth 20) tt)

difference-≤ : (u v : Vec) → N (u ⊖ v) ≤ℤ (pos 2 *ℤ N u +ℤ pos 2 *ℤ N v)
difference-≤ u v = subst (λ n. N (u ⊖ v) ≤ℤ (pos 2 *ℤ N u +ℤ pos 2 *ℤ n)) opposite (sum-≤ u (negsuc 0 ⊙ v))
  where
    opposite : N (negsuc 0 ⊙ v) ≡ N v
    opposite = simp (dot-⊙, dot-⊙ʳ) (by_ring (N v ∷ []) (search reads depth 8) (search reads depth 8) tt)

abbrev most : ℕ → ℕ
most zero = 0
most (suc n) = 2 * 439804651110400000000 + 2 * most n

most-≤ : (k : ℕ) → k ≤ 4 → pos (most k) ≤ℤ pos 13194139533312000000000
most-≤ zero l = le_z_yes tt
most-≤ (suc zero) l = le_z_yes tt
most-≤ (suc (suc zero)) l = le_z_yes tt
most-≤ (suc (suc (suc zero))) l = le_z_yes tt
most-≤ (suc (suc (suc (suc zero)))) l = le_z_yes tt
most-≤ (suc (suc (suc (suc (suc k))))) l = absurd (omega arith)

comb-≤ : (z : List ℤ) (bs : List Vec) → Bounded 1048576 z → ((i : ℕ) → N (get_or bs i []) ≤ℤ pos 400000000) → N (comb z bs) ≤ℤ pos (most (length bs))
unfolding comb
comb-≤ [] bs f s = subst (λ n. n ≤ℤ pos (most (length bs))) (sym (nil-dot [])) (nn-pos (most (length bs)))
comb-≤ (x ∷ z) [] f s = subst (λ n. n ≤ℤ pos 0) (sym (nil-dot [])) (nn-pos 0)
comb-≤ (x ∷ z) (b ∷ bs) f s = ≤ℤ_trans (sum-≤ (x ⊙ b) (comb z bs))
    (law x (N b) (N (x ⊙ b)) (N (comb z bs)) (pos (most (length bs))) own (N-nonneg b) (within-lower (f 0)) (within-upper (f 0)) (s 0) (comb-≤ z bs (λ i. f (suc i)) (λ i. s (suc i))))
  where
    own : N (x ⊙ b) ≡ x *ℤ x *ℤ N b
    own = simp (dot-⊙, dot-⊙ʳ) (by_ring (x ∷ N b ∷ []) (search reads depth 8) (search reads depth 8) tt)

    law : (x n m c k : ℤ) → m ≡ x *ℤ x *ℤ n → NN n → neg_ℤ (pos 1048576) ≤ℤ x → x ≤ℤ pos 1048576 → n ≤ℤ pos 400000000 → c ≤ℤ k
        → (pos 2 *ℤ m +ℤ pos 2 *ℤ c) ≤ℤ (pos 2 *ℤ pos 439804651110400000000 +ℤ pos 2 *ℤ k)
    law x n m c k e p l u h g = by_nn (x ∷ n ∷ m ∷ c ∷ k ∷ [])
        (eq (negsuc 1) e ⊞ nn-pos 2 ⊠ (le l ⊠ le u) ⊠ p ⊞ nn-pos 2199023255552 ⊠ le h ⊞ nn-pos 2 ⊠ le g) (search reads depth 20 fits 5000) (search reads depth 20 fits 5000) tt

-- ---- one step

-- a step toward what is left shortens it, where more than little is left
shorter : (n p q m : ℤ) → NN n → ¬ (Flat n p) → Toward p q → (m -ℤ pos 2 *ℤ (q *ℤ p) +ℤ q *ℤ q *ℤ n) <ℤ m
shorter n p q m h f t = ⊎_elim plus minus t.side
  where
    plus : ((q ≡ pos 1) × (pos 0 <ℤ p)) → (m -ℤ pos 2 *ℤ (q *ℤ p) +ℤ q *ℤ q *ℤ n) <ℤ m
    plus (e, k) = rw e (⊎_elim
        (λ (l : (pos 2 *ℤ p) ≤ℤ (pos 3 *ℤ n)). absurd (f (record {
          low = nn_ring (n ∷ p ∷ []) (nn-pos 3 ⊠ h ⊞ nn-pos 2 ⊠ (lt k ⊞ nn-pos 1)) (search reads depth 20) (search reads depth 20) tt;
          high = nn_ring (n ∷ p ∷ []) (le l) (search reads depth 20) (search reads depth 20) tt;
        })))
        (λ (l : (pos 3 *ℤ n) <ℤ (pos 2 *ℤ p)). by-lt (m ∷ n ∷ p ∷ []) (lt l ⊞ nn-pos 2 ⊠ h) (search reads depth 20) (search reads depth 20) tt)
        (≤ℤ-or-<ℤ (pos 2 *ℤ p) (pos 3 *ℤ n)))

    minus : ((q ≡ negsuc 0) × (p ≤ℤ pos 0)) → (m -ℤ pos 2 *ℤ (q *ℤ p) +ℤ q *ℤ q *ℤ n) <ℤ m
    minus (e, k) = rw e (⊎_elim
        (λ (l : (negsuc 1 *ℤ p) ≤ℤ (pos 3 *ℤ n)). absurd (f (record {
          low = nn_ring (n ∷ p ∷ []) (le l) (search reads depth 20) (search reads depth 20) tt;
          high = nn_ring (n ∷ p ∷ []) (nn-pos 3 ⊠ h ⊞ nn-pos 2 ⊠ le k) (search reads depth 20) (search reads depth 20) tt;
        })))
        (λ (l : (pos 3 *ℤ n) <ℤ (negsuc 1 *ℤ p)). by-lt (m ∷ n ∷ p ∷ []) (lt l ⊞ nn-pos 2 ⊠ h) (search reads depth 20) (search reads depth 20) tt)
        (≤ℤ-or-<ℤ (negsuc 1 *ℤ p) (pos 3 *ℤ n)))

-- one coefficient changed by q
comb-set : (z : List ℤ) (bs : List Vec) (p : ℕ) (q : ℤ) → p < length z → comb (set z p (nth z p +ℤ q)) bs ≈ q ⊙ get_or bs p [] ⊕ comb z bs
unfolding comb
comb-set [] bs p q h = absurd (not-suc-le-zero h)
comb-set (y ∷ z) [] p q h = ≈_trans (comb-none (set (y ∷ z) p (nth (y ∷ z) p +ℤ q))) (record { on = λ w. simp (bilinear, nil-dot) (by_ring (q ∷ []) (search reads) (search reads) tt) })
comb-set (y ∷ z) (b ∷ bs) zero q h = record { on = λ w. simp bilinear (by_ring (y ∷ q ∷ dot b w ∷ dot (comb z bs) w ∷ []) (search reads depth 20) (search reads depth 20) tt) }
comb-set (y ∷ z) (b ∷ bs) (suc p) q h = ≈_trans (≈-⊕ ≈_refl (comb-set z bs p q (le_of_suc-le-suc h)))
    (record { on = λ w. simp bilinear (by_ring (y ∷ q ∷ dot b w ∷ dot (get_or bs p []) w ∷ dot (comb z bs) w ∷ []) (search reads depth 20) (search reads depth 20) tt) })

-- the inner products of a list of vectors, by places
nth-against : (bs : List Vec) (w : Vec) (i : ℕ) → nth (against bs w) i ≡ dot (get_or bs i []) w
unfolding dot
nth-against [] w i = refl
nth-against (b ∷ bs) w zero = refl
nth-against (b ∷ bs) w (suc i) = nth-against bs w i

pub weighted : (bs : List Vec) (v : Vec) (h e : List ℤ) → ((j : ℕ) → nth h j ≡ dot (get_or bs j []) v) → dot e h ≡ dot (comb e bs) v
weighted bs v h e p = ≈-dot (≈_refl {u = e}) (nth-≈ h (against bs v) (λ j. p j ∙ sym (nth-against bs v j))) ∙ sym (comb-dot e bs v)

-- the size of a settled coefficient
bound-≤ : (k : ℕ) → k ≤ 4 → pos (bound k) ≤ℤ pos 216
bound-≤ zero l = le_z_yes tt
bound-≤ (suc zero) l = le_z_yes tt
bound-≤ (suc (suc zero)) l = le_z_yes tt
bound-≤ (suc (suc (suc zero))) l = le_z_yes tt
bound-≤ (suc (suc (suc (suc k)))) l = le_z_yes tt

comb-take : (bs : List Vec) (l : List ℤ) → comb (take (length bs) l) bs ≡ comb l bs
unfolding comb
comb-take [] [] = refl
comb-take [] (x ∷ l) = refl
comb-take (b ∷ bs) [] = refl
comb-take (b ∷ bs) (x ∷ l) = ap (λ v. x ⊙ b ⊕ v) (comb-take bs l)

-- N w ≤ S² gives |2<w, b>| ≤ 2S·N b
slight_of : (S : ℤ) (w b : Vec) → pos 0 <ℤ S → N w ≤ℤ (S *ℤ S) → Between (pos 2 *ℤ S *ℤ N b) (pos 2 *ℤ dot w b)
slight_of S w b p h = ⊎_elim none some (zero_or_not (N b))
  where
    size : NN (pos 2 *ℤ S *ℤ N b)
    size = nn_ring (S ∷ N b ∷ []) ((nn-pos 2 ⊠ (lt p ⊞ nn-pos 1)) ⊠ N-nonneg b) (search reads depth 8) (search reads depth 8) tt

    none : N b ≡ pos 0 → Between (pos 2 *ℤ S *ℤ N b) (pos 2 *ℤ dot w b)
    none e = between-≡ refl (sym (ap (λ y. pos 2 *ℤ y) (dot_comm w b ∙ zero-dot b (definite b e) w))) (between-zero size)

    plus : N (S ⊙ b ⊕ w) ≡ S *ℤ S *ℤ N b +ℤ pos 2 *ℤ (S *ℤ dot w b) +ℤ N w
    plus = simp (bilinear, dot_comm b w) (by_ring (S ∷ N b ∷ N w ∷ dot w b ∷ []) (search reads depth 20 fits 5000) (search reads depth 20 fits 5000) tt)

    minus : N (S ⊙ b ⊖ w) ≡ S *ℤ S *ℤ N b -ℤ pos 2 *ℤ (S *ℤ dot w b) +ℤ N w
    minus = simp (bilinear, dot_comm b w) (by_ring (S ∷ N b ∷ N w ∷ dot w b ∷ []) (search reads depth 20 fits 5000) (search reads depth 20 fits 5000) tt)

    some : ¬ (N b ≡ pos 0) → Between (pos 2 *ℤ S *ℤ N b) (pos 2 *ℤ dot w b)
    some f = record {
      low = nn_cancel p (nn_ring (S ∷ N b ∷ N w ∷ dot w b ∷ N (S ⊙ b ⊕ w) ∷ []) (N-nonneg (S ⊙ b ⊕ w) ⊞ eq (negsuc 0) plus ⊞ nn-sq S ⊠ lt positive ⊞ le h) (search reads depth 20 fits 5000) (search reads depth 20 fits 5000) tt);
      high = nn_cancel p (nn_ring (S ∷ N b ∷ N w ∷ dot w b ∷ N (S ⊙ b ⊖ w) ∷ []) (N-nonneg (S ⊙ b ⊖ w) ⊞ eq (negsuc 0) minus ⊞ nn-sq S ⊠ lt positive ⊞ le h) (search reads depth 20 fits 5000) (search reads depth 20 fits 5000) tt);
    }
      where
        positive : pos 0 <ℤ N b
        positive = ⊎_elim (λ (l : N b ≤ℤ pos 0). absurd (f (≤ℤ_antisymm l (N-nonneg b)))) (λ l. l) (≤ℤ-or-<ℤ (N b) (pos 0))

-- ---- what is taken

module _ {bs : List Vec} {u : Vec} {g : List (List ℤ)} {h z : List ℤ} (m : Taken bs u g h z) where
  abbrev rest : Vec
  rest = u ⊖ comb z bs

  pub gram-bounded : (i : ℕ) → Bounded 400000000 (get_or g i [])
  gram-bounded i j = subst (Within 400000000) (sym (m.gram i j)) (inner-within (get_or bs j []) (get_or bs i []) (m.short j) (m.short i))

  pub products-bounded : Bounded 4000000000000000 h
  products-bounded j = subst (Within 4000000000000000) (sym (m.products j)) (between-within (inner-between (pos 10000000) (pos 400000000) (get_or bs j []) rest (lt_z_yes tt) (m.short j) m.left))

  near : N (comb z bs) ≤ℤ (pos 300000000000 *ℤ pos 300000000000)
  near = by_nn (N u ∷ N rest ∷ N (comb z bs) ∷ N (u ⊖ rest) ∷ [])
      (le (difference-≤ u rest) ⊞ nn-pos 2 ⊠ le m.whole ⊞ nn-pos 2 ⊠ le m.left ⊞ eq (pos 1) (≈-N apart) ⊞ nn-pos 9999946312908800000000) (search reads depth 20) (search reads depth 20) tt
    where
      apart : u ⊖ rest ≈ comb z bs
      apart = record { on = λ w. simp bilinear (by_ring (dot u w ∷ dot (comb z bs) w ∷ []) (search reads depth 20) (search reads depth 20) tt) }

  pub parts-bounded : Bounded 65000000000000 z
  parts-bounded j = pick (dec_lt j (length bs))
    where
      fewer : length (take (length bs) z) ≡ length bs
      fewer = omega (arith, length-take (length bs) z, m.long, m.few)

      slight : Slight (pos 600000000000) (comb (take (length bs) z) bs) bs
      slight = subst (λ w. Slight (pos 600000000000) w bs) (sym (comb-take bs z))
          (all-places (λ b. Between (pos 600000000000 *ℤ N b) (pos 2 *ℤ dot (comb z bs) b)) bs [] (λ k l. slight_of (pos 300000000000) (comb z bs) (get_or bs k []) (lt_z_yes tt) near))

      pick : Dec (j < length bs) → Within 65000000000000 (nth z j)
      pick (yes l) = between-within (between-cancel (pos 2) (lt_z_yes tt)
          (between-≡ refl (ap (λ y. pos 2 *ℤ y) (get_or-take (length bs) z j (pos 0) l))
          (between-up (settled-reduced bs m.reduced m.few (pos 600000000000) (nn-pos 600000000000) (take (length bs) z) fewer slight j)
          (≤ℤ_trans (law (pos (bound (length bs))) (bound-≤ (length bs) m.few)) (le_z_yes tt)))))
        where
          law : (b : ℤ) → b ≤ℤ pos 216 → (b *ℤ pos 600000000000) ≤ℤ (pos 216 *ℤ pos 600000000000)
          law b l = by_nn (b ∷ []) (le l ⊠ nn-pos 600000000000) (search reads depth 8) (search reads depth 8) tt
      pick (no l) = subst (Within 65000000000000) (sym (m.behind j (omega (arith, l)))) (record { within = omega arith })

  module _ (p : ℕ) (q : ℤ) (t : Toward (nth h p) q) where
    pub step_room : (i : ℕ) → nat_abs (nth h i) + nat_abs (q *ℤ nth (get_or g p []) i) ≤ room
    step_room i = omega (arith, (products-bounded i).within, (within-mul (toward_unit t) (gram-bounded p i)).within)

    pub next_fits : SFits w64 (nth z p +ℤ q)
    next_fits = fits-within (within-add (parts-bounded p) (toward_unit t)) tt

    module _ (few : p < 4) (f : ¬ (Flat (nth (get_or g p []) p) (nth h p))) where
      abbrev next : List ℤ
      next = set z p (nth z p +ℤ q)

      inside : p < length bs
      inside = pick (dec_lt p (length bs))
        where
          pick : Dec (p < length bs) → p < length bs
          pick (yes l) = l
          pick (no l) =
              let none : get_or bs p [] ≡ [] = get_or-eq_default bs [] (omega (arith, l)) in
              let square : nth (get_or g p []) p ≡ pos 0 = m.gram p p ∙ ap (λ b. dot b (get_or bs p [])) none ∙ nil-dot (get_or bs p []) in
              let inner : nth h p ≡ pos 0 = m.products p ∙ ap (λ b. dot b rest) none ∙ nil-dot rest in
              absurd (f (subst₂ Flat (sym square) (sym inner) (between-zero (nn-pos 0))))

      moved : u ⊖ comb next bs ≈ rest ⊖ q ⊙ get_or bs p []
      moved = ≈_trans (≈-⊕ ≈_refl (≈-⊙ (negsuc 0) (comb-set z bs p q (omega (arith, m.long)))))
          (record { on = λ w. simp bilinear (by_ring (q ∷ dot u w ∷ dot (get_or bs p []) w ∷ dot (comb z bs) w ∷ []) (search reads depth 20) (search reads depth 20) tt) })

      pub falls : N (u ⊖ comb next bs) <ℤ N rest
      falls = subst (λ n. n <ℤ N rest) (sym (≈-N moved ∙ square rest (get_or bs p []) ∙ ap₂ (λ a b. N rest -ℤ pos 2 *ℤ (q *ℤ a) +ℤ q *ℤ q *ℤ b) (sym (m.products p)) (sym (m.gram p p))))
          (shorter (nth (get_or g p []) p) (nth h p) q (N rest) (subst NN (sym (m.gram p p)) (N-nonneg (get_or bs p []))) f t)
        where
          square : (v b : Vec) → N (v ⊖ q ⊙ b) ≡ N v -ℤ pos 2 *ℤ (q *ℤ dot b v) +ℤ q *ℤ q *ℤ N b
          square v b = simp (bilinear, dot_comm v b) (by_ring (q ∷ N v ∷ N b ∷ dot b v ∷ []) (search reads depth 20 fits 5000) (search reads depth 20 fits 5000) tt)

      pub taken_next : Taken bs u g (h ⊖ q ⊙ get_or g p []) next
      taken_next = record {
        few = m.few;
        reduced = m.reduced;
        short = m.short;
        gram = m.gram;
        whole = m.whole;
        products = λ j. nth-minus h q (get_or g p []) j ∙ ap₂ (λ a b. a -ℤ q *ℤ b) (m.products j) (m.gram p j) ∙ back (get_or bs j []) (get_or bs p []) rest ∙ sym (≈-dot (≈_refl {u = get_or bs j []}) moved);
        left = ≤ℤ_trans (≤ℤ_of_<ℤ falls) m.left;
        long = length-set z p (nth z p +ℤ q) ∙ m.long;
        behind = λ j l. get_or-set_other z p j (nth z p +ℤ q) (pos 0) (omega (arith, inside)) ∙ m.behind j l;
      }
        where
          back : (a b v : Vec) → dot a v -ℤ q *ℤ dot a b ≡ dot a (v ⊖ q ⊙ b)
          back a b v = simp bilinear (by_ring (q ∷ dot a v ∷ dot a b ∷ []) (search reads depth 20) (search reads depth 20) tt)

  -- the end of the steps
  pub taken-settled : {o : Option ℕ} → Steep g h o → IsNone o → Settled bs u z
  taken-settled t n = record {
    slight = all-places (λ b. Between (pos 3 *ℤ N b) (pos 2 *ℤ dot rest b)) bs []
        (λ j l. between-≡ (ap (λ y. pos 3 *ℤ y) (m.gram j j)) (ap (λ y. pos 2 *ℤ y) (m.products j ∙ dot_comm (get_or bs j []) rest)) (t.flat n j (omega (arith, m.few))));
    long = m.long;
    behind = m.behind;
    small = parts-bounded;
  }

-- ---- the measure: the squared length of what is left, from numbers alone, up to what does not change

pub measure : List ℤ → List ℤ → List ℤ → List ℤ → ℕ
measure h₀ z₀ h z = nat_abs (pos 40000000000000000000000 -ℤ dot (z ⊖ z₀) (h₀ ⊕ h))

value : {bs : List Vec} {u : Vec} {g : List (List ℤ)} {h₀ z₀ h z : List ℤ} → Taken bs u g h₀ z₀ → Taken bs u g h z
    → pos 40000000000000000000000 -ℤ dot (z ⊖ z₀) (h₀ ⊕ h) ≡ (pos 40000000000000000000000 -ℤ N (u ⊖ comb z₀ bs)) +ℤ N (u ⊖ comb z bs)
value {bs} {u} {g} {h₀} {z₀} {h} {z} m n = law (pos 40000000000000000000000) (dot (z ⊖ z₀) (h₀ ⊕ h)) (N (u ⊖ comb z₀ bs)) (N (u ⊖ comb z bs))
    (dot-⊕ʳ h₀ h (z ⊖ z₀) ∙ ap₂ ◌+ℤ◌ (weighted bs (u ⊖ comb z₀ bs) h₀ (z ⊖ z₀) m.products) (weighted bs (u ⊖ comb z bs) h (z ⊖ z₀) n.products)
    ∙ ap₂ ◌+ℤ◌ (apart.on (u ⊖ comb z₀ bs)) (apart.on (u ⊖ comb z bs)) ∙ squares u (comb z₀ bs) (comb z bs))
  where
    apart : comb (z ⊖ z₀) bs ≈ comb z bs ⊖ comb z₀ bs
    apart = ≈_trans (comb-⊕ z (negsuc 0 ⊙ z₀) bs) (≈-⊕ ≈_refl (comb-⊙ (negsuc 0) z₀ bs))

    squares : (u v w : Vec) → dot (w ⊖ v) (u ⊖ v) +ℤ dot (w ⊖ v) (u ⊖ w) ≡ N (u ⊖ v) -ℤ N (u ⊖ w)
    squares u v w = simp (bilinear, dot_comm v u, dot_comm w u, dot_comm w v) (by_ring (N u ∷ N v ∷ N w ∷ dot u v ∷ dot u w ∷ dot v w ∷ []) (search reads depth 20 fits 5000) (search reads depth 20 fits 5000) tt)

    law : (b d s r : ℤ) → d ≡ s -ℤ r → b -ℤ d ≡ (b -ℤ s) +ℤ r
    law b d s r e = by-eq (b ∷ d ∷ s ∷ r ∷ []) (negsuc 0) e (search reads depth 8) (search reads depth 8) tt

smaller : {a b : ℤ} → NN a → a <ℤ b → nat_abs a < nat_abs b
smaller {a = pos m} {b = pos n} h l = ltb→lt m n l.lt
smaller {a = pos m} {b = negsuc n} h l = absurd l.lt
smaller {a = negsuc m} h l = absurd h.le

pub descends : {bs : List Vec} {u : Vec} {g : List (List ℤ)} {h₀ z₀ h z h' z' : List ℤ} → Taken bs u g h₀ z₀ → Taken bs u g h z → Taken bs u g h' z' → N (u ⊖ comb z' bs) <ℤ N (u ⊖ comb z bs)
    → measure h₀ z₀ h' z' < measure h₀ z₀ h z
unfolding measure
descends {bs} {u} {z₀ = z₀} {z = z} {z' = z'} m n o l = smaller
    (subst NN (sym (value m o)) (nn_ring (N (u ⊖ comb z₀ bs) ∷ N (u ⊖ comb z' bs) ∷ []) (le m.left ⊞ N-nonneg (u ⊖ comb z' bs)) (search reads depth 8) (search reads depth 8) tt))
    (subst₂ ◌<ℤ◌ (sym (value m o)) (sym (value m n)) (by-lt (N (u ⊖ comb z₀ bs) ∷ N (u ⊖ comb z' bs) ∷ N (u ⊖ comb z bs) ∷ []) (lt l) (search reads depth 8) (search reads depth 8) tt))

-- ---- the start

module _ {d : ℕ} {bs : List Vec} {t : Vec} {g : List (List ℤ)} {x r : List ℤ} (few : d ≤ 4) (m : Rest d bs t g x r) where
  pub rest-gram : (i : ℕ) → Bounded 400000000 (get_or g i [])
  rest-gram i j = subst (Within 400000000) (sym (m.gram i j)) (inner-within (get_or bs j []) (get_or bs i []) (m.short j) (m.short i))

  pub rest-products : Bounded 400000000 r
  rest-products j = subst (Within 400000000) (sym (m.products j)) (inner-within (get_or bs j []) (t ⊖ comb (take d x) bs) (m.short j) m.left)

  -- behind d there is no vector
  none : (i : ℕ) → d ≤ i → get_or bs i [] ≡ []
  none i h = get_or-eq_default bs [] (omega (arith, m.count))

  pub rest-behind : (i : ℕ) → d ≤ i → nth r i ≡ pos 0
  rest-behind i h = m.products i ∙ ap (λ v. dot v (t ⊖ comb (take d x) bs)) (none i h) ∙ nil-dot (t ⊖ comb (take d x) bs)

  pub row-behind : (i : ℕ) → d ≤ i → (j : ℕ) → nth (get_or g i []) j ≡ pos 0
  row-behind i h j = m.gram i j ∙ ap (dot (get_or bs j [])) (none i h) ∙ dot-nil (get_or bs j [])

  abbrev pub fine : Vec
  fine = pos 8192 ⊙ (t ⊖ comb (take d x) bs)

  fine-≤ : N fine ≤ℤ pos 26843545600000000
  fine-≤ = by_nn (N (t ⊖ comb (take d x) bs) ∷ N fine ∷ []) (nn-pos 67108864 ⊠ le m.left ⊞ eq (negsuc 0) (opened (t ⊖ comb (take d x) bs))) (search reads depth 8) (search reads depth 8) tt
    where
      opened : (v : Vec) → N (pos 8192 ⊙ v) ≡ pos 67108864 *ℤ N v
      opened v = simp (dot-⊙, dot-⊙ʳ) (by_ring (N v ∷ []) (search reads depth 8) (search reads depth 8) tt)

  pub taken_start : (h z : List ℤ) → length z ≡ 4 → Bounded 1048576 z → ((j : ℕ) → d ≤ j → nth z j ≡ pos 0)
      → ((j : ℕ) → nth h j ≡ pos 8192 *ℤ nth r j -ℤ dot z (get_or g j [])) → Taken bs fine g h z
  taken_start h z e f b p = record {
    few = omega (arith, m.count);
    reduced = m.reduced;
    short = m.short;
    gram = m.gram;
    whole = fine-≤;
    products = λ j. p j ∙ ap₂ (λ a c. pos 8192 *ℤ a -ℤ c) (m.products j) (weighted bs (get_or bs j []) (get_or g j []) z (m.gram j)) ∙ back (get_or bs j []) (t ⊖ comb (take d x) bs) (comb z bs);
    left = by_nn (N fine ∷ N (comb z bs) ∷ N (fine ⊖ comb z bs) ∷ pos (most (length bs)) ∷ [])
        (le (difference-≤ fine (comb z bs)) ⊞ nn-pos 2 ⊠ le fine-≤ ⊞ nn-pos 2 ⊠ le (comb-≤ z bs f m.short) ⊞ nn-pos 2 ⊠ le (most-≤ (length bs) (omega (arith, m.count))) ⊞ nn-pos 13611667246284800000000)
        (search reads depth 20) (search reads depth 20) tt;
    long = e;
    behind = λ j l. b j (omega (arith, m.count));
  }
    where
      back : (b v w : Vec) → pos 8192 *ℤ dot b v -ℤ dot w b ≡ dot b (pos 8192 ⊙ v ⊖ w)
      back b v w = simp (bilinear, dot_comm w b) (by_ring (dot b v ∷ dot b w ∷ []) (search reads depth 20) (search reads depth 20) tt)

  -- ---- the end
  pub padded-tenths : (s w : List ℤ) → length s ≡ 4 → Settled bs fine w → ((i : ℕ) → Between (pos 4096) (pos 10 *ℤ nth w i -ℤ pos 8192 *ℤ (nth s i -ℤ pos 10 *ℤ nth x i))) → PaddedTenths bs t s
  padded-tenths s w e k f = record {
    numbers = take d s;
    tenths = tenths-law bs m.reduced (omega (arith, m.count)) t (take d x) (take d w) (take d s) (size x m.long) (size w k.long) (size s e)
        (subst (λ v. Slight (pos 3) (fine ⊖ v) bs) (sym front) k.slight) near;
    places = same (e ∙ sym (length-padded 4 (take d s))) (λ i. place i ∙ sym (nth-padded 4 (take d s) (omega (arith, length-take d s, e)) i));
  }
    where
      size : (l : List ℤ) → length l ≡ 4 → length (take d l) ≡ length bs
      size l e = omega (arith, length-take d l, m.count)

      front : comb (take d w) bs ≡ comb w bs
      front = subst (λ n. comb (take n w) bs ≡ comb w bs) m.count (comb-take bs w)

      outside : (l : List ℤ) (i : ℕ) → d ≤ i → nth (take d l) i ≡ pos 0
      outside l i h = get_or-eq_default (take d l) (pos 0) (omega (arith, length-take d l))

      none : (i : ℕ) → d ≤ i → nth s i ≡ pos 0
      none i h = zero-near (nth s i) (subst₂ (λ a b. Between (pos 4096) (pos 10 *ℤ a -ℤ pos 8192 *ℤ (nth s i -ℤ pos 10 *ℤ b))) (k.behind i (omega (arith, m.count))) (m.behind i h) (f i))
        where
          zero-near : (y : ℤ) → Between (pos 4096) (pos 10 *ℤ pos 0 -ℤ pos 8192 *ℤ (y -ℤ pos 10 *ℤ pos 0)) → y ≡ pos 0
          zero-near y h = ⊎_elim
              (λ (l : y ≤ℤ pos 0). ⊎_elim (λ (k : pos 0 ≤ℤ y). ≤ℤ_antisymm l k) (λ (k : y <ℤ pos 0). nn-false (y ∷ []) (h.high ⊞ nn-pos 8192 ⊠ lt k ⊞ nn-pos 4095) (search reads depth 20) tt) (≤ℤ-or-<ℤ (pos 0) y))
              (λ (l : pos 0 <ℤ y). nn-false (y ∷ []) (h.low ⊞ nn-pos 8192 ⊠ lt l ⊞ nn-pos 4095) (search reads depth 20) tt)
              (≤ℤ-or-<ℤ y (pos 0))

      place : (i : ℕ) → nth s i ≡ nth (take d s) i
      place i = pick (dec_lt i d)
        where
          pick : Dec (i < d) → nth s i ≡ nth (take d s) i
          pick (yes h) = sym (get_or-take d s i (pos 0) h)
          pick (no h) = none i (omega (arith, h)) ∙ sym (outside s i (omega (arith, h)))

      near : (i : ℕ) → Between (pos 4096) (pos 10 *ℤ nth (take d w) i -ℤ pos 8192 *ℤ (nth (take d s) i -ℤ pos 10 *ℤ nth (take d x) i))
      near i = pick (dec_lt i d)
        where
          value-at : {a b c a' b' c' : ℤ} → a ≡ a' → b ≡ b' → c ≡ c' → Between (pos 4096) (pos 10 *ℤ a -ℤ pos 8192 *ℤ (b -ℤ pos 10 *ℤ c)) → Between (pos 4096) (pos 10 *ℤ a' -ℤ pos 8192 *ℤ (b' -ℤ pos 10 *ℤ c'))
          value-at p q r = between-≡ refl (ap₂ (λ a y. pos 10 *ℤ a -ℤ pos 8192 *ℤ y) p (ap₂ (λ b c. b -ℤ pos 10 *ℤ c) q r))

          pick : Dec (i < d) → Between (pos 4096) (pos 10 *ℤ nth (take d w) i -ℤ pos 8192 *ℤ (nth (take d s) i -ℤ pos 10 *ℤ nth (take d x) i))
          pick (yes h) = value-at (sym (get_or-take d w i (pos 0) h)) (sym (get_or-take d s i (pos 0) h)) (sym (get_or-take d x i (pos 0) h)) (f i)
          pick (no h) = value-at (sym (outside w i (omega (arith, h)))) (sym (outside s i (omega (arith, h)))) (sym (outside x i (omega (arith, h)))) (record { low = le_z_yes tt; high = le_z_yes tt })
