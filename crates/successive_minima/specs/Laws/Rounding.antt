-- Interpolation and rounding: a lower bound on all points c + comb z bs holds at the points of the n times finer grid up to a `loss`.
-- The bound is one of lists (`Nonneg`: a number, then the tie list), so the version for numbers alone is the one with an empty tie list.
use Rattle.std.specs.Prelude.{◌≡◌, refl, ℕ, zero, suc, ◌≤◌, ℤ, pos, neg_ℤ, ◌+ℤ◌, ◌-ℤ◌, ◌*ℤ◌, ◌≤ℤ◌, ◌<ℤ◌, length, get_or}
use Rattle.std.proofs.Common.{sym, ap, ◌∙◌, subst, ⊎_elim, inr, arith, le→leb}
use mathlib.Core.List.{List, [], ◌∷◌, tail}
use Rattle.std.proofs.Math.IntN.{*ℤ-zero, +ℤ_one, +ℤ_idl, +ℤ_assoc}
use Rattle.std.specs.Int.Signed.{lt_z_yes, le_z_yes}
use Rattle.integers.specs.Identity.{by_ring, by-eq, reads}
use Rattle.integers.specs.Order.{≤ℤ_of_<ℤ, ≤ℤ_antisymm, ≤ℤ-or-<ℤ, *ℤ-cancel-≤}
use Rattle.integers.specs.Certificate.{NN, ◌⊞◌, ◌⊠◌, nn-sq, nn-pos, nn_ring, le, lt, eq, by_nn}
use Rattle.integers.specs.Division.{up, quot, rest, up_pos, quot-rest, rest-nonneg, rest_lt}
use Rattle.integers.specs.ListLaws.{entries}
use Rattle.integers.specs.Lex.{Nonneg, head-nonneg, nonneg-⊕, nonneg-⊙, nonneg-cancel, nonneg_ext, nonneg-scale, nonneg_raise, nonneg-zeros}
use Rattle.lattices.specs.Vector.{Vec, N, nth, dot, comb, ◌⊕◌, ◌⊙◌}
use Rattle.lattices.specs.Laws.Vector.{dot_comm, dot-nil, nil-dot, dot-⊕, dot-⊙, dot-⊙ʳ, bilinear, N-nonneg, comb-dot, ◌≈◌, ≈_refl, ≈_sym, ≈_trans, ≈-⊕, ≈-nth, ≈-Zero}
use Rattle.successive_minima.specs.Laws.Values.{gain}
use Rattle.successive_minima.specs.Laws.ValueLaws.{gain-≈}
use Rattle.successive_minima.specs.Reduced.{Under}

-- ---- interpolation between p and p + n·b
pub interpolate : (n r : ℤ) (p b : Vec) → (n -ℤ r) *ℤ N p +ℤ r *ℤ N (p ⊕ n ⊙ b) ≡ n *ℤ N (p ⊕ r ⊙ b) +ℤ n *ℤ (r *ℤ (n -ℤ r) *ℤ N b)
interpolate n r p b =
    simp (bilinear, dot_comm b p) (by_ring (n ∷ r ∷ N p ∷ dot p b ∷ N b ∷ []) (search reads depth 20 fits 5000) (search reads depth 20 fits 5000) tt)

-- a lower bound of the divisor
pub ≤-up : (m k : ℕ) → m ≤ suc k → pos m ≤ℤ up k
unfolding up
≤-up m k h = le_z_yes (le→leb m (suc k) h)

-- ---- what is lost when a coefficient is rounded to multiples of n = up k
-- of one coefficient: (w mod n)·(n − w mod n)
unfoldable pub dent : ℕ → ℤ → ℤ
dent k w = rest k w *ℤ (up k -ℤ rest k w)

pub dent_fourth : (k : ℕ) (w : ℤ) → (pos 4 *ℤ dent k w) ≤ℤ (up k *ℤ up k)
unfolding dent
dent_fourth k w = by_nn (up k ∷ rest k w ∷ []) (nn-sq (up k -ℤ pos 2 *ℤ rest k w)) (search reads depth 20) (search reads depth 20) tt

-- the product of two neighbouring integers is not negative
neighbours : (x : ℤ) → NN (x *ℤ (x -ℤ pos 1))
neighbours x = ⊎_elim
    (λ (h : x ≤ℤ pos 0). nn_ring (x ∷ []) (le h ⊠ (le h ⊞ nn-pos 1)) (search reads depth 20) (search reads depth 20) tt)
    (λ (h : pos 0 <ℤ x). nn_ring (x ∷ []) (lt h ⊠ (lt h ⊞ nn-pos 1)) (search reads depth 20) (search reads depth 20) tt)
    (≤ℤ-or-<ℤ x (pos 0))

-- at n = 3 it is (r − 1)·(r − 2) ≥ 0; from n = 4 on four times the difference is 3·(n − 2r)² + n·(n − 4)
third : (n r : ℤ) → pos 3 ≤ℤ n → (pos 3 *ℤ (r *ℤ (n -ℤ r))) ≤ℤ (n *ℤ (n -ℤ pos 1))
third n r h = ⊎_elim three more (≤ℤ-or-<ℤ n (pos 3))
  where
    three : n ≤ℤ pos 3 → (pos 3 *ℤ (r *ℤ (n -ℤ r))) ≤ℤ (n *ℤ (n -ℤ pos 1))
    three k = by_nn (n ∷ r ∷ []) (nn-pos 3 ⊠ neighbours (r -ℤ pos 1) ⊞ eq (n +ℤ pos 2 -ℤ pos 3 *ℤ r) (≤ℤ_antisymm k h))
        (search reads depth 20) (search reads depth 20) tt

    more : pos 3 <ℤ n → (pos 3 *ℤ (r *ℤ (n -ℤ r))) ≤ℤ (n *ℤ (n -ℤ pos 1))
    more k = *ℤ-cancel-≤ {c = pos 4} (lt_z_yes tt)
        (by_nn (n ∷ r ∷ []) (nn-pos 3 ⊠ nn-sq (n -ℤ pos 2 *ℤ r) ⊞ (lt k ⊞ nn-pos 4) ⊠ lt k) (search reads depth 20) (search reads depth 20) tt)

pub dent-third : (k : ℕ) (w : ℤ) → pos 3 ≤ℤ up k → (pos 3 *ℤ dent k w) ≤ℤ (up k *ℤ (up k -ℤ pos 1))
unfolding dent
dent-third k w h = third (up k) (rest k w) h

-- of a list: each coefficient's, times the squared length of its vector
unfoldable pub loss : ℕ → List ℤ → List Vec → ℤ
loss k [] bs = pos 0
loss k (w ∷ ws) [] = pos 0
loss k (w ∷ ws) (b ∷ bs) = dent k w *ℤ N b +ℤ loss k ws bs

-- if a·ρ ≤ e for each coefficient then a·loss ≤ m·e·t for at most m vectors of squared length at most t
pub loss-bound : (a : ℤ) {e t : ℤ} (k m : ℕ) → ((w : ℤ) → (a *ℤ dent k w) ≤ℤ e) → NN e → NN t → (w : List ℤ) (bs : List Vec) → Under t bs → length bs ≤ m → (a *ℤ loss k w bs) ≤ℤ (pos m *ℤ (e *ℤ t))
unfolding loss
loss-bound a k m h p q [] bs u l = rw (*ℤ-zero a) (nn-pos m ⊠ (p ⊠ q))
loss-bound a k m h p q (w ∷ ws) [] u l = rw (*ℤ-zero a) (nn-pos m ⊠ (p ⊠ q))
loss-bound a k zero h p q (w ∷ ws) (b ∷ bs) u l = absurd (omega arith)
loss-bound a {e} {t} k (suc m) h p q (w ∷ ws) (b ∷ bs) u l =
    subst (λ c. (a *ℤ (dent k w *ℤ N b +ℤ loss k ws bs)) ≤ℤ (c *ℤ (e *ℤ t))) (+ℤ_one (pos m))
    (one_more a (dent k w) (loss k ws bs) (pos m) (h w) (N-nonneg b) u.0 p (loss-bound a k m h p q ws bs u.1 (omega arith)))
  where
    one_more : (a d s c : ℤ) {e t n : ℤ} → (a *ℤ d) ≤ℤ e → NN n → n ≤ℤ t → NN e → (a *ℤ s) ≤ℤ (c *ℤ (e *ℤ t)) → (a *ℤ (d *ℤ n +ℤ s)) ≤ℤ ((c +ℤ pos 1) *ℤ (e *ℤ t))
    one_more a d s c {e} {t} {n} h i u p r =
        by_nn (a ∷ d ∷ e ∷ t ∷ n ∷ s ∷ c ∷ []) (le h ⊠ i ⊞ p ⊠ le u ⊞ le r) (search reads depth 20) (search reads depth 20) tt

-- ---- rounding
-- the value at y, with an offset m and the tie list x, is not below zero
pub record Above (r : Vec) (m : ℤ) (y : Vec) (x : List ℤ) : Type 0 where
  pub nonneg : Nonneg ((gain r y +ℤ m) ∷ x)

twice-⊙ : {n : ℤ} (a : ℤ) (x : List ℤ) → pos 0 <ℤ n → Nonneg (a ∷ x) → Nonneg ((n *ℤ (n *ℤ a)) ∷ (n ⊙ x))
unfolding ◌⊙◌
twice-⊙ {n} a x h p = nonneg-scale (n *ℤ a) (n ⊙ x) h (nonneg-⊙ (a ∷ x) (≤ℤ_of_<ℤ h) p)

pub nonneg-≈ : {a a' : ℤ} (u u' : List ℤ) → a ≡ a' → u ≈ u' → Nonneg (a ∷ u) → Nonneg (a' ∷ u')
nonneg-≈ {a} {a'} u u' e f p = nonneg_ext (a ∷ u) (a' ∷ u') entry p
  where
    entry : (i : ℕ) → nth (a ∷ u) i ≡ nth (a' ∷ u') i
    entry zero = e
    entry (suc i) = ≈-nth f i

pub above-≈ : {r y y' : Vec} {m : ℤ} {x x' : List ℤ} → y ≈ y' → x ≈ x' → Above r m y x → Above r m y' x'
above-≈ {r} {m} {x} {x'} e f p = record { nonneg = nonneg-≈ x x' (ap (λ a. a +ℤ m) (gain-≈ r e)) f p.nonneg }

-- everything n times as large
above-⊙ : {r c : Vec} {m : ℤ} {x : List ℤ} (n : ℤ) → pos 0 <ℤ n → Above r m c x → Above (n ⊙ r) (n *ℤ n *ℤ m) (n ⊙ c) (n ⊙ x)
unfolding gain
above-⊙ {r} {c} {m} {x} n h p = record { nonneg = nonneg-≈ (n ⊙ x) (n ⊙ x) number ≈_refl (twice-⊙ (gain r c +ℤ m) x h p.nonneg) }
  where
    number : n *ℤ (n *ℤ (gain r c +ℤ m)) ≡ gain (n ⊙ r) (n ⊙ c) +ℤ n *ℤ n *ℤ m
    number = simp bilinear (by_ring (n ∷ N c ∷ dot c r ∷ m ∷ []) (search reads depth 20 fits 5000) (search reads depth 20 fits 5000) tt)

-- a mean of two lists, by entries
mean : {n a : ℤ} (u v t : List ℤ) → pos 0 <ℤ n → NN a → a ≤ℤ n → ((i : ℕ) → (n -ℤ a) *ℤ nth u i +ℤ a *ℤ nth v i ≡ n *ℤ nth t i) → Nonneg u → Nonneg v → Nonneg t
mean {n} {a} u v t h i j e p q = nonneg-cancel t h
    (nonneg_ext ((n -ℤ a) ⊙ u ⊕ a ⊙ v) (n ⊙ t) (λ i. simp entries (e i)) (nonneg-⊕ ((n -ℤ a) ⊙ u) (a ⊙ v) (nonneg-⊙ u (le j) p) (nonneg-⊙ v i q)))

-- a bound at p and at p + n·b gives one in between
above-mean : {r p : Vec} {m : ℤ} {x : List ℤ} (n a : ℤ) (b : Vec) (u : List ℤ) → pos 0 <ℤ n → NN a → a ≤ℤ n → Above r m p x → Above r m (p ⊕ n ⊙ b) (x ⊕ n ⊙ u) → Above r (a *ℤ (n -ℤ a) *ℤ N b +ℤ m) (p ⊕ a ⊙ b) (x ⊕ a ⊙ u)
unfolding gain
above-mean {r} {p} {m} {x} n a b u h i j s t = record {
  nonneg = mean
      ((gain r p +ℤ m) ∷ x) ((gain r (p ⊕ n ⊙ b) +ℤ m) ∷ (x ⊕ n ⊙ u)) ((gain r (p ⊕ a ⊙ b) +ℤ (a *ℤ (n -ℤ a) *ℤ N b +ℤ m)) ∷ (x ⊕ a ⊙ u))
      h i j between s.nonneg t.nonneg;
}
  where
    between : (i : ℕ) → (n -ℤ a) *ℤ nth ((gain r p +ℤ m) ∷ x) i +ℤ a *ℤ nth ((gain r (p ⊕ n ⊙ b) +ℤ m) ∷ (x ⊕ n ⊙ u)) i
        ≡ n *ℤ nth ((gain r (p ⊕ a ⊙ b) +ℤ (a *ℤ (n -ℤ a) *ℤ N b +ℤ m)) ∷ (x ⊕ a ⊙ u)) i
    between zero = rw (dot-⊕ p (n ⊙ b) r, dot-⊙ n b r, dot-⊕ p (a ⊙ b) r, dot-⊙ a b r)
        (by-eq (n ∷ a ∷ N p ∷ N (p ⊕ n ⊙ b) ∷ N (p ⊕ a ⊙ b) ∷ N b ∷ dot p r ∷ dot b r ∷ m ∷ []) (pos 1) (interpolate n a p b) (search reads depth 20 fits 5000) (search reads depth 20 fits 5000) tt)
    between (suc i) = simp entries (by_ring (n ∷ a ∷ nth x i ∷ nth u i ∷ []) (search reads depth 20) (search reads depth 20) tt)

-- ---- the list opened at its first vector, the zero vector for a missing one
open_comb : (w : ℤ) (ws : List ℤ) (bs : List Vec) → comb (w ∷ ws) bs ≈ w ⊙ get_or bs 0 [] ⊕ comb ws (tail bs)
unfolding comb
open_comb w ws [] = record { on = λ v. simp (bilinear, comb-dot, nil-dot, dot-nil) (by_ring (w ∷ []) (search reads) (search reads) tt) }
open_comb w ws (b ∷ bs) = ≈_refl

open_loss : (k : ℕ) (w : ℤ) (ws : List ℤ) (bs : List Vec) → loss k (w ∷ ws) bs ≡ dent k w *ℤ N (get_or bs 0 []) +ℤ loss k ws (tail bs)
unfolding loss
open_loss k w [] [] = simp (nil-dot, *ℤ-zero)
open_loss k w (v ∷ ws) [] = simp (nil-dot, *ℤ-zero)
open_loss k w ws (b ∷ bs) = refl

-- c + w·b + … with w = q·n + a: the first coefficient moves from n·q to n·(q + 1), and stands a steps from the first of these
module _ (n q : ℤ) (c : Vec) where
  taken : (z : List ℤ) (bs : List Vec) → c ⊕ comb (q ∷ z) bs ≈ (c ⊕ q ⊙ get_or bs 0 []) ⊕ comb z (tail bs)
  taken z bs = ≈_trans (≈-⊕ ≈_refl (open_comb q z bs))
      (record { on = λ v. simp (bilinear, +ℤ_assoc) })

  next : (b v : Vec) → n ⊙ (c ⊕ (q +ℤ pos 1) ⊙ b) ⊕ v ≈ (n ⊙ (c ⊕ q ⊙ b) ⊕ v) ⊕ n ⊙ b
  next b v = record { on = λ w. simp bilinear (by_ring (n ∷ q ∷ dot c w ∷ dot b w ∷ dot v w ∷ []) (search reads depth 20) (search reads depth 20) tt) }

  split : (a w : ℤ) → w ≡ q *ℤ n +ℤ a → (z : List ℤ) (bs : List Vec) → (n ⊙ (c ⊕ q ⊙ get_or bs 0 []) ⊕ comb z (tail bs)) ⊕ a ⊙ get_or bs 0 [] ≈ n ⊙ c ⊕ comb (w ∷ z) bs
  split a w e z bs = ≈_trans
      (record { on = λ v. rw e (simp bilinear (by_ring (n ∷ q ∷ a ∷ dot c v ∷ dot (get_or bs 0 []) v ∷ dot (comb z (tail bs)) v ∷ []) (search reads depth 20) (search reads depth 20) tt)) })
      (≈-⊕ ≈_refl (≈_sym (open_comb w z bs)))

-- the first coefficient lies between two neighbouring multiples of n, where the bound is known
one-more-rounded : (k : ℕ) (r : Vec) (o w : ℤ) (ws : List ℤ) (bs us : List Vec) (c : Vec) (ξ : List ℤ) → ((q : ℤ) → Above (up k ⊙ r) (loss k ws (tail bs) +ℤ o) (up k ⊙ (c ⊕ q ⊙ get_or bs 0 []) ⊕ comb ws (tail bs)) (up k ⊙ (ξ ⊕ q ⊙ get_or us 0 []) ⊕ comb ws (tail us))) → Above (up k ⊙ r) (loss k (w ∷ ws) bs +ℤ o) (up k ⊙ c ⊕ comb (w ∷ ws) bs) (up k ⊙ ξ ⊕ comb (w ∷ ws) us)
unfolding dent
one-more-rounded k r o w ws bs us c ξ f =
    subst (λ m. Above (up k ⊙ r) m (up k ⊙ c ⊕ comb (w ∷ ws) bs) (up k ⊙ ξ ⊕ comb (w ∷ ws) us))
    (sym (ap (λ s. s +ℤ o) (open_loss k w ws bs) ∙ +ℤ_assoc (dent k w *ℤ N (get_or bs 0 [])) (loss k ws (tail bs)) o))
    (above-≈ (split n q c a w (quot-rest k w) ws bs) (split n q ξ a w (quot-rest k w) ws us)
    (above-mean n a (get_or bs 0 []) (get_or us 0 []) (up_pos k) (rest-nonneg k w) (≤ℤ_of_<ℤ (rest_lt k w)) (f q)
    (above-≈ (next n q c (get_or bs 0 []) (comb ws (tail bs))) (next n q ξ (get_or us 0 []) (comb ws (tail us))) (f (q +ℤ pos 1)))))
  where
    n : ℤ
    n = up k

    q : ℤ
    q = quot k w

    a : ℤ
    a = rest k w

-- a bound on every point c + comb z bs, with offset m and tie lists ξ + comb z us, holds at n·c + comb w bs with offset n²·m + loss
pub round : (k : ℕ) (r : Vec) (m : ℤ) (w : List ℤ) (bs us : List Vec) (c : Vec) (ξ : List ℤ) → ((z : List ℤ) → Above r m (c ⊕ comb z bs) (ξ ⊕ comb z us)) → Above (up k ⊙ r) (loss k w bs +ℤ up k *ℤ up k *ℤ m) (up k ⊙ c ⊕ comb w bs) (up k ⊙ ξ ⊕ comb w us)
unfolding loss
round k r m [] bs us c ξ h = subst (λ o. Above (up k ⊙ r) o (up k ⊙ c ⊕ comb [] bs) (up k ⊙ ξ ⊕ comb [] us)) (sym (+ℤ_idl (up k *ℤ up k *ℤ m)))
    (above-≈ (flat c bs) (flat ξ us) (above-⊙ (up k) (up_pos k) (h [])))
  where
    flat : (c : Vec) (bs : List Vec) → up k ⊙ (c ⊕ comb [] bs) ≈ up k ⊙ c ⊕ comb [] bs
    flat c bs = record { on = λ v. simp (bilinear, comb-dot, nil-dot) (by_ring (up k ∷ dot c v ∷ []) (search reads) (search reads) tt) }
round k r m (w ∷ ws) bs us c ξ h =
    one-more-rounded k r (up k *ℤ up k *ℤ m) w ws bs us c ξ
    (λ q. round k r m ws (tail bs) (tail us) (c ⊕ q ⊙ get_or bs 0 []) (ξ ⊕ q ⊙ get_or us 0 []) (λ z. above-≈ (taken (up k) q c z bs) (taken (up k) q ξ z us) (h (q ∷ z))))

-- ---- the bound for numbers alone: no residual, no tie list
bare : {m : ℤ} {y : Vec} {x : List ℤ} → x ≈ [] → m ≤ℤ N y → Above [] (neg_ℤ m) y x
unfolding gain
bare {m} {y} {x} e h = record {
  nonneg = nonneg_raise {a = pos 0} x
      (rw (dot-nil y) (nn_ring (N y ∷ m ∷ []) (le h) (search reads depth 20) (search reads depth 20) tt)) (inr (refl, nonneg-zeros x (≈-Zero e)));
}

pub round-N : (k : ℕ) (m : ℤ) (w : List ℤ) (bs : List Vec) (c : Vec) → ((z : List ℤ) → m ≤ℤ N (c ⊕ comb z bs)) → (up k *ℤ up k *ℤ m) ≤ℤ (N (up k ⊙ c ⊕ comb w bs) +ℤ loss k w bs)
unfolding gain
round-N k m w bs c h = by_nn (up k ∷ m ∷ N y ∷ dot y [] ∷ dot y (up k ⊙ []) ∷ loss k w bs ∷ [])
    (bound ⊞ eq (pos 2) (dot-⊙ʳ (up k) [] y) ⊞ eq (pos 2 *ℤ up k) (dot-nil y))
    (search reads depth 20) (search reads depth 20) tt
  where
    y : Vec
    y = up k ⊙ c ⊕ comb w bs

    none : (z : List ℤ) → [] ⊕ comb z [] ≈ []
    none z = record { on = λ v. simp (dot-⊕, comb-dot, nil-dot, dot-nil) }

    bound : NN (gain (up k ⊙ []) y +ℤ (loss k w bs +ℤ up k *ℤ up k *ℤ neg_ℤ m))
    bound = head-nonneg (gain (up k ⊙ []) y +ℤ (loss k w bs +ℤ up k *ℤ up k *ℤ neg_ℤ m)) (up k ⊙ [] ⊕ comb w []) (round k [] (neg_ℤ m) w bs [] c [] (λ z. bare (none z) (h z))).nonneg
