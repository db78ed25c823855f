-- The law of `nearest`: for a reduced list of at most four vectors no integer list has a smaller value, and no other list has as small a one.
use Rattle.std.specs.Prelude.{◌≡◌, Bool, negsuc, neg_ℤ, nat_abs, ◌+ℤ◌, ◌*ℤ◌, ◌≤ℤ◌, ◌<ℤ◌, replicate}
use Rattle.std.proofs.Math.Path.{refl, sym}
use Rattle.std.proofs.Common.{ap, ◌∙◌, subst, ⊎_elim, mul-le-mul, arith, leb→le, le→leb, length-append}
use Rattle.std.proofs.Math.Bool.{true, false}
use Rattle.std.proofs.lemmas.Bool.{false≢true}
use mathlib.Core.List.{List, [], ◌∷◌, ◌++◌, reverse, reverse-cons, reverse-reverse}
use Prim.Native.Nat.{ℕ, zero, suc, ◌+◌, ◌*◌, ◌≤◌, ◌<◌, zero-le}
use Rattle.std.proofs.Math.Decide.{ℕ_discrete}
use Rattle.std.proofs.Math.IntN.{ℤ, pos, zero-*ℤ}
use Rattle.std.specs.Int.Signed.{le_z_yes, ≤ℤ_refl, clash_ℤ}
use Rattle.std.proofs.Math.ListN.{length}
use Rattle.std.proofs.lemmas.List.{length-reverse, length-replicate}
use Rattle.integers.specs.Identity.{by_ring, reads}
use Rattle.integers.specs.Order.{≤ℤ-or-<ℤ, ≤ℤ_trans, ≤ℤ-le_z, le_z_true, le_z_false}
use Rattle.integers.specs.Certificate.{NN, nn-pos, ◌⊞◌, ◌⊠◌, le, lt, by_nn, nn-false}
use Rattle.integers.specs.ListLaws.{nth-replicate}
use Rattle.integers.specs.Lex.{below_irrefl, below_asymm, below_negtrans, below_last, below-<, below->, below-≡}
use Rattle.lattices.specs.Vector.{Vec, N, dot, ◌⊙◌, ◌⊖◌, comb}
use Rattle.lattices.specs.Laws.Vector.{◌≈◌, ≈-N, nil-dot, dot-⊙, bilinear, N-nonneg, comb_cons, comb-none, comb-zero, ⊖-zero, comb_snoc, comb-reverse}
use Rattle.lattices.specs.Nearest.{value, below, lesser, outward, near, least, nearest, least_by, nearest_by}
use Rattle.exterior_algebra.specs.Sizes.{near_le}
use Rattle.successive_minima.specs.Laws.Values.{Least}
use Rattle.successive_minima.specs.Laws.ValueLaws.{least-only}
use Rattle.successive_minima.specs.Reduced.{Top, Descending, Reduced}
use Rattle.successive_minima.specs.Laws.ReducedLaws.{pinned}

-- ---- the lesser of two lists, and the least on the way outward
lesser_ind : (P : List ℤ → Type 0) (k l : List ℤ) → P k → P l → P (lesser k l)
lesser_ind P k l p q = go (below k l)
  where
    go : (b : Bool) → P (elim b [ true ↦ k | false ↦ l ])
    go true = p
    go false = q

lesser-left : (k l : List ℤ) → below k (lesser k l) ≡ false
lesser-left k l = go (below k l) refl
  where
    go : (b : Bool) → below k l ≡ b → below k (elim b [ true ↦ k | false ↦ l ]) ≡ false
    go true e = below_irrefl k
    go false e = e

lesser-right : (k l : List ℤ) → below l (lesser k l) ≡ false
lesser-right k l = go (below k l) refl
  where
    go : (b : Bool) → below k l ≡ b → below l (elim b [ true ↦ k | false ↦ l ]) ≡ false
    go true e = below_asymm k l e
    go false e = below_irrefl l

outward_ind : (P : List ℤ → Type 0) (at : ℤ → List ℤ) (near : ℤ → Bool) → ((i : ℤ) → P (at i)) → (fuel j : ℕ) (best : List ℤ) → P best → P (outward at near fuel j best)
outward_ind P at near f zero j best p = p
outward_ind P at near f (suc fuel) j best p =
    go (near (pos j)) (outward_ind P at near f fuel (suc j) (lesser (at (pos j)) (lesser (at (neg_ℤ (pos j))) best))
    (lesser_ind P (at (pos j)) (lesser (at (neg_ℤ (pos j))) best) (f (pos j)) (lesser_ind P (at (neg_ℤ (pos j))) best (f (neg_ℤ (pos j))) p)))
  where
    go : (b : Bool) → P (outward at near fuel (suc j) (lesser (at (pos j)) (lesser (at (neg_ℤ (pos j))) best)))
        → P (elim b [ false ↦ best | true ↦ outward at near fuel (suc j) (lesser (at (pos j)) (lesser (at (neg_ℤ (pos j))) best)) ])
    go false q = p
    go true q = q

module _ (at : ℤ → List ℤ) (near : ℤ → Bool) (L : ℕ) (len : (i : ℤ) → length (at i) ≡ L) where
  -- the best after place j has been looked at
  next : ℕ → List ℤ → List ℤ
  next j best = lesser (at (pos j)) (lesser (at (neg_ℤ (pos j))) best)

  next-length : (j : ℕ) (best : List ℤ) → length best ≡ L → length (next j best) ≡ L
  unfolding next
  next-length j best e =
      lesser_ind (λ l. length l ≡ L) (at (pos j)) (lesser (at (neg_ℤ (pos j))) best) (len (pos j))
      (lesser_ind (λ l. length l ≡ L) (at (neg_ℤ (pos j))) best (len (neg_ℤ (pos j))) e)

  chain : (k l r : List ℤ) → length k ≡ L → length l ≡ L → length r ≡ L → below k l ≡ false → below l r ≡ false → below k r ≡ false
  chain k l r e f g = below_negtrans k l r (e ∙ sym f) (f ∙ sym g)

  inner-length : (j : ℕ) (best : List ℤ) → length best ≡ L → length (lesser (at (neg_ℤ (pos j))) best) ≡ L
  inner-length j best e = lesser_ind (λ l. length l ≡ L) (at (neg_ℤ (pos j))) best (len (neg_ℤ (pos j))) e

  next_best : (j : ℕ) (best : List ℤ) → length best ≡ L → below best (next j best) ≡ false
  unfolding next
  next_best j best e =
      let l = lesser (at (neg_ℤ (pos j))) best in
      chain best l (next j best) e (inner-length j best e) (next-length j best e) (lesser-right (at (neg_ℤ (pos j))) best) (lesser-right (at (pos j)) l)

  next_up : (j : ℕ) (best : List ℤ) → below (at (pos j)) (next j best) ≡ false
  unfolding next
  next_up j best = lesser-left (at (pos j)) (lesser (at (neg_ℤ (pos j))) best)

  next_down : (j : ℕ) (best : List ℤ) → length best ≡ L → below (at (neg_ℤ (pos j))) (next j best) ≡ false
  unfolding next
  next_down j best e =
      let l = lesser (at (neg_ℤ (pos j))) best in
      chain (at (neg_ℤ (pos j))) l (next j best) (len (neg_ℤ (pos j))) (inner-length j best e) (next-length j best e)
      (lesser-left (at (neg_ℤ (pos j))) best) (lesser-right (at (pos j)) l)

  outward-length : (fuel j : ℕ) (best : List ℤ) → length best ≡ L → length (outward at near fuel j best) ≡ L
  outward-length fuel j best e = outward_ind (λ l. length l ≡ L) at near len fuel j best e

  -- the start is not below the result
  outward_best : (fuel j : ℕ) (best : List ℤ) → length best ≡ L → below best (outward at near fuel j best) ≡ false
  unfolding next
  outward_best zero j best e = below_irrefl best
  outward_best (suc fuel) j best e =
      go (near (pos j)) (chain best (next j best) (outward at near fuel (suc j) (next j best)) e (next-length j best e)
      (outward-length fuel (suc j) (next j best) (next-length j best e)) (next_best j best e) (outward_best fuel (suc j) (next j best) (next-length j best e)))
    where
      go : (b : Bool) → below best (outward at near fuel (suc j) (next j best)) ≡ false → below best (elim b [ false ↦ best | true ↦ outward at near fuel (suc j) (next j best) ]) ≡ false
      go false q = below_irrefl best
      go true q = q

  -- nor are the lists at i and −i, where i is within reach of the fuel and of `near`
  outward-at : (fuel j : ℕ) (best : List ℤ) → length best ≡ L → (i : ℕ) → j ≤ i → i < j + fuel → ((k : ℕ) → k ≤ i → near (pos k) ≡ true)
      → (below (at (pos i)) (outward at near fuel j best) ≡ false) × (below (at (neg_ℤ (pos i))) (outward at near fuel j best) ≡ false)
  unfolding next
  outward-at zero j best e i h k n = absurd (omega arith)
  outward-at (suc fuel) j best e i h k n =
      go (near (pos j)) (n j h) (ℕ_discrete j i) (λ s. outward-at fuel (suc j) (next j best) (next-length j best e) i s (omega arith) n)
    where
      R : List ℤ
      R = outward at near fuel (suc j) (next j best)

      here : (below (at (pos j)) R ≡ false) × (below (at (neg_ℤ (pos j))) R ≡ false)
      here = (
        chain (at (pos j)) (next j best) R (len (pos j)) (next-length j best e) (outward-length fuel (suc j) (next j best) (next-length j best e))
            (next_up j best) (outward_best fuel (suc j) (next j best) (next-length j best e)),
        chain (at (neg_ℤ (pos j))) (next j best) R (len (neg_ℤ (pos j))) (next-length j best e) (outward-length fuel (suc j) (next j best) (next-length j best e))
            (next_down j best e) (outward_best fuel (suc j) (next j best) (next-length j best e)),
      )

      go : (b : Bool) → b ≡ true → Dec (j ≡ i) → (suc j ≤ i → (below (at (pos i)) R ≡ false) × (below (at (neg_ℤ (pos i))) R ≡ false))
          → (below (at (pos i)) (elim b [ false ↦ best | true ↦ R ]) ≡ false) × (below (at (neg_ℤ (pos i))) (elim b [ false ↦ best | true ↦ R ]) ≡ false)
      go false q d r = absurd (false≢true q)
      go true q (yes s) r = subst (λ (i : ℕ). (below (at (pos i)) R ≡ false) × (below (at (neg_ℤ (pos i))) R ≡ false)) s here
      go true q (no f) r = r (omega arith)

-- ---- the value with the last coefficient apart
value-last : (bs : List Vec) (b t : Vec) (x : List ℤ) (j : ℤ) → length x ≡ length bs
    → value (bs ++ (b ∷ [])) t (x ++ (j ∷ [])) ≡ value bs (t ⊖ j ⊙ b) x ++ (j ∷ [])
value-last bs b t x j e = ap (λ s. s ∷ (x ++ (j ∷ []))) (≈-N (record { on = same-dot }))
  where
    same-dot : (w : Vec) → dot (t ⊖ comb (x ++ (j ∷ [])) (bs ++ (b ∷ []))) w ≡ dot (t ⊖ j ⊙ b ⊖ comb x bs) w
    same-dot w =
        simp bilinear (ap (λ s. dot t w +ℤ negsuc 0 *ℤ s) ((comb_snoc x bs j b e).on w)
        ∙ simp bilinear (by_ring (dot t w ∷ dot (comb x bs) w ∷ dot b w ∷ j ∷ []) (search reads depth 20) (search reads depth 20) tt))

-- every list that is not empty has a last entry
pub record Ended (n : ℕ) (x : List ℤ) : Type 0 where
  pub start : List ℤ
  pub end : ℤ
  pub count : length start ≡ n
  pub is : x ≡ start ++ (end ∷ [])

pub ended : (n : ℕ) (x : List ℤ) → length x ≡ suc n → Ended n x
ended n [] e = absurd (omega arith)
ended zero (x ∷ []) e = record { start = []; end = x; count = refl; is = refl }
ended zero (x ∷ y ∷ l) e = absurd (omega arith)
ended (suc n) (x ∷ l) e =
    let r = ended n l (omega arith) in
    record { start = x ∷ r.start; end = r.end; count = ap suc r.count; is = ap (λ k. x ∷ k) r.is }

-- ---- what is found is the value of a list
record Attained (bs : List Vec) (t : Vec) (l : List ℤ) : Type 0 where
  list : List ℤ
  count : length list ≡ length bs
  is : l ≡ value (reverse bs) t list

least-attained : (bs : List Vec) (t : Vec) → Attained bs t (least bs t)
unfolding least_by
least-attained [] t = record { list = []; count = refl; is = ap (λ s. s ∷ []) (sym (≈-N (⊖-zero t (comb-none [])))) }
least-attained (b ∷ bs) t = outward_ind (Attained (b ∷ bs) t) (λ j. least bs (t ⊖ j ⊙ b) ++ (j ∷ [])) (near b t) (λ j. at j (least-attained bs (t ⊖ j ⊙ b)))
    (suc (nat_abs (pos 16 *ℤ N t))) 1 (least bs (t ⊖ pos 0 ⊙ b) ++ (pos 0 ∷ [])) (at (pos 0) (least-attained bs (t ⊖ pos 0 ⊙ b)))
  where
    at : (j : ℤ) → Attained bs (t ⊖ j ⊙ b) (least bs (t ⊖ j ⊙ b)) → Attained (b ∷ bs) t (least bs (t ⊖ j ⊙ b) ++ (j ∷ []))
    at j a = record {
      list = a.list ++ (j ∷ []);
      count = length-append a.list (j ∷ []) ∙ omega (arith, a.count);
      is = ap (λ l. l ++ (j ∷ [])) a.is ∙ sym (value-last (reverse bs) b t a.list j (a.count ∙ sym (length-reverse bs))) ∙ ap (λ cs. value cs t (a.list ++ (j ∷ []))) (sym (reverse-cons b bs));
    }

least-length : (bs : List Vec) (t : Vec) → length (least bs t) ≡ suc (length bs)
least-length bs t =
    let a = least-attained bs t in
    ap length a.is ∙ ap suc a.count

-- ---- no list has a smaller value
-- y farther than twice as far out as t is farther from t than 0 is
farther : (t y : Vec) → (pos 4 *ℤ N t) <ℤ N y → N t <ℤ N (t ⊖ y)
farther t y h = ⊎_elim (λ k. clash_ℤ h (near_le t y k)) (λ k. k) (≤ℤ-or-<ℤ (N (t ⊖ y)) (N t))

-- the fuel reaches every layer that is near
reach : (i : ℕ) (b z : ℤ) → pos 0 <ℤ b → (pos i *ℤ pos i *ℤ b) ≤ℤ z → i ≤ nat_abs z
reach i (pos zero) z h k = absurd h.lt
reach zero (pos (suc n)) (pos c) h k = zero-le
reach (suc i) (pos (suc n)) (pos c) h k = omega (arith, leb→le (suc i * suc i * suc n) c k.le)
reach i (pos (suc n)) (negsuc c) h k = absurd k.le
reach i (negsuc n) z h k = absurd h.lt

scaled : (a c n : ℤ) → NN n → a ≤ℤ c → (a *ℤ n) ≤ℤ (c *ℤ n)
scaled a c n h k = by_nn (a ∷ c ∷ n ∷ []) (le k ⊠ h) (search reads) (search reads) tt

near-inner : (b t : Vec) (i k : ℕ) → k ≤ i → near b t (pos i) ≡ true → near b t (pos k) ≡ true
near-inner b t i k h e =
    ≤ℤ-le_z (≤ℤ_trans (scaled (pos (k * k)) (pos (i * i)) (N b) (N-nonneg b) (le_z_yes (le→leb (k * k) (i * i) (mul-le-mul h h)))) (le_z_true e))

-- a layer that is not near holds nothing nearer than 0
far : (b : Vec) (bs : List Vec) → Top b bs → length bs ≤ 3 → (t : Vec) (x : List ℤ) (j : ℤ) → length x ≡ length bs → near b t j ≡ false
    → N t <ℤ N (t ⊖ j ⊙ b ⊖ comb x (reverse bs))
far b bs top h t x j e n = subst (λ s. N t <ℤ s) (≈-N (record { on = same-dot })) (farther t y (quarter (pinned top h j (reverse x))))
  where
    y : Vec
    y = comb (j ∷ reverse x) (b ∷ bs)

    out : (pos 16 *ℤ N t) <ℤ (j *ℤ j *ℤ N b)
    out = le_z_false n

    quarter : (j *ℤ j *ℤ N b) ≤ℤ (pos 4 *ℤ N y) → (pos 4 *ℤ N t) <ℤ N y
    quarter k = ⊎_elim
        (λ (l : N y ≤ℤ (pos 4 *ℤ N t)). nn-false ((j *ℤ j *ℤ N b) ∷ N t ∷ N y ∷ []) (le k ⊞ nn-pos 4 ⊠ le l ⊞ lt out) (search reads depth 20) tt)
        (λ l. l)
        (≤ℤ-or-<ℤ (N y) (pos 4 *ℤ N t))

    turned : comb x (reverse bs) ≈ comb (reverse x) bs
    turned = subst (λ z. comb z (reverse bs) ≈ comb (reverse x) bs) (reverse-reverse x) (comb-reverse (reverse x) bs (length-reverse x ∙ e))

    opened : (w : Vec) → dot y w ≡ j *ℤ dot b w +ℤ dot (comb (reverse x) bs) w
    opened w = (comb_cons j (reverse x) b bs).on w ∙ simp bilinear

    same-dot : (w : Vec) → dot (t ⊖ y) w ≡ dot (t ⊖ j ⊙ b ⊖ comb x (reverse bs)) w
    same-dot w = simp (bilinear, opened w, turned.on w)
        (by_ring (dot t w ∷ dot (comb (reverse x) bs) w ∷ dot b w ∷ j ∷ []) (search reads depth 20) (search reads depth 20) tt)

less-nothing : (b t : Vec) → N (t ⊖ pos 0 ⊙ b) ≡ N t
less-nothing b t = ≈-N (⊖-zero t (record { on = λ w. dot-⊙ (pos 0) b w ∙ zero-*ℤ (dot b w) ∙ sym (nil-dot w) }))

-- ---- one more vector
module _ (b : Vec) (bs : List Vec) (t : Vec) where
  -- the least value in the layer with last coefficient j
  abbrev layer : ℤ → List ℤ
  layer j = least bs (t ⊖ j ⊙ b) ++ (j ∷ [])

  least_cons : least (b ∷ bs) t ≡ outward layer (near b t) (suc (nat_abs (pos 16 *ℤ N t))) 1 (layer (pos 0))
  unfolding least_by
  least_cons = refl

  layer-length : (j : ℤ) → length (layer j) ≡ suc (suc (length bs))
  layer-length j = length-append (least bs (t ⊖ j ⊙ b)) (j ∷ []) ∙ omega (arith, least-length bs (t ⊖ j ⊙ b))

  -- no layer that is near goes below what is found
  layer-near : pos 0 <ℤ N b → (j : ℤ) → near b t j ≡ true → below (layer j) (least (b ∷ bs) t) ≡ false
  layer-near h j n = rw least_cons (go j n)
    where
      R : List ℤ
      R = outward layer (near b t) (suc (nat_abs (pos 16 *ℤ N t))) 1 (layer (pos 0))

      both : (i : ℕ) → near b t (pos (suc i)) ≡ true → (below (layer (pos (suc i))) R ≡ false) × (below (layer (neg_ℤ (pos (suc i)))) R ≡ false)
      both i n = outward-at layer (near b t) (suc (suc (length bs))) layer-length (suc (nat_abs (pos 16 *ℤ N t))) 1 (layer (pos 0)) (layer-length (pos 0))
          (suc i) (omega arith) (omega (arith, reach (suc i) (N b) (pos 16 *ℤ N t) h (le_z_true n))) (λ k l. near-inner b t (suc i) k l n)

      go : (j : ℤ) → near b t j ≡ true → below (layer j) R ≡ false
      go (pos zero) n = outward_best layer (near b t) (suc (suc (length bs))) layer-length (suc (nat_abs (pos 16 *ℤ N t))) 1 (layer (pos 0)) (layer-length (pos 0))
      go (pos (suc i)) n = (both i n).0
      go (negsuc i) n = (both i n).1

  -- the value of a list, its last coefficient apart
  abbrev apart : ℤ → List ℤ → List ℤ
  apart j x = value (reverse bs) (t ⊖ j ⊙ b) x ++ (j ∷ [])

  apart-length : (j : ℤ) (x : List ℤ) → length x ≡ length bs → length (apart j x) ≡ suc (suc (length bs))
  apart-length j x e = length-append (value (reverse bs) (t ⊖ j ⊙ b) x) (j ∷ []) ∙ omega arith

  abbrev found : List ℤ
  found = least (b ∷ bs) t

  found-length : length found ≡ suc (suc (length bs))
  found-length = least-length (b ∷ bs) t

  zeros : List ℤ
  zeros = replicate (length bs) (pos 0)

  zero-apart : N (t ⊖ pos 0 ⊙ b ⊖ comb zeros (reverse bs)) ≡ N t
  unfolding zeros
  zero-apart = ≈-N (⊖-zero (t ⊖ pos 0 ⊙ b) (comb-zero zeros (λ i. nth-replicate (length bs) i) (reverse bs))) ∙ less-nothing b t

  -- where the layers below are solved, so is this list
  module _ (top : Top b bs) (three : length bs ≤ 3) (lower : (u : Vec) (z : List ℤ) → length z ≡ length bs → below (value (reverse bs) u z) (least bs u) ≡ false) where
    near-lower : (j : ℤ) (x : List ℤ) → length x ≡ length bs → near b t j ≡ true → below (apart j x) found ≡ false
    near-lower j x e n = below_negtrans (apart j x) (layer j) found (apart-length j x e ∙ sym (layer-length j)) (layer-length j ∙ sym found-length)
        (below_last (value (reverse bs) (t ⊖ j ⊙ b) x) (least bs (t ⊖ j ⊙ b)) j (ap suc e ∙ sym (least-length bs (t ⊖ j ⊙ b))) ∙ lower (t ⊖ j ⊙ b) x e)
        (layer-near top.positive j n)

    zero-near : near b t (pos 0) ≡ true
    zero-near = ≤ℤ-le_z (subst (λ z. z ≤ℤ (pos 16 *ℤ N t)) (sym (zero-*ℤ (N b))) (nn-pos 16 ⊠ N-nonneg t))

    far-lower : (j : ℤ) (x : List ℤ) → length x ≡ length bs → near b t j ≡ false → below (apart j x) found ≡ false
    unfolding zeros
    far-lower j x e n = below_negtrans (apart j x) (apart (pos 0) zeros) found
        (apart-length j x e ∙ sym (apart-length (pos 0) zeros (length-replicate (length bs) (pos 0))))
        (apart-length (pos 0) zeros (length-replicate (length bs) (pos 0)) ∙ sym found-length)
        (below-> (x ++ (j ∷ [])) (zeros ++ (pos 0 ∷ [])) (subst (λ s. s <ℤ N (t ⊖ j ⊙ b ⊖ comb x (reverse bs))) (sym zero-apart) (far b bs top three t x j e n)))
        (near-lower (pos 0) zeros (length-replicate (length bs) (pos 0)) zero-near)

    apart-lower : (j : ℤ) (x : List ℤ) → length x ≡ length bs → below (apart j x) found ≡ false
    apart-lower j x e = go (near b t j) refl
      where
        go : (s : Bool) → near b t j ≡ s → below (apart j x) found ≡ false
        go true n = near-lower j x e n
        go false n = far-lower j x e n

-- the least value is below no value: first for the vectors last one first
least-lower : (bs : List Vec) → Descending bs → length bs ≤ 4 → (t : Vec) (x : List ℤ) → length x ≡ length bs → below (value (reverse bs) t x) (least bs t) ≡ false
unfolding least_by
least-lower [] d h t [] e = below-≡ [] [] (≈-N (⊖-zero t (comb-none [])))
least-lower [] d h t (y ∷ x) e = absurd (omega arith)
least-lower (b ∷ bs) d h t x e =
    let r = ended (length bs) x e in
    rw (reverse-cons b bs, r.is, value-last (reverse bs) b t r.start r.end (r.count ∙ sym (length-reverse bs)))
    (apart-lower b bs t d.0 (omega arith) (λ u z k. least-lower bs d.1 (omega arith) u z k) r.end r.start r.count)

-- `nearest` has the least value over all integer lists
pub nearest-least : (bs : List Vec) → Reduced bs → length bs ≤ 4 → (t : Vec) → Least bs t (nearest bs t)
unfolding nearest_by
nearest-least bs d h t =
    let a = least-attained (reverse bs) t in
    let e : least (reverse bs) t ≡ value bs t a.list = a.is ∙ ap (λ cs. value cs t a.list) (reverse-reverse bs) in
    let count : length a.list ≡ length bs = a.count ∙ length-reverse bs in
    rw e (record {
      count = count;
      least = λ x k. subst (λ l. below (value bs t x) l ≡ false) e
          (subst (λ cs. below (value cs t x) (least (reverse bs) t) ≡ false) (reverse-reverse bs)
          (least-lower (reverse bs) d (omega (arith, length-reverse bs)) t x (k ∙ sym (length-reverse bs))));
    })

-- and it is the only one that has: whatever is shown to be least is `nearest`
pub nearest-only : (bs : List Vec) → Reduced bs → length bs ≤ 4 → (t : Vec) (y : List ℤ) → Least bs t y → y ≡ nearest bs t
nearest-only bs d h t y l = least-only bs t y (nearest bs t) l (nearest-least bs d h t)

-- ---- what holds of every list, reduced or not
attained : (bs : List Vec) (t : Vec) → (length (nearest bs t) ≡ length bs) × (least (reverse bs) t ≡ value bs t (nearest bs t))
unfolding nearest_by
attained bs t =
    let a = least-attained (reverse bs) t in
    let e : least (reverse bs) t ≡ value bs t a.list = a.is ∙ ap (λ cs. value cs t a.list) (reverse-reverse bs) in
    rw e (a.count ∙ length-reverse bs, refl)

pub nearest-count : (bs : List Vec) (t : Vec) → length (nearest bs t) ≡ length bs
nearest-count bs t = (attained bs t).0

head : List ℤ → ℤ
head [] = pos 0
head (x ∷ l) = x

head-lower : (k l : List ℤ) (n : ℕ) → length k ≡ suc n → length l ≡ suc n → below k l ≡ false → head l ≤ℤ head k
unfolding head
head-lower [] l n e f h = absurd (omega arith)
head-lower (x ∷ k) [] n e f h = absurd (omega arith)
head-lower (x ∷ k) (y ∷ l) n e f h = ⊎_elim (λ p. p) (λ p. absurd (false≢true (sym h ∙ below-< k l p))) (≤ℤ-or-<ℤ y x)

head-append : (l : List ℤ) (n : ℕ) (j : ℤ) → length l ≡ suc n → head (l ++ (j ∷ [])) ≡ head l
unfolding head
head-append [] n j e = absurd (omega arith)
head-append (x ∷ l) n j e = refl

least-head_cons : (b : Vec) (bs : List Vec) (t : Vec) → head (least (b ∷ bs) t) ≤ℤ head (least bs (t ⊖ pos 0 ⊙ b))
least-head_cons b bs t = subst (λ s. head (least (b ∷ bs) t) ≤ℤ s) (head-append (least bs (t ⊖ pos 0 ⊙ b)) (length bs) (pos 0) (least-length bs (t ⊖ pos 0 ⊙ b)))
    (head-lower (layer b bs t (pos 0)) (least (b ∷ bs) t) (suc (length bs)) (layer-length b bs t (pos 0)) (least-length (b ∷ bs) t)
    (rw (least_cons b bs t) (outward_best (layer b bs t) (near b t) (suc (suc (length bs))) (layer-length b bs t) (suc (nat_abs (pos 16 *ℤ N t))) 1 (layer b bs t (pos 0)) (layer-length b bs t (pos 0)))))

least-head : (bs : List Vec) (t : Vec) → head (least bs t) ≤ℤ N t
unfolding head least_by
least-head [] t = ≤ℤ_refl (N t)
least-head (b ∷ bs) t = ≤ℤ_trans (least-head_cons b bs t) (subst (λ s. head (least bs (t ⊖ pos 0 ⊙ b)) ≤ℤ s) (less-nothing b t) (least-head bs (t ⊖ pos 0 ⊙ b)))

-- what is left of the target is no longer than the target
pub nearest-shorter : (bs : List Vec) (t : Vec) → N (t ⊖ comb (nearest bs t) bs) ≤ℤ N t
unfolding head
nearest-shorter bs t = subst (λ l. head l ≤ℤ N t) (attained bs t).1 (least-head (reverse bs) t)
