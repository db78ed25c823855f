-- Membership by Cramer's rule on one minor that is not zero.
use Rattle.std.specs.Prelude.{◌≡◌, refl, ◌≢◌, ◌↔◌, ℕ, zero, suc, ◌+◌, ◌*◌, ◌-◌, ◌/◌, ◌≤◌, ◌<◌, ℤ, pos, negsuc, neg_ℤ, nat_abs, ◌+ℤ◌, ◌-ℤ◌, ◌*ℤ◌, length, get_or, ◌≤ℤ◌, ◌<ℤ◌}
use Rattle.std.proofs.Common.{sym, ap, ◌∙◌, subst, zero-lt-suc, arith}
use mathlib.Core.List.{List, [], ◌∷◌, ◌++◌, reverse, reverse-cons}
use Rattle.std.proofs.Math.Decide.{dec_lt}
use Rattle.std.proofs.Math.Arith.{digits_div}
use Rattle.std.proofs.Math.ListN.{get_or-eq_default, get_or-append}
use Rattle.std.proofs.lemmas.List.{length-reverse}
use Rattle.std.specs.Int.Signed.{quot_z, lt_z_yes}
use Rattle.integers.specs.Identity.{by_ring, reads}
use Rattle.integers.specs.ListLaws.{same}
use Rattle.integers.specs.Order.{≤ℤ_trans, *ℤ-cancel-≤}
use Rattle.integers.specs.Certificate.{◌⊞◌, ◌⊠◌, nn-pos, nn-sq, le, lt, eq, by_nn}
use Rattle.integers.specs.Size.{root}
use Rattle.lattices.specs.Vector.{Vec, N, nth, dot, comb, ◌⊕◌, ◌⊙◌, ◌⊖◌, In}
use Rattle.lattices.specs.Laws.Vector.{bilinear, dot_comm, nil-dot, N-nonneg, ◌≈◌, ≈-N, comb_cons, comb-reverse}
use Rattle.lattices.specs.Volume.{Index, volume}
use Rattle.exterior_algebra.specs.Cramer.{put, cramer}
use Rattle.successive_minima.specs.Reduced.{Descending, Reduced}
use Rattle.successive_minima.specs.Laws.ReducedLaws.{pinned}

-- ---- an exact division
div_exact : (a b : ℕ) → (a * suc b) / suc b ≡ a
div_exact a b = ap (λ n. n / suc b) (omega arith) ∙ digits_div a {m = suc b} {r = 0} (zero-lt-suc b)

zero-div : (b : ℕ) → 0 / suc b ≡ 0
zero-div b = ap (λ n. n / suc b) (omega arith) ∙ digits_div 0 {m = suc b} {r = 0} (zero-lt-suc b)

quot-neg : (a b : ℕ) → quot_z (neg_ℤ (pos (a * suc b))) (pos (suc b)) ≡ neg_ℤ (pos a)
quot-neg a b = go (a * suc b) (div_exact a b)
  where
    go : (n : ℕ) → n / suc b ≡ a → quot_z (neg_ℤ (pos n)) (pos (suc b)) ≡ neg_ℤ (pos a)
    go zero e = ap pos (zero-div b) ∙ ap (λ n. neg_ℤ (pos n)) (sym (zero-div b) ∙ e)
    go (suc n) e = ap (λ n. neg_ℤ (pos n)) e

quot-both : (a b : ℕ) → quot_z (neg_ℤ (pos (a * suc b))) (negsuc b) ≡ pos a
quot-both a b = go (a * suc b) (div_exact a b)
  where
    go : (n : ℕ) → n / suc b ≡ a → quot_z (neg_ℤ (pos n)) (negsuc b) ≡ pos a
    go zero e = ap (λ n. neg_ℤ (pos n)) (zero-div b) ∙ ap pos (sym (zero-div b) ∙ e)
    go (suc n) e = ap pos e

pub quot_exact : (x m : ℤ) → m ≢ pos 0 → quot_z (x *ℤ m) m ≡ x
quot_exact x (pos zero) h = absurd (h refl)
quot_exact (pos a) (pos (suc b)) h = ap pos (div_exact a b)
quot_exact (negsuc a) (pos (suc b)) h = quot-neg (suc a) b
quot_exact (pos a) (negsuc b) h = quot-both a b
quot_exact (negsuc a) (negsuc b) h = ap (λ n. neg_ℤ (pos n)) (div_exact (suc a) b)

-- ---- the coefficients by Cramer's rule at the minor s
abbrev pub quotients : Index → List Vec → Vec → ℕ → ℕ → List ℤ
quotients s bs v j zero = []
quotients s bs v j (suc n) = quot_z (volume (put j v bs) s) (volume bs s) ∷ quotients s bs v (suc j) n

abbrev pub solved : Index → List Vec → Vec → List ℤ
solved s bs v = quotients s bs v 0 (length bs)

quotients-count : (s : Index) (bs : List Vec) (v : Vec) (j n : ℕ) → length (quotients s bs v j n) ≡ n
quotients-count s bs v j zero = refl
quotients-count s bs v j (suc n) = ap suc (quotients-count s bs v (suc j) n)

quotients-are : (s : Index) (bs : List Vec) (x : List ℤ) → volume bs s ≢ pos 0 → (n j : ℕ) → j + n ≡ length bs → (i k : ℕ) → k ≡ j + i → k < length bs → nth (quotients s bs (comb x bs) j n) i ≡ nth x k
quotients-are s bs x h zero j e i k f l = absurd (omega arith)
quotients-are s bs x h (suc n) j e zero k f l =
    ap (λ z. quot_z z (volume bs s)) (cramer j x bs (omega arith) s) ∙ quot_exact (nth x j) (volume bs s) h ∙ ap (nth x) (omega arith)
quotients-are s bs x h (suc n) j e (suc i) k f l = quotients-are s bs x h n (suc j) (omega arith) i k (omega arith) l

pub solved-is : (s : Index) (bs : List Vec) (x : List ℤ) → volume bs s ≢ pos 0 → length x ≡ length bs → solved s bs (comb x bs) ≡ x
solved-is s bs x h e = same (quotients-count s bs (comb x bs) 0 (length bs) ∙ sym e) (λ i. at i (dec_lt i (length bs)))
  where
    at : (i : ℕ) → Dec (i < length bs) → nth (solved s bs (comb x bs)) i ≡ nth x i
    at i (yes l) = quotients-are s bs x h (length bs) 0 (omega arith) i i (omega arith) l
    at i (no f) = get_or-eq_default (solved s bs (comb x bs)) (pos 0) (omega (arith, quotients-count s bs (comb x bs) 0 (length bs)))
        ∙ sym (get_or-eq_default x (pos 0) (omega arith))

-- v is in the lattice exactly when the coefficients, rounded, give it
pub in_exactly : (s : Index) (bs : List Vec) (v : Vec) → volume bs s ≢ pos 0 → In bs v ↔ (comb (solved s bs v) bs ≡ v)
in_exactly s bs v h = (
  λ p. ap (λ w. comb (solved s bs w) bs) (sym p.gives) ∙ ap (λ x. comb x bs) (solved-is s bs p.coefficients h p.count) ∙ p.gives,
  λ e. record { coefficients = solved s bs v; count = quotients-count s bs v 0 (length bs); gives = e },
)

-- ---- the size of the coefficients on a reduced list
-- 4·9^n
abbrev pub spread : ℕ → ℤ
spread zero = pos 4
spread (suc n) = pos 9 *ℤ spread n

spread-four : (n : ℕ) → pos 4 ≤ℤ spread n
spread-four zero = by_nn [] (nn-pos 0) (search reads) (search reads) tt
spread-four (suc n) = by_nn (spread n ∷ []) (nn-pos 9 ⊠ le (spread-four n) ⊞ nn-pos 32) (search reads depth 20) (search reads depth 20) tt

-- what is left when the multiple of the first vector is taken away is at most three times as long
rest-long : (v w : Vec) → N w ≤ℤ (pos 4 *ℤ N v) → N (v ⊖ w) ≤ℤ (pos 9 *ℤ N v)
rest-long v w h = *ℤ-cancel-≤ {c = pos 2} (lt_z_yes tt)
    (by_nn (N v ∷ N w ∷ dot v w ∷ N (v ⊖ w) ∷ N (pos 2 ⊙ v ⊕ w) ∷ []) (N-nonneg (pos 2 ⊙ v ⊕ w) ⊞ nn-pos 3 ⊠ le h ⊞ eq (negsuc 1) minus ⊞ eq (negsuc 0) plus) (search reads depth 20 fits 5000) (search reads depth 20 fits 5000) tt)
  where
    minus : N (v ⊖ w) ≡ N v -ℤ pos 2 *ℤ dot v w +ℤ N w
    minus = simp (bilinear, dot_comm w v) (by_ring (N v ∷ N w ∷ dot v w ∷ []) (search reads depth 20) (search reads depth 20) tt)

    plus : N (pos 2 ⊙ v ⊕ w) ≡ pos 4 *ℤ N v +ℤ pos 4 *ℤ dot v w +ℤ N w
    plus = simp (bilinear, dot_comm w v) (by_ring (N v ∷ N w ∷ dot v w ∷ []) (search reads depth 20) (search reads depth 20) tt)

pub coefficient_size : (n : ℕ) (bs : List Vec) → Descending bs → length bs ≤ 4 → length bs ≤ suc n → (x : List ℤ) (j : ℕ)
    → (nth x j *ℤ nth x j *ℤ N (get_or bs j [])) ≤ℤ (spread n *ℤ N (comb x bs))
coefficient_size n [] d l k x j = by_nn (nth x j ∷ N [] ∷ spread n ∷ N (comb x []) ∷ [])
    ((nn-pos 4 ⊞ le (spread-four n)) ⊠ N-nonneg (comb x []) ⊞ eq (negsuc 0 *ℤ (nth x j *ℤ nth x j)) (nil-dot [])) (search reads depth 20) (search reads depth 20) tt
coefficient_size n (b ∷ bs) d l k [] j = by_nn (N (get_or (b ∷ bs) j []) ∷ spread n ∷ N (comb [] (b ∷ bs)) ∷ [])
    ((nn-pos 4 ⊞ le (spread-four n)) ⊠ N-nonneg (comb [] (b ∷ bs))) (search reads depth 20) (search reads depth 20) tt
coefficient_size n (b ∷ bs) d l k (x ∷ xs) zero = ≤ℤ_trans (pinned d.0 (omega arith) x xs)
    (by_nn (spread n ∷ N (comb (x ∷ xs) (b ∷ bs)) ∷ []) (le (spread-four n) ⊠ N-nonneg (comb (x ∷ xs) (b ∷ bs))) (search reads depth 20) (search reads depth 20) tt)
coefficient_size n (b ∷ []) d l k (x ∷ xs) (suc j) = by_nn (nth xs j ∷ N [] ∷ spread n ∷ N (comb (x ∷ xs) (b ∷ [])) ∷ [])
    ((nn-pos 4 ⊞ le (spread-four n)) ⊠ N-nonneg (comb (x ∷ xs) (b ∷ [])) ⊞ eq (negsuc 0 *ℤ (nth xs j *ℤ nth xs j)) (nil-dot [])) (search reads depth 20) (search reads depth 20) tt
coefficient_size zero (b ∷ c ∷ bs) d l k (x ∷ xs) (suc j) = absurd (omega arith)
coefficient_size (suc n) (b ∷ c ∷ bs) d l k (x ∷ xs) (suc j) =
    by_nn ((nth xs j *ℤ nth xs j *ℤ N (get_or (c ∷ bs) j [])) ∷ spread n ∷ N v ∷ N (comb xs (c ∷ bs)) ∷ [])
    (le (coefficient_size n (c ∷ bs) d.1 (omega arith) (omega arith) xs j) ⊞ (nn-pos 4 ⊞ le (spread-four n)) ⊠ le long) (search reads depth 20) (search reads depth 20) tt
  where
    v : Vec
    v = comb (x ∷ xs) (b ∷ c ∷ bs)

    left : comb xs (c ∷ bs) ≈ v ⊖ x ⊙ b
    left = record { on = λ w. sym (simp (bilinear, (comb_cons x xs b (c ∷ bs)).on w) (by_ring (x ∷ dot b w ∷ dot (comb xs (c ∷ bs)) w ∷ []) (search reads depth 20) (search reads depth 20) tt)) }

    long : N (comb xs (c ∷ bs)) ≤ℤ (pos 9 *ℤ N v)
    long = subst (λ m. m ≤ℤ (pos 9 *ℤ N v)) (sym (≈-N left)) (rest-long v (x ⊙ b) (subst (λ m. m ≤ℤ (pos 4 *ℤ N v)) (sym multiple) (pinned d.0 (omega arith) x xs)))
      where
        multiple : N (x ⊙ b) ≡ x *ℤ x *ℤ N b
        multiple = simp bilinear (by_ring (x ∷ N b ∷ []) (search reads) (search reads) tt)

positive-at : (bs : List Vec) → Descending bs → (j : ℕ) → j < length bs → pos 0 <ℤ N (get_or bs j [])
positive-at [] d j h = absurd (omega arith)
positive-at (b ∷ bs) d zero h = d.0.positive
positive-at (b ∷ bs) d (suc j) h = positive-at bs d.1 j (omega arith)

-- in numbers: 54 times the length
pub coefficient_within : (bs : List Vec) → Descending bs → length bs ≤ 4 → (x : List ℤ) → N (comb x bs) ≤ℤ pos 400000000 → (j : ℕ) → j < length bs → nat_abs (nth x j) ≤ 1080000
coefficient_within bs d l x h j k = root (nth x j) (pos 1080000)
    (by_nn (nth x j ∷ N (get_or bs j []) ∷ N (comb x bs) ∷ []) (nn-sq (nth x j) ⊠ lt (positive-at bs d j k) ⊞ le (coefficient_size 3 bs d l l x j) ⊞ nn-pos 2916 ⊠ le h) (search reads depth 20 fits 5000) (search reads depth 20 fits 5000) tt)

-- ---- the same of a reduced list, shortest vector first
get_d_last : {A : Type 0} (l : List A) (a d : A) → get_or (l ++ (a ∷ [])) (length l) d ≡ a
get_d_last [] a d = refl
get_d_last (x ∷ l) a d = get_d_last l a d

get_d_reverse : {A : Type 0} (l : List A) (d : A) (i k : ℕ) → suc (i + k) ≡ length l → get_or (reverse l) k d ≡ get_or l i d
get_d_reverse [] d i k e = absurd (omega arith)
get_d_reverse (x ∷ l) d zero k e =
    ap (λ r. get_or r k d) (reverse-cons x l) ∙ ap (λ n. get_or (reverse l ++ (x ∷ [])) n d) (omega (arith, length-reverse l)) ∙ get_d_last (reverse l) x d
get_d_reverse (x ∷ l) d (suc i) k e =
    ap (λ r. get_or r k d) (reverse-cons x l) ∙ get_or-append (reverse l) (x ∷ []) d k (omega (arith, length-reverse l)) ∙ get_d_reverse l d i k (omega arith)

pub reduced-within : (bs : List Vec) → Reduced bs → length bs ≤ 4 → (x : List ℤ) → length x ≡ length bs → N (comb x bs) ≤ℤ pos 400000000 → (j : ℕ) → nat_abs (nth x j) ≤ 1080000
reduced-within bs d l x e h j = go (dec_lt j (length bs))
  where
    go : Dec (j < length bs) → nat_abs (nth x j) ≤ 1080000
    go (no f) = subst (λ z. nat_abs z ≤ 1080000) (sym (get_or-eq_default x (pos 0) (omega arith))) (omega arith)
    go (yes k) = subst (λ z. nat_abs z ≤ 1080000) (get_d_reverse x (pos 0) j (length x - suc j) (omega arith))
        (coefficient_within (reverse bs) d (omega (arith, length-reverse bs)) (reverse x) (subst (λ n. n ≤ℤ pos 400000000) (sym (≈-N (comb-reverse x bs e))) h) (length x - suc j) (omega (arith, length-reverse bs)))

-- so the test in code: too large a quotient says no
pub in_within : (s : Index) (bs : List Vec) (v : Vec) → Reduced bs → length bs ≤ 4 → volume bs s ≢ pos 0 → N v ≤ℤ pos 400000000 → In bs v → (j : ℕ) → nat_abs (nth (solved s bs v) j) ≤ 1080000
in_within s bs v d l h k p j = subst (λ x. nat_abs (nth x j) ≤ 1080000) (sym (ap (solved s bs) (sym p.gives) ∙ solved-is s bs p.coefficients h p.count))
    (reduced-within bs d l p.coefficients p.count (subst (λ w. N w ≤ℤ pos 400000000) (sym p.gives) k) j)
