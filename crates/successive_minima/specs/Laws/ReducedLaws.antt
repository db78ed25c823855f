-- Reduced lists of at most four vectors: a combination is no shorter than any vector that it uses (`any`), and they are independent.
use Rattle.std.specs.Prelude.{◌≡◌, refl, ◌≢◌, ℕ, zero, suc, ◌≤◌, ℤ, pos, nat_abs, ◌+ℤ◌, ◌-ℤ◌, ◌*ℤ◌, ◌≤ℤ◌, length, get_or}
use Rattle.std.proofs.Common.{sym, ◌∙◌, subst, ⊎_elim, arith}
use mathlib.Core.List.{List, [], ◌∷◌, ◌++◌, reverse, reverse-cons, reverse-append}
use Rattle.std.proofs.Math.IntN.{zero-*ℤ}
use Rattle.std.specs.Int.Signed.{<ℤ_irrefl, lt_z_yes, <ℤ-≤ℤ_trans}
use Rattle.std.proofs.lemmas.List.{length-reverse}
use Rattle.lattices.specs.Answer.{padded}
use Rattle.lattices.specs.Laws.Answer.{length-padded}
use Rattle.integers.specs.Ring.{*ℤ-pos-one}
use Rattle.integers.specs.Identity.{by_ring, by-eq, reads}
use Rattle.integers.specs.Order.{≤ℤ_trans, zero_or_not, *ℤ-cancel-≤}
use Rattle.integers.specs.Certificate.{NN, ◌⊞◌, ◌⊠◌, nn-sq, nn-pos, le, eq, by_nn}
use Rattle.integers.specs.Division.{up}
use Rattle.integers.specs.Sign.{Sign, by_sign}
use Rattle.lattices.specs.Vector.{Vec, N, Zero, Independent, nth, dot, comb, ◌⊕◌, ◌⊙◌}
use Rattle.lattices.specs.Laws.Vector.{dot_comm, nil-dot, bilinear, N-nonneg, comb-⊙, comb_cons, ◌≈◌, ≈_refl, ≈_sym, ≈_trans, ≈-⊕, ≈-N, zero-dot, definite, Zero-≈, ≈-Zero, comb-reverse}
use Rattle.successive_minima.specs.Laws.Rounding.{≤-up, loss, loss-bound, dent_fourth, round-N}
use Rattle.successive_minima.specs.Laws.Snoc.{N-reverse, comb-fit}
use Rattle.successive_minima.specs.Reduced.{Under, Top, Descending, Reduced}

-- ---- vectors with a sign
pub sign-⊙ : (n s : ℤ) {x : ℤ} (b : Vec) → x ≡ s *ℤ n → n ⊙ (s ⊙ b) ≈ x ⊙ b
sign-⊙ n s b e = record { on = λ w. rw e (simp bilinear (by_ring (n ∷ s ∷ dot b w ∷ []) (search reads) (search reads) tt)) }

sign-N : (s : ℤ) (b v : Vec) → Sign s → N (b ⊕ s ⊙ v) ≡ N (s ⊙ b ⊕ v)
sign-N s b v e = simp (bilinear, dot_comm v b)
    (by-eq (s ∷ N b ∷ dot b v ∷ N v ∷ []) (N v -ℤ N b) e.square (search reads depth 20) (search reads depth 20) tt)

-- no combination shortens −b either
pub shortest-signed : {b : Vec} {bs : List Vec} → Top b bs → (s : ℤ) → Sign s → (z : List ℤ) → N b ≤ℤ N (s ⊙ b ⊕ comb z bs)
shortest-signed {b} {bs} t s e z = subst (λ n. N b ≤ℤ n) (≈-N (≈-⊕ (≈_refl {u = b}) (comb-⊙ s z bs)) ∙ sign-N s b (comb z bs) e) (t.shortest (s ⊙ z))

-- n²·N(b) ≤ N(±n·b + …) + loss
pub rounded : {b : Vec} {bs : List Vec} → Top b bs → (k : ℕ) (s : ℤ) → Sign s → (xs : List ℤ) → (up k *ℤ up k *ℤ N b) ≤ℤ (N (up k ⊙ (s ⊙ b) ⊕ comb xs bs) +ℤ loss k xs bs)
rounded {b} {bs} t k s e xs = round-N k (N b) xs bs (s ⊙ b) (shortest-signed t s e)

-- At most three vectors below b, so 4·loss ≤ 3·n²·N(b) and a quarter of n²·N(b) is left. With four below (five in all) the bound is
-- 4·loss ≤ 4·n²·N(b), nothing is left, and the argument stops: this is why five vectors are not sold.
pinned-by : {b : Vec} {bs : List Vec} {x : ℤ} → Top b bs → length bs ≤ 3 → (k : ℕ) (s : ℤ) → Sign s → x ≡ s *ℤ up k → (xs : List ℤ) → (x *ℤ x *ℤ N b) ≤ℤ (pos 4 *ℤ N (comb (x ∷ xs) (b ∷ bs)))
pinned-by {b} {bs} {x} t l k s e f xs = subst (λ y. (y *ℤ y *ℤ N b) ≤ℤ (pos 4 *ℤ N (comb (x ∷ xs) (b ∷ bs)))) (sym f)
    (by_nn (up k ∷ s ∷ N b ∷ N (comb (x ∷ xs) (b ∷ bs)) ∷ loss k xs bs ∷ [])
    (nn-pos 4 ⊠ le high ⊞ le low ⊞ eq (pos 0 -ℤ up k *ℤ up k *ℤ N b) e.square) (search reads depth 20 fits 5000) (search reads depth 20 fits 5000) tt)
  where
    high : (up k *ℤ up k *ℤ N b) ≤ℤ (N (comb (x ∷ xs) (b ∷ bs)) +ℤ loss k xs bs)
    high = subst (λ y. (up k *ℤ up k *ℤ N b) ≤ℤ (y +ℤ loss k xs bs)) (≈-N (≈_trans (≈-⊕ (sign-⊙ (up k) s b f) ≈_refl) (≈_sym (comb_cons x xs b bs)))) (rounded t k s e xs)

    low : (pos 4 *ℤ loss k xs bs) ≤ℤ (pos 3 *ℤ (up k *ℤ up k *ℤ N b))
    low = loss-bound (pos 4) k 3 (dent_fourth k) (nn-sq (up k)) (N-nonneg b) xs bs t.longest l

-- half the length of the part along b: n²·N(b) ≤ 4·N(y)
pub pinned : {b : Vec} {bs : List Vec} → Top b bs → length bs ≤ 3 → (x : ℤ) (xs : List ℤ) → (x *ℤ x *ℤ N b) ≤ℤ (pos 4 *ℤ N (comb (x ∷ xs) (b ∷ bs)))
pinned {b} {bs} t l x xs = by_sign (λ x. (x *ℤ x *ℤ N b) ≤ℤ (pos 4 *ℤ N (comb (x ∷ xs) (b ∷ bs))))
    (rw (zero-*ℤ (N b)) (nn-pos 4 ⊠ N-nonneg (comb (pos 0 ∷ xs) (b ∷ bs))))
    (λ k s x e f g. pinned-by t l k s e f xs) x

-- ---- a combination is at least as long as every vector that it uses
-- the first: for x = ±1 nothing is lost, and from |x| = 2 on 4·N(b) ≤ x²·N(b)
pub first : {b : Vec} {bs : List Vec} → Top b bs → length bs ≤ 3 → (x : ℤ) (xs : List ℤ) → x ≢ pos 0 → N b ≤ℤ N (comb (x ∷ xs) (b ∷ bs))
unfolding up
first {b} {bs} t l x xs = by_sign (λ x. x ≢ pos 0 → N b ≤ℤ N (comb (x ∷ xs) (b ∷ bs))) (λ h. absurd (h refl)) one-or-more x
  where
    from-two : (d n : ℤ) {x : ℤ} → pos 2 ≤ℤ n → (s : ℤ) → s *ℤ s ≡ pos 1 → x ≡ s *ℤ n → (x *ℤ x *ℤ N b) ≤ℤ (pos 4 *ℤ d) → (pos 4 *ℤ N b) ≤ℤ (pos 4 *ℤ d)
    from-two d n {x} i s e f h = by_nn (n ∷ s ∷ x ∷ N b ∷ d ∷ [])
        (le h ⊞ (le i ⊠ (le i ⊞ nn-pos 4)) ⊠ N-nonneg b ⊞ eq (n *ℤ n *ℤ N b) e ⊞ eq ((x +ℤ s *ℤ n) *ℤ N b) f) (search reads depth 20 fits 5000) (search reads depth 20 fits 5000) tt

    one-or-more : (k : ℕ) (s x : ℤ) → Sign s → x ≡ s *ℤ up k → nat_abs x ≡ suc k → x ≢ pos 0 → N b ≤ℤ N (comb (x ∷ xs) (b ∷ bs))
    one-or-more zero s x e f g h =
        subst (λ x. N b ≤ℤ N (comb (x ∷ xs) (b ∷ bs))) (sym (f ∙ *ℤ-pos-one s)) (subst (λ n. N b ≤ℤ n) (sym (≈-N (comb_cons s xs b bs))) (shortest-signed t s e xs))
    one-or-more (suc k) s x e f g h = *ℤ-cancel-≤ {c = pos 4} (lt_z_yes tt) (from-two (N (comb (x ∷ xs) (b ∷ bs))) (up (suc k)) (≤-up 2 (suc k) (omega arith)) s e.square f (pinned t l x xs))

-- a first coefficient 0 may be left out
skip : {x : ℤ} (xs : List ℤ) (b : Vec) (bs : List Vec) → x ≡ pos 0 → comb (x ∷ xs) (b ∷ bs) ≈ comb xs bs
skip {x} xs b bs e = ≈_trans (comb_cons x xs b bs)
    (record { on = λ w. rw e (simp bilinear (by_ring (dot b w ∷ dot (comb xs bs) w ∷ []) (search reads) (search reads) tt)) })

-- `Under` by places, the place beyond the end included
pub under : {s : ℤ} (bs : List Vec) → Under s bs → NN s → (j : ℕ) → N (get_or bs j []) ≤ℤ s
under [] u n j = rw (nil-dot []) n
under (b ∷ bs) u n zero = u.0
under (b ∷ bs) u n (suc j) = under bs u.1 n j

pub any : (bs : List Vec) → Descending bs → length bs ≤ 4 → (x : List ℤ) (j : ℕ) → nth x j ≢ pos 0 → N (get_or bs j []) ≤ℤ N (comb x bs)
any [] d l x j h = rw (nil-dot []) (N-nonneg (comb x []))
any (b ∷ bs) d l [] j h = absurd (h refl)
any (b ∷ bs) d l (x ∷ xs) zero h = first d.0 (omega arith) x xs h
any (b ∷ bs) d l (x ∷ xs) (suc j) h = ⊎_elim
    (λ (e : x ≡ pos 0). rw (≈-N (skip xs b bs e)) (any bs d.1 (omega arith) xs j h))
    (λ (f : x ≢ pos 0). ≤ℤ_trans (under bs d.0.longest (N-nonneg b) j) (first d.0 (omega arith) x xs f))
    (zero_or_not x)

-- ---- reduced vectors are independent
leading-zero : {b : Vec} {bs : List Vec} → Top b bs → length bs ≤ 3 → (x : ℤ) (xs : List ℤ) → N (comb (x ∷ xs) (b ∷ bs)) ≡ pos 0 → x ≡ pos 0
leading-zero {b} t l x xs e = ⊎_elim (λ z. z)
    (λ f. absurd (<ℤ_irrefl (<ℤ-≤ℤ_trans t.positive (subst (λ n. N b ≤ℤ n) e (first t l x xs f))))) (zero_or_not x)

zeros : (bs : List Vec) → Descending bs → length bs ≤ 4 → (x : List ℤ) → length x ≡ length bs → N (comb x bs) ≡ pos 0 → Zero x
zeros bs d l [] c e i = refl
zeros [] d l (x ∷ xs) c e i = absurd (omega arith)
zeros (b ∷ bs) d l (x ∷ xs) c e zero = leading-zero d.0 (omega arith) x xs e
zeros (b ∷ bs) d l (x ∷ xs) c e (suc i) =
    zeros bs d.1 (omega arith) xs (omega arith) (sym (≈-N (skip xs b bs (leading-zero d.0 (omega arith) x xs e))) ∙ e) i

pub descending-independent : (bs : List Vec) → Descending bs → length bs ≤ 4 → Independent bs
descending-independent bs d l v =
    v.nonzero (zeros bs d l v.coefficients v.count (zero-dot (comb v.coefficients bs) v.vanishes (comb v.coefficients bs)))

pub independent-reverse : (bs : List Vec) → Independent (reverse bs) → Independent bs
independent-reverse bs h v = h (record {
  coefficients = reverse v.coefficients;
  count = length-reverse v.coefficients ∙ v.count ∙ sym (length-reverse bs);
  nonzero = λ z. v.nonzero (definite v.coefficients (sym (N-reverse v.coefficients) ∙ zero-dot (reverse v.coefficients) z (reverse v.coefficients)));
  vanishes = ≈-Zero (≈_trans (comb-reverse v.coefficients bs v.count) (Zero-≈ (comb v.coefficients bs) v.vanishes));
})

pub reduced-independent : (bs : List Vec) → Reduced bs → length bs ≤ 4 → Independent bs
reduced-independent bs d l = independent-reverse bs (descending-independent (reverse bs) d (omega (arith, length-reverse bs)))

-- ---- a vector above a list is above the reversed list: the order of the list below it does not count
under_snoc : (s : ℤ) (b : Vec) (bs : List Vec) → Under s (bs ++ (b ∷ [])) → Under s (b ∷ bs)
under_snoc s b [] u = u
under_snoc s b (c ∷ bs) u = let v = under_snoc s b bs u.1 in (v.0, (u.0, v.1))

under-reverse : (s : ℤ) (bs : List Vec) → Under s (reverse bs) → Under s bs
under-reverse s [] u = tt
under-reverse s (b ∷ bs) u = let v = under_snoc s b (reverse bs) (subst (Under s) (reverse-cons b bs) u) in (v.0, under-reverse s bs v.1)

pub top-reverse : {b : Vec} (bs : List Vec) → Top b (reverse bs) → Top b bs
top-reverse {b} bs t = record {
  positive = t.positive;
  longest = under-reverse (N b) bs t.longest;
  shortest = λ z. subst (λ n. N b ≤ℤ n) (≈-N (≈-⊕ ≈_refl (turned z))) (t.shortest (reverse (padded (length bs) z)));
}
  where
    turned : (z : List ℤ) → comb (reverse (padded (length bs) z)) (reverse bs) ≈ comb z bs
    turned z = ≈_trans (comb-reverse (padded (length bs) z) bs (length-padded (length bs) z)) (comb-fit (length bs) z bs refl)

-- the last vector of a reduced list is above the others, which are reduced
pub reduced-last : (bs : List Vec) (b : Vec) → Reduced (bs ++ (b ∷ [])) → Top b bs × Reduced bs
reduced-last bs b d = let e = subst Descending (reverse-append bs (b ∷ [])) d in (top-reverse bs e.0, e.1)
