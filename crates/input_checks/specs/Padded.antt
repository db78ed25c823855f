-- Vectors filled up with zeros: how the array grows row by row and coordinate by coordinate, and that zeros change neither
-- an inner product, nor which vectors are too long, nor which lists are dependent.
use Rattle.std.specs.Prelude.{◌≡◌, refl, ◌↔◌, Bool, true, false, ◌||◌, List, [], ◌∷◌, map, ℕ, zero, suc, ◌+◌, ◌*◌, ◌≤◌, ◌<◌, ℤ, pos, nat_abs, length, get_or, set, take, drop, ltb, ◌++◌}
use Rattle.std.proofs.Common.{sym, ap, ap₂, ◌∙◌, zero-le, le_of_suc-le-suc, not-suc-le-zero, le_trans, arith, add-one, length-take, length-drop, take_all, drop-drop, length-take-le}
use Rattle.std.proofs.lemmas.List.{length-map}
use Rattle.std.specs.Int.Signed.{lt_z}
use Rattle.row_operations.specs.Front.{front}
use Rattle.lattices.specs.Vector.{Vec, comb, Dependent}
use Rattle.lattices.specs.Laws.Vector.{◌≈◌, ≈_refl, ≈-⊕, ≈-⊙, ≈-N, ≈-nth}
use Rattle.lattices.specs.Volume.{is_dependent}
use Rattle.lattices.specs.Refusal.{vectors_of, too_long, most_size, most_square}
use Rattle.integers.specs.Every.{any}
use Rattle.lattices.specs.Answer.{padded, table}
use Rattle.lattices.specs.Laws.Answer.{length-padded, padded-≈}
use Rattle.exterior_algebra.specs.Dependence.{Fit, dependent_exactly}

-- ---- one coordinate more, one row more, as code stores them

-- some of the numbers, all in front
front-cut : (m : ℕ) (l old : List ℤ) → m ≤ length l → front (length (take m l)) (take m l) old ≡ front m l old
front-cut m l old h = ap₂ ◌++◌ (take_all (length (take m l)) (take m l) (omega arith)) (ap (λ n. drop n old) (length-take-le m l h))

-- numbers in front of zeros
pub front-zeros : (n m : ℕ) (l : List ℤ) → m ≤ n → m ≤ length l → front m l (padded n []) ≡ padded n (take m l)
front-zeros n zero l h k = refl
front-zeros zero (suc m) l h k = absurd (not-suc-le-zero h)
front-zeros (suc n) (suc m) [] h k = absurd (not-suc-le-zero k)
front-zeros (suc n) (suc m) (x ∷ l) h k = ap {B = List ℤ} (λ r. x ∷ r) (front-zeros n m l (le_of_suc-le-suc h) (le_of_suc-le-suc k))

-- the next row is zeros still
next-zeros : (h w i m : ℕ) (l : List ℤ) → i < h → get_or (table h w (vectors_of i m l)) i [] ≡ padded w []
next-zeros zero w i m l k = absurd (not-suc-le-zero k)
next-zeros (suc h) w zero m l k = refl
next-zeros (suc h) w (suc i) m l k = next-zeros h w i m (drop m l) (le_of_suc-le-suc k)

set-row : (h w i m : ℕ) (l : List ℤ) → i < h
    → set (table h w (vectors_of i m l)) i (padded w (take m (drop (i * m) l))) ≡ table h w (vectors_of (suc i) m l)
set-row zero w i m l k = absurd (not-suc-le-zero k)
set-row (suc h) w zero m l k =
    let start : 0 * m ≡ 0 = omega arith in
    ap (λ n. padded w (take m (drop n l)) ∷ table h w []) start
set-row (suc h) w (suc i) m l k =
    let next : suc i * m ≡ m + i * m = omega arith in
    ap (λ r. padded w (take m l) ∷ set (table h w (vectors_of i m (drop m l))) i (padded w (take m r))) (ap (λ n. drop n l) next ∙ sym (drop-drop (i * m) m l))
    ∙ ap (λ t. padded w (take m l) ∷ t) (set-row h w i m (drop m l) (le_of_suc-le-suc k))

module _ (h w i m : ℕ) (l : List ℤ) {t : List (List ℤ)} (k : i < h) (e : t ≡ table h w (vectors_of i m l)) where
  next_row : get_or t i [] ≡ padded w []
  next_row = ap (λ t. get_or t i []) e ∙ next-zeros h w i m l k

  pub table_more : {r v : List ℤ} → m ≤ w → i * m + m ≤ length l → v ≡ take m (drop (i * m) l) → r ≡ front (length v) v (get_or t i []) → set t i r ≡ table h w (vectors_of (i + 1) m l)
  table_more n f p g =
      ap₂ (λ t r. set t i r) e (g ∙ ap (λ v. front (length v) v (get_or t i [])) p ∙ front-cut m (drop (i * m) l) (get_or t i []) (omega (arith, length-drop (i * m) l)) ∙ ap (front m (drop (i * m) l)) next_row ∙ front-zeros w m (drop (i * m) l) n (omega (arith, length-drop (i * m) l)))
      ∙ set-row h w i m l k ∙ ap (λ n. table h w (vectors_of n m l)) (sym (add-one i))

-- ---- zeros change no inner product

-- ---- nor what is too long

any-zeros : (f : ℤ → Bool) → f (pos 0) ≡ false → (n : ℕ) → any f (padded n []) ≡ false
any-zeros f e zero = refl
any-zeros f e (suc n) = ap₂ ◌||◌ e (any-zeros f e n)

pub any-padded : (f : ℤ → Bool) → f (pos 0) ≡ false → (n : ℕ) (v : Vec) → length v ≤ n → any f (padded n v) ≡ any f v
any-padded f e n [] h = any-zeros f e n
any-padded f e zero (x ∷ v) h = absurd (not-suc-le-zero h)
any-padded f e (suc n) (x ∷ v) h = ap (λ t. f x || t) (any-padded f e n v (le_of_suc-le-suc h))

pub too_long-padded : (n : ℕ) (v : Vec) → length v ≤ n → too_long (padded n v) ≡ too_long v
too_long-padded n v h =
    ap₂ (λ t z. t || lt_z (pos most_square) z) (any-padded (λ x. ltb most_size (nat_abs x)) refl n v h) (≈-N (padded-≈ n v h))

pub any-long-padded : (n : ℕ) (bs : List Vec) → Fit n bs → any too_long (map (padded n) bs) ≡ any too_long bs
any-long-padded n [] h = refl
any-long-padded n (b ∷ bs) h = ap₂ ◌||◌ (too_long-padded n b (h zero)) (any-long-padded n bs (λ i. h (suc i)))

-- ---- nor dependence

comb-padded : (n : ℕ) (x : List ℤ) (bs : List Vec) → Fit n bs → comb x (map (padded n) bs) ≈ comb x bs
unfolding comb
comb-padded n [] bs h = ≈_refl
comb-padded n (x ∷ xs) [] h = ≈_refl
comb-padded n (x ∷ xs) (b ∷ bs) h = ≈-⊕ (≈-⊙ x (padded-≈ n b (h zero))) (comb-padded n xs bs (λ i. h (suc i)))

dependent_padded : (n : ℕ) (bs : List Vec) → Fit n bs → Dependent (map (padded n) bs) ↔ Dependent bs
dependent_padded n bs h = (narrow, widen)
  where
    narrow : Dependent (map (padded n) bs) → Dependent bs
    narrow r =
        record {
          coefficients = r.coefficients;
          count = r.count ∙ length-map bs (padded n);
          nonzero = r.nonzero;
          vanishes = λ i. sym (≈-nth (comb-padded n r.coefficients bs h) i) ∙ r.vanishes i;
        }

    widen : Dependent bs → Dependent (map (padded n) bs)
    widen r =
        record {
          coefficients = r.coefficients;
          count = r.count ∙ sym (length-map bs (padded n));
          nonzero = r.nonzero;
          vanishes = λ i. ≈-nth (comb-padded n r.coefficients bs h) i ∙ r.vanishes i;
        }

fit-padded : (n : ℕ) (bs : List Vec) → Fit n (map (padded n) bs)
fit-padded n [] i = zero-le
fit-padded n (b ∷ bs) zero = omega (arith, length-padded n b)
fit-padded n (b ∷ bs) (suc i) = fit-padded n bs i

same_test : (s t : Bool) → (s ≡ true) ↔ (t ≡ true) → s ≡ t
same_test true t e = sym (e.0 refl)
same_test false true e = e.1 refl
same_test false false e = refl

pub is_dependent-padded : (m n : ℕ) (bs : List Vec) → Fit m bs → m ≤ n → is_dependent m bs ≡ is_dependent n (map (padded n) bs)
is_dependent-padded m n bs h k =
    let wide : Fit n bs = λ i. le_trans (h i) k in
    let (to, from) = dependent_exactly m bs h in
    let (to', from') = dependent_exactly n (map (padded n) bs) (fit-padded n bs) in
    let (narrow, widen) = dependent_padded n bs wide in
    same_test (is_dependent m bs) (is_dependent n (map (padded n) bs)) (λ e. from' (widen (to e)), λ e. from (narrow (to' e)))

pub fit-vectors_of : (d m : ℕ) (l : List ℤ) → Fit m (vectors_of d m l)
fit-vectors_of zero m l i = zero-le
fit-vectors_of (suc d) m l zero = omega (arith, length-take m l)
fit-vectors_of (suc d) m l (suc i) = fit-vectors_of d m (drop m l) i
