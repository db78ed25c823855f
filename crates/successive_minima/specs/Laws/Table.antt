-- The table of −1, 0, 1: for at most three vectors with the pairwise inequalities, a list that no list of such entries improves
-- has the least value of all, ties included (`table-least`).
use Rattle.std.specs.Prelude.{◌≡◌, refl, Bool, false, List, [], ◌∷◌, ℕ, zero, suc, ◌+◌, ◌≤◌, ◌<◌, ℤ, pos, negsuc, neg_ℤ, nat_abs, ◌+ℤ◌, ◌*ℤ◌, length, get_or, take}
use Rattle.std.proofs.Math.Path.{sym}
use Rattle.std.proofs.Common.{ap, ◌∙◌, subst, ⊎_elim, one-mul, le_refl, arith, length-take}
use Rattle.integers.specs.Ring.{*ℤ-+ℤ}
use Rattle.integers.specs.Identity.{by_ring, reads}
use Rattle.integers.specs.Order.{≤ℤ_of_≡}
use Rattle.integers.specs.Certificate.{NN}
use Rattle.integers.specs.Size.{Within, within-mul, root-within}
use Rattle.integers.specs.Lists.{nth}
use Rattle.integers.specs.Lex.{Nonneg, nonneg-zeros}
use Rattle.integers.specs.Below.{below}
use Rattle.lattices.specs.Vector.{Vec, N, dot, ◌⊕◌, ◌⊖◌, ◌⊙◌, comb}
use Rattle.lattices.specs.Laws.Vector.{◌≈◌, ≈_refl, ≈_trans, ≈_of_≡, ≈-dot, bilinear, dot_comm, nil-dot}
use Rattle.successive_minima.specs.Laws.Values.{Least, change}
use Rattle.successive_minima.specs.Laws.ValueLaws.{change-⊕, change-zero, least_of}
use Rattle.successive_minima.specs.Laws.Digits.{Bounded, bounded_cons, zeros, not-below-nonneg}
use Rattle.successive_minima.specs.Laws.Grid.{lists, in_lists}
use Rattle.successive_minima.specs.Laws.Descent.{Six, form, descent}
use Rattle.successive_minima.specs.Laws.Pairs.{Pairs, pair-sign, pairs-at, six}

-- ---- fewer than three vectors are three, the zero vector in the missing places, and lists cut to the number of vectors

take-⊕ : (n : ℕ) (u v : List ℤ) → take n (u ⊕ v) ≡ take n u ⊕ take n v
unfolding ◌⊕◌
take-⊕ zero u v = refl
take-⊕ (suc n) [] v = refl
take-⊕ (suc n) (x ∷ u) [] = refl
take-⊕ (suc n) (x ∷ u) (y ∷ v) = ap (λ l. (x +ℤ y) ∷ l) (take-⊕ n u v)

comb-take : (bs : List Vec) (l : List ℤ) → comb (take (length bs) l) bs ≡ comb l bs
unfolding comb
comb-take [] [] = refl
comb-take [] (x ∷ l) = refl
comb-take (b ∷ bs) [] = refl
comb-take (b ∷ bs) (x ∷ l) = ap (λ v. x ⊙ b ⊕ v) (comb-take bs l)

three : (u v w : Vec) → u ⊕ (v ⊕ (w ⊕ [])) ≈ u ⊕ (v ⊕ w)
three u v w = record { on = λ k. simp (bilinear, nil-dot) (by_ring (dot u k ∷ dot v k ∷ dot w k ∷ []) (search reads) (search reads) tt) }

comb-three : (bs : List Vec) → length bs ≤ 3 → (x y z : ℤ)
    → comb (x ∷ y ∷ z ∷ []) bs ≈ x ⊙ get_or bs 0 [] ⊕ (y ⊙ get_or bs 1 [] ⊕ z ⊙ get_or bs 2 [])
unfolding comb ◌⊕◌ ◌⊙◌
comb-three [] h x y z = ≈_refl
comb-three (b ∷ []) h x y z = ≈_refl
comb-three (b ∷ c ∷ []) h x y z = ≈_refl
comb-three (b ∷ c ∷ d ∷ []) h x y z = three (x ⊙ b) (y ⊙ c) (z ⊙ d)
comb-three (b ∷ c ∷ d ∷ e ∷ bs) h x y z = absurd (omega arith)

bounded-take : {B : ℕ} (n : ℕ) (l : List ℤ) → Bounded B l → Bounded B (take n l)
bounded-take zero l h i = record { within = omega arith }
bounded-take (suc n) [] h i = h i
bounded-take (suc n) (x ∷ l) h zero = h 0
bounded-take (suc n) (x ∷ l) h (suc i) = bounded-take n l (λ j. h (suc j)) i

take_whole : (x : List ℤ) → length x ≤ 3 → take (length x) (nth x 0 ∷ nth x 1 ∷ nth x 2 ∷ []) ≡ x
take_whole [] h = refl
take_whole (a ∷ []) h = refl
take_whole (a ∷ b ∷ []) h = refl
take_whole (a ∷ b ∷ c ∷ []) h = refl
take_whole (a ∷ b ∷ c ∷ d ∷ x) h = absurd (omega arith)

bounded-three : {B : ℕ} {x y z : ℤ} → Within B x → Within B y → Within B z → Bounded B (x ∷ y ∷ z ∷ [])
bounded-three {y} {z} h k l = bounded_cons (y ∷ z ∷ []) h (bounded_cons (z ∷ []) k (bounded_cons [] l (λ i. record { within = omega arith })))

-- ---- sign and size of a coefficient

sign : ℤ → ℤ
sign (pos n) = pos 1
sign (negsuc n) = negsuc 0

sign-square : (x : ℤ) → sign x *ℤ sign x ≡ pos 1
unfolding sign
sign-square (pos n) = refl
sign-square (negsuc n) = refl

sign-size : (x : ℤ) → sign x *ℤ pos (nat_abs x) ≡ x
unfolding sign
sign-size (pos n) = ap pos (one-mul n)
sign-size (negsuc n) = ap (λ m. neg_ℤ (pos m)) (one-mul (suc n))

-- with the signs put into the vectors the sizes are the coefficients
gram : (b c d : Vec) (s t u i j k x y z : ℤ)
    → dot ((s *ℤ i) ⊙ b ⊕ ((t *ℤ j) ⊙ c ⊕ (u *ℤ k) ⊙ d)) ((s *ℤ x) ⊙ b ⊕ ((t *ℤ y) ⊙ c ⊕ (u *ℤ z) ⊙ d))
    ≡ form (N (s ⊙ b)) (N (t ⊙ c)) (N (u ⊙ d)) (dot (s ⊙ b) (t ⊙ c)) (dot (s ⊙ b) (u ⊙ d)) (dot (t ⊙ c) (u ⊙ d)) i j k x y z
gram b c d s t u i j k x y z = simp (bilinear, dot_comm c b, dot_comm d b, dot_comm d c)
    (by_ring (N b ∷ N c ∷ N d ∷ dot b c ∷ dot b d ∷ dot c d ∷ s ∷ t ∷ u ∷ i ∷ j ∷ k ∷ x ∷ y ∷ z ∷ [])
    (search reads depth 20 fits 5000) (search reads depth 20 fits 5000) tt)

unit : (s : ℤ) (i : ℕ) → s *ℤ s ≡ pos 1 → i ≤ 1 → Within 1 (s *ℤ pos i)
unit s i h l = within-mul {A = 1} {B = 1} {a = s} {b = pos i} (root-within {B = 1} (≤ℤ_of_≡ h)) (record { within = l })

scaled : (s : ℤ) (a x : ℕ) {i : ℕ} → a + x ≡ i → s *ℤ pos a +ℤ s *ℤ pos x ≡ s *ℤ pos i
scaled s a x e = sym (*ℤ-+ℤ s (pos a) (pos x)) ∙ ap (λ n. s *ℤ pos n) e

-- ---- nothing of size 1 is below zero: nothing is

module _ (r : Vec) (bs : List Vec) (short : length bs ≤ 3) (ps : Pairs bs)
    (small : (e : List ℤ) → length e ≡ length bs → Bounded 1 e → Nonneg (change r bs e)) where
  abbrev shape : ℤ → ℤ → ℤ → List ℤ
  shape x y z = take (length bs) (x ∷ y ∷ z ∷ [])

  shape-length : (x y z : ℤ) → length (shape x y z) ≡ length bs
  shape-length x y z = omega (arith, length-take (length bs) (x ∷ y ∷ z ∷ []))

  shape-comb : (x y z : ℤ) → comb (shape x y z) bs ≈ x ⊙ get_or bs 0 [] ⊕ (y ⊙ get_or bs 1 [] ⊕ z ⊙ get_or bs 2 [])
  shape-comb x y z = ≈_trans (≈_of_≡ (comb-take bs (x ∷ y ∷ z ∷ []))) (comb-three bs short x y z)

  shape-⊕ : (a b c x y z : ℤ) → shape a b c ⊕ shape x y z ≡ shape (a +ℤ x) (b +ℤ y) (c +ℤ z)
  unfolding ◌⊕◌
  shape-⊕ a b c x y z = sym (take-⊕ (length bs) (a ∷ b ∷ c ∷ []) (x ∷ y ∷ z ∷ []))

  -- over sizes, with signs s, t, u
  module _ (s t u : ℤ) (hs : s *ℤ s ≡ pos 1) (ht : t *ℤ t ≡ pos 1) (hu : u *ℤ u ≡ pos 1) where
    abbrev v1 : Vec
    v1 = s ⊙ get_or bs 0 []

    abbrev v2 : Vec
    v2 = t ⊙ get_or bs 1 []

    abbrev v3 : Vec
    v3 = u ⊙ get_or bs 2 []

    abbrev at : ℕ → ℕ → ℕ → List ℤ
    at i j k = shape (s *ℤ pos i) (t *ℤ pos j) (u *ℤ pos k)

    signed : Six (N v1) (N v2) (N v3) (dot v1 v2) (dot v1 v3) (dot v2 v3)
    signed = six (pair-sign s t hs ht (pairs-at bs ps 0 1 (omega arith))) (pair-sign s u hs hu (pairs-at bs ps 0 2 (omega arith)))
        (pair-sign t u ht hu (pairs-at bs ps 1 2 (omega arith)))

    base : (i j k : ℕ) → i ≤ 1 → j ≤ 1 → k ≤ 1 → Nonneg (change r bs (at i j k))
    base i j k hi hj hk = small (at i j k) (shape-length (s *ℤ pos i) (t *ℤ pos j) (u *ℤ pos k))
        (bounded-take (length bs) ((s *ℤ pos i) ∷ (t *ℤ pos j) ∷ (u *ℤ pos k) ∷ []) (bounded-three (unit s i hs hi) (unit t j ht hj) (unit u k hu hk)))

    step : (a b c x y z i j k : ℕ) → a + x ≡ i → b + y ≡ j → c + z ≡ k
        → NN (form (N v1) (N v2) (N v3) (dot v1 v2) (dot v1 v3) (dot v2 v3) (pos a) (pos b) (pos c) (pos x) (pos y) (pos z))
        → Nonneg (change r bs (at a b c)) → Nonneg (change r bs (at x y z)) → Nonneg (change r bs (at i j k))
    step a b c x y z i j k e f g h p q = subst (λ l. Nonneg (change r bs l)) sum (change-⊕ r bs (at a b c) (at x y z) (subst NN (sym product) h) p q)
      where
        product : dot (comb (at a b c) bs) (comb (at x y z) bs)
            ≡ form (N v1) (N v2) (N v3) (dot v1 v2) (dot v1 v3) (dot v2 v3) (pos a) (pos b) (pos c) (pos x) (pos y) (pos z)
        product = ≈-dot (shape-comb (s *ℤ pos a) (t *ℤ pos b) (u *ℤ pos c)) (shape-comb (s *ℤ pos x) (t *ℤ pos y) (u *ℤ pos z))
            ∙ gram (get_or bs 0 []) (get_or bs 1 []) (get_or bs 2 []) s t u (pos a) (pos b) (pos c) (pos x) (pos y) (pos z)

        sum : at a b c ⊕ at x y z ≡ at i j k
        sum = shape-⊕ (s *ℤ pos a) (t *ℤ pos b) (u *ℤ pos c) (s *ℤ pos x) (t *ℤ pos y) (u *ℤ pos z) ∙ rw (scaled s a x e, scaled t b y f, scaled u c z g)

    all-sizes : (i j k : ℕ) → Nonneg (change r bs (at i j k))
    all-sizes i j k = descent signed (λ i j k. Nonneg (change r bs (at i j k))) base step (i + j + k) i j k (le_refl (i + j + k))

  pub table : (x : List ℤ) → length x ≡ length bs → Nonneg (change r bs x)
  table x l = subst (λ l. Nonneg (change r bs l)) whole
      (all-sizes (sign (nth x 0)) (sign (nth x 1)) (sign (nth x 2)) (sign-square (nth x 0)) (sign-square (nth x 1)) (sign-square (nth x 2))
      (nat_abs (nth x 0)) (nat_abs (nth x 1)) (nat_abs (nth x 2)))
    where
      whole : shape (sign (nth x 0) *ℤ pos (nat_abs (nth x 0))) (sign (nth x 1) *ℤ pos (nat_abs (nth x 1))) (sign (nth x 2) *ℤ pos (nat_abs (nth x 2))) ≡ x
      whole = rw (sign-size (nth x 0), sign-size (nth x 1), sign-size (nth x 2), ← l) (take_whole x (subst (λ n. n ≤ 3) (sym l) short))

-- ---- the table

-- does the step e lead from a list with residual r to one of smaller value?
abbrev pub improves : Vec → List Vec → List ℤ → Bool
improves r bs e = below (change r bs e) (zeros (change r bs e))

-- no list of the table improves: the least value of all
pub table-least : (bs : List Vec) (t : Vec) (y : List ℤ) → length bs ≤ 3 → Pairs bs → length y ≡ length bs
    → ((i : ℕ) → i < length (lists (length bs)) → improves (t ⊖ comb y bs) bs (get_or (lists (length bs)) i []) ≡ false) → Least bs t y
table-least bs t y short ps l f = least_of bs t y l (table (t ⊖ comb y bs) bs short ps small)
  where
    small : (e : List ℤ) → length e ≡ length bs → Bounded 1 e → Nonneg (change (t ⊖ comb y bs) bs e)
    small e k h = ⊎_elim (not-below-nonneg (change (t ⊖ comb y bs) bs e))
        (λ z. nonneg-zeros (change (t ⊖ comb y bs) bs e) (change-zero (t ⊖ comb y bs) bs e z))
        (in_lists (λ e. improves (t ⊖ comb y bs) bs e ≡ false) (length bs) f e k h)
