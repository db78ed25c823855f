-- The descent that carries three vectors from coefficients of size 1 to all: over Gram entries A, B, C (squared lengths) and
-- p, q, r (inner products of vectors 1 and 2, 1 and 3, 2 and 3), and coefficients that are natural numbers, their signs put into the vectors.
use Rattle.std.specs.Prelude.{◌≡◌, [], ◌∷◌, ℕ, zero, suc, ◌+◌, ◌*◌, ◌-◌, ◌≤◌, max, ℤ, pos, ◌+ℤ◌, ◌*ℤ◌, ◌≤ℤ◌}
use Rattle.std.proofs.Common.{subst, arith, le→leb}
use Rattle.std.proofs.Math.Decide.{dec_le}
use Rattle.std.specs.Int.Signed.{le_z_yes, lt_z_yes}
use Rattle.integers.specs.Identity.{by_ring, reads}
use Rattle.integers.specs.Certificate.{NN, ◌⊞◌, ◌⊠◌, le, nn-pos, nn_ring, nn_cancel}

-- the inner product of two combinations of three vectors
abbrev pub form : ℤ → ℤ → ℤ → ℤ → ℤ → ℤ → ℤ → ℤ → ℤ → ℤ → ℤ → ℤ → ℤ
form A B C p q r a b c x y z = a *ℤ x *ℤ A +ℤ b *ℤ y *ℤ B +ℤ c *ℤ z *ℤ C +ℤ (a *ℤ y +ℤ b *ℤ x) *ℤ p +ℤ (a *ℤ z +ℤ c *ℤ x) *ℤ q +ℤ (b *ℤ z +ℤ c *ℤ y) *ℤ r

-- no two of the vectors point apart by more than half of either
pub record Six (A B C p q r : ℤ) : Type 0 where
  pub a : NN A
  pub b : NN B
  pub c : NN C
  pub ab : NN (A +ℤ pos 2 *ℤ p)
  pub ba : NN (B +ℤ pos 2 *ℤ p)
  pub ac : NN (A +ℤ pos 2 *ℤ q)
  pub ca : NN (C +ℤ pos 2 *ℤ q)
  pub bc : NN (B +ℤ pos 2 *ℤ r)
  pub cb : NN (C +ℤ pos 2 *ℤ r)

-- ---- the two certificates: the first vector alone, all three together

half : {z : ℤ} → NN (pos 2 *ℤ z) → NN z
half h = nn_cancel {n = pos 2} (lt_z_yes tt) h

alone : {A B C p q r : ℤ} → Six A B C p q r → (x y z : ℤ) → NN y → NN z → (y +ℤ z) ≤ℤ (pos 2 *ℤ x)
    → NN (form A B C p q r (pos 1) (pos 0) (pos 0) x y z)
alone {A} {B} {C} {p} {q} {r} s x y z hy hz h = half (nn_ring (A ∷ B ∷ C ∷ p ∷ q ∷ r ∷ x ∷ y ∷ z ∷ [])
    (hy ⊠ s.ab ⊞ hz ⊠ s.ac ⊞ le h ⊠ s.a) (search reads depth 20 fits 5000) (search reads depth 20 fits 5000) tt)

together : {A B C p q r : ℤ} → Six A B C p q r → (m n : ℤ) → NN m → NN n → NN (form A B C p q r (pos 1) (pos 1) (pos 1) (m +ℤ n) (m +ℤ n) m)
together {A} {B} {C} {p} {q} {r} s m n hm hn = half (nn_ring (A ∷ B ∷ C ∷ p ∷ q ∷ r ∷ m ∷ n ∷ [])
    (hm ⊠ (s.ab ⊞ s.ba ⊞ s.ac ⊞ s.ca ⊞ s.bc ⊞ s.cb) ⊞ hn ⊠ (s.ab ⊞ s.ba ⊞ s.ac ⊞ s.bc))
    (search reads depth 20 fits 5000) (search reads depth 20 fits 5000) tt)

-- ---- a list of sizes taken apart: entries 0 and 1, and a rest that does not point apart from them

record Split (A B C p q r : ℤ) (i j k : ℕ) : Type 0 where
  a : ℕ
  b : ℕ
  c : ℕ
  x : ℕ
  y : ℕ
  z : ℕ
  small : (a ≤ 1) × (b ≤ 1) × (c ≤ 1)
  some : 1 ≤ a + b + c
  sums : (a + x ≡ i) × (b + y ≡ j) × (c + z ≡ k)
  product : NN (form A B C p q r (pos a) (pos b) (pos c) (pos x) (pos y) (pos z))

-- the first vector may be any of the three: turn them
turn-six : {A B C p q r : ℤ} → Six A B C p q r → Six B C A r p q
turn-six s = record { a = s.b; b = s.c; c = s.a; ab = s.bc; ba = s.cb; ac = s.ba; ca = s.ab; bc = s.ca; cb = s.ac }

turn-form : (A B C p q r a b c x y z : ℤ) → form B C A r p q b c a y z x ≡ form A B C p q r a b c x y z
turn-form A B C p q r a b c x y z =
    by_ring (A ∷ B ∷ C ∷ p ∷ q ∷ r ∷ a ∷ b ∷ c ∷ x ∷ y ∷ z ∷ []) (search reads depth 20 fits 5000) (search reads depth 20 fits 5000) tt

turn : {A B C p q r : ℤ} {i j k : ℕ} → Split B C A r p q j k i → Split A B C p q r i j k
turn {A} {B} {C} {p} {q} {r} s = record {
  a = s.c;
  b = s.a;
  c = s.b;
  x = s.z;
  y = s.x;
  z = s.y;
  small = (s.small.2, s.small.0, s.small.1);
  some = omega (arith, s.some);
  sums = (s.sums.2, s.sums.0, s.sums.1);
  product = subst NN (turn-form A B C p q r (pos s.c) (pos s.a) (pos s.b) (pos s.z) (pos s.x) (pos s.y)) s.product;
}

one : {A B C p q r : ℤ} → Six A B C p q r → (i j k : ℕ) → j + k + 2 ≤ 2 * i → Split A B C p q r i j k
one s i j k h = record {
  a = 1;
  b = 0;
  c = 0;
  x = i - 1;
  y = j;
  z = k;
  small = omega arith;
  some = omega arith;
  sums = omega arith;
  product = alone s (pos (i - 1)) (pos j) (pos k) (nn-pos j) (nn-pos k) (le_z_yes (le→leb (j + k) (2 * (i - 1)) (omega arith)));
}

three : {A B C p q r : ℤ} → Six A B C p q r → (i j k : ℕ) → i ≡ j → 1 ≤ k → k ≤ i → Split A B C p q r i j k
three s i j k e h l = record {
  a = 1;
  b = 1;
  c = 1;
  x = (k - 1) + (i - k);
  y = (k - 1) + (i - k);
  z = k - 1;
  small = omega arith;
  some = omega arith;
  sums = omega arith;
  product = together s (pos (k - 1)) (pos (i - k)) (nn-pos (k - 1)) (nn-pos (i - k));
}

-- the largest size first: where it does not outweigh the others, another is equal to it
largest : {A B C p q r : ℤ} → Six A B C p q r → (i j k : ℕ) → 2 ≤ i → j ≤ i → k ≤ i → Split A B C p q r i j k
largest {A} {B} {C} {p} {q} {r} s i j k h hj hk = pick (dec_le (j + k + 2) (2 * i)) (dec_le i j)
  where
    pick : Dec (j + k + 2 ≤ 2 * i) → Dec (i ≤ j) → Split A B C p q r i j k
    pick (yes l) d = one s i j k l
    pick (no l) (yes m) = three s i j k (omega arith) (omega arith) hk
    pick (no l) (no m) = turn (turn (three (turn-six (turn-six s)) k i j (omega arith) (omega arith) (omega arith)))

split : {A B C p q r : ℤ} → Six A B C p q r → (i j k : ℕ) → 2 ≤ max i (max j k) → Split A B C p q r i j k
split {A} {B} {C} {p} {q} {r} s i j k h = pick (dec_le (max j k) i) (dec_le (max i k) j)
  where
    pick : Dec (max j k ≤ i) → Dec (max i k ≤ j) → Split A B C p q r i j k
    pick (yes l) d = largest s i j k (omega arith) (omega arith) (omega arith)
    pick (no l) (yes m) = turn (largest (turn-six s) j k i (omega arith) (omega arith) (omega arith))
    pick (no l) (no m) = turn (turn (largest (turn-six (turn-six s)) k i j (omega arith) (omega arith) (omega arith)))

-- what holds of the sizes 0 and 1, and of sums of lists that do not point apart, holds of all sizes
pub descent : {A B C p q r : ℤ} → Six A B C p q r → (P : ℕ → ℕ → ℕ → Type 0)
    → ((a b c : ℕ) → a ≤ 1 → b ≤ 1 → c ≤ 1 → P a b c)
    → ((a b c x y z i j k : ℕ) → a + x ≡ i → b + y ≡ j → c + z ≡ k
    → NN (form A B C p q r (pos a) (pos b) (pos c) (pos x) (pos y) (pos z)) → P a b c → P x y z → P i j k)
    → (n i j k : ℕ) → i + j + k ≤ n → P i j k
descent s P base step zero i j k h = base i j k (omega arith) (omega arith) (omega arith)
descent {A} {B} {C} {p} {q} {r} s P base step (suc n) i j k h = pick (dec_le (max i (max j k)) 1) (descent s P base step n)
  where
    down : Split A B C p q r i j k → ((i j k : ℕ) → i + j + k ≤ n → P i j k) → P i j k
    down t ih = step t.a t.b t.c t.x t.y t.z i j k t.sums.0 t.sums.1 t.sums.2 t.product
        (base t.a t.b t.c t.small.0 t.small.1 t.small.2) (ih t.x t.y t.z (omega (arith, t.sums, t.some)))

    pick : Dec (max i (max j k) ≤ 1) → ((i j k : ℕ) → i + j + k ≤ n → P i j k) → P i j k
    pick (yes l) ih = base i j k (omega arith) (omega arith) (omega arith)
    pick (no l) ih = down (split s i j k (omega arith)) ih
