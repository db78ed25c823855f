-- How large an integer is: |a + b| and |a * b| on `nat_abs`, and a record `Within B z` (|z| ≤ B) that is carried along
-- sums and products up to the fact that a result fits its width (`fits-within`).
use Rattle.std.specs.Prelude.{◌≡◌, refl, Bool, true, false, not, List, [], ◌∷◌, ◌++◌, ℕ, zero, suc, ◌+◌, ◌*◌, ◌^◌, ◌<◌, ◌≤◌, T, leb, ltb, ℤ, pos, negsuc, neg_ℤ, nat_abs, ◌+ℤ◌, ◌-ℤ◌, ◌*ℤ◌, ◌≤ℤ◌, length}
use Rattle.std.proofs.Common.{sym, subst, subst₂, le_refl, le_trans, lt_of_le_of_lt, mul-le-mul, arith, leb→le, le→leb, ltb→lt}
use Rattle.std.proofs.Math.Dec.{nleb→lt}
use Rattle.std.proofs.Math.IntN.{sub_ℕ}
use Rattle.std.specs.Int.Signed.{mag, le_z, le_z_yes}
use Rattle.std.specs.Int.{Width}
use mir.Val.{hbits, SFits}
use Rattle.integers.specs.Order.{sub-ind}
use Rattle.integers.specs.Lists.{nth}

-- ---- the size of a result

pub size-neg : (a : ℤ) → nat_abs (neg_ℤ a) ≡ nat_abs a
size-neg (pos zero) = refl
size-neg (pos (suc a)) = refl
size-neg (negsuc a) = refl

size-subℕ : (a b : ℕ) → nat_abs (sub_ℕ a b) ≤ a + b
size-subℕ a b = sub-ind (λ z. nat_abs z ≤ a + b) a b (λ h. omega arith) (λ h. omega arith)

pub size-add : (a b : ℤ) → nat_abs (a +ℤ b) ≤ nat_abs a + nat_abs b
size-add (pos a) (pos b) = le_refl (a + b)
size-add (pos a) (negsuc b) = size-subℕ a (suc b)
size-add (negsuc a) (pos b) = omega (arith, size-subℕ b (suc a))
size-add (negsuc a) (negsuc b) = omega arith

pub size-sub : (a b : ℤ) → nat_abs (a -ℤ b) ≤ nat_abs a + nat_abs b
size-sub a b = subst (λ n. nat_abs (a -ℤ b) ≤ nat_abs a + n) (size-neg b) (size-add a (neg_ℤ b))

pub size-mul : (a b : ℤ) → nat_abs (a *ℤ b) ≡ nat_abs a * nat_abs b
size-mul (pos a) (pos b) = refl
size-mul (pos a) (negsuc b) = size-neg (pos (a * suc b))
size-mul (negsuc a) (pos b) = size-neg (pos (suc a * b))
size-mul (negsuc a) (negsuc b) = refl

-- ---- bounded integers; a record, so that the bound and the number are inferred

pub record Within (B : ℕ) (z : ℤ) : Type 0 where
  pub within : nat_abs z ≤ B

pub within-le : {A B : ℕ} {z : ℤ} → A ≤ B → Within A z → Within B z
within-le h k = record { within = le_trans k.within h }

pub within-neg : {B : ℕ} {z : ℤ} → Within B z → Within B (neg_ℤ z)
within-neg {B} {z} h = record { within = subst (λ n. n ≤ B) (sym (size-neg z)) h.within }

pub within-add : {A B : ℕ} {a b : ℤ} → Within A a → Within B b → Within (A + B) (a +ℤ b)
within-add {a = a} {b = b} h k = record { within = omega (arith, size-add a b, h.within, k.within) }

pub within-sub : {A B : ℕ} {a b : ℤ} → Within A a → Within B b → Within (A + B) (a -ℤ b)
within-sub h k = within-add h (within-neg k)

pub within-mul : {A B : ℕ} {a b : ℤ} → Within A a → Within B b → Within (A * B) (a *ℤ b)
within-mul {A} {B} {a} {b} h k =
    record { within = subst (λ n. n ≤ A * B) (sym (size-mul a b)) (mul-le-mul h.within k.within) }

-- ---- a bounded integer fits its width; at a numeral B the test computes: `fits-within h tt`

mag_≤ : (z : ℤ) → mag z ≤ nat_abs z
mag_≤ (pos n) = le_refl n
mag_≤ (negsuc n) = omega arith

pub fits-within : {w : Width} {B : ℕ} {z : ℤ} → Within B z → T (ltb B (2 ^ hbits w)) → SFits w z
fits-within {w} {B} {z} h t =
    record { sfits = lt_of_le_of_lt (le_trans (mag_≤ z) h.within) (ltb→lt B (2 ^ hbits w) t) }

-- ---- |z| ≤ B is −B ≤ z ≤ B

lower : (B : ℕ) (z : ℤ) → nat_abs z ≤ B → T (le_z (neg_ℤ (pos B)) z)
lower zero (pos n) h = le→leb zero n (omega arith)
lower zero (negsuc n) h = absurd (omega arith)
lower (suc B) (pos n) h = tt
lower (suc B) (negsuc n) h = le→leb n B (omega arith)

upper : (B : ℕ) (z : ℤ) → nat_abs z ≤ B → T (le_z z (pos B))
upper B (pos n) h = le→leb n B h
upper B (negsuc n) h = tt

between : (B : ℕ) (z : ℤ) → T (le_z (neg_ℤ (pos B)) z) → T (le_z z (pos B)) → nat_abs z ≤ B
between B (pos n) l u = leb→le n B u
between zero (negsuc n) l u = absurd l
between (suc B) (negsuc n) l u = omega (arith, leb→le n B l)

pub within-lower : {B : ℕ} {z : ℤ} → Within B z → neg_ℤ (pos B) ≤ℤ z
within-lower {B} {z} h = le_z_yes (lower B z h.within)

pub within-upper : {B : ℕ} {z : ℤ} → Within B z → z ≤ℤ pos B
within-upper {B} {z} h = le_z_yes (upper B z h.within)

pub within_of_bounds : {B : ℕ} {z : ℤ} → neg_ℤ (pos B) ≤ℤ z → z ≤ℤ pos B → Within B z
within_of_bounds {B} {z} l u = record { within = between B z l.le u.le }

-- ---- sizes from squares

square-size : (x : ℤ) → x *ℤ x ≡ pos (nat_abs x * nat_abs x)
square-size (pos a) = refl
square-size (negsuc a) = refl

root-ℕ : (m n : ℕ) → m * m ≤ n * n → m ≤ n
root-ℕ m n h = pick (leb m n) (leb→le m n) (nleb→lt m n)
  where
    larger : n < m → m ≤ n
    larger l = absurd (omega (arith, mul-le-mul l l))

    pick : (t : Bool) → (T t → m ≤ n) → (T (not t) → n < m) → m ≤ n
    pick true f g = f tt
    pick false f g = larger (g tt)

pub root : (x y : ℤ) → (x *ℤ x) ≤ℤ (y *ℤ y) → nat_abs x ≤ nat_abs y
root x y h = root-ℕ (nat_abs x) (nat_abs y) (leb→le (nat_abs x * nat_abs x) (nat_abs y * nat_abs y) squares.le)
  where
    squares : pos (nat_abs x * nat_abs x) ≤ℤ pos (nat_abs y * nat_abs y)
    squares = subst₂ ◌≤ℤ◌ (square-size x) (square-size y) h

pub root-within : {B : ℕ} {x : ℤ} → (x *ℤ x) ≤ℤ pos (B * B) → Within B x
root-within {B} {x} h = record { within = root x (pos B) h }

-- ---- the size of a combination at place i, term by term: the sum of the sizes of x_k · t_k[i]
unfoldable pub load : List ℤ → List (List ℤ) → ℕ → ℕ
load [] t i = 0
load (x ∷ xs) [] i = 0
load (x ∷ xs) (r ∷ t) i = nat_abs (x *ℤ nth r i) + load xs t i

pub load_snoc : (x : List ℤ) (t : List (List ℤ)) (y : ℤ) (r : List ℤ) → length x ≡ length t → (i : ℕ) → load (x ++ (y ∷ [])) (t ++ (r ∷ [])) i ≡ load x t i + nat_abs (y *ℤ nth r i)
unfolding load
load_snoc [] [] y r e i = omega arith
load_snoc [] (q ∷ t) y r e i = absurd (omega arith)
load_snoc (x ∷ xs) [] y r e i = absurd (omega arith)
load_snoc (x ∷ xs) (q ∷ t) y r e i = omega (arith, load_snoc xs t y r (omega arith) i)
