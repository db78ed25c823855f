-- The order of ℤ: laws of `lib.Signed`'s `◌≤ℤ◌` and `◌<ℤ◌` under sums and products, and their tests as equations.
-- The laws rest on `gap`: a ≤ b says that b is a plus a natural number.
use Rattle.std.specs.Prelude.{◌≡◌, refl, ◌≢◌, ◌⊎◌, Bool, true, false, not, cond, ℕ, zero, suc, ◌+◌, ◌*◌, ◌-◌, ◌<◌, ◌≤◌, T, ltb, ℤ, pos, negsuc, ◌+ℤ◌, ◌*ℤ◌, ◌≤ℤ◌, ◌<ℤ◌}
use Rattle.std.proofs.Common.{sym, ap, ◌∙◌, subst, inl, inr, le_antisymm, mul-pos, zero-lt-suc, arith, leb→le, le→leb, ltb→lt, lt→ltb, nltb→le}
use Rattle.std.proofs.Math.IntN.{suc_ℤ, sub_ℕ, +ℤ_one, +ℤ_assoc, +ℤ_comm, +ℤ_idl, ℤ_discrete}
use Rattle.std.specs.Int.Signed.{le_z, lt_z, lt_z_yes, lt_z_no, le_z_yes, ≤ℤ_refl, <ℤ-≤ℤ_trans, clash_ℤ}
use Rattle.integers.specs.Ring.{*ℤ-+ℤ, *ℤ-pos-one}

-- ---- a difference of naturals, by its sign

pub sub-ind {ℓ} : (P : ℤ → Type ℓ) (a b : ℕ) → (a < b → P (negsuc (b - suc a))) → (b ≤ a → P (pos (a - b))) → P (sub_ℕ a b)
sub-ind P a b f g = go (ltb a b) (λ t. f (ltb→lt a b t)) (λ t. g (nltb→le a b t))
  where
    go : (c : Bool) → (T c → P (negsuc (b - suc a))) → (T (not c) → P (pos (a - b))) → P (cond c (negsuc (b - suc a)) (pos (a - b)))
    go true f g = f tt
    go false f g = g tt

-- ---- the distance between two integers

gap' : (a b : ℤ) → T (le_z a b) → (n : ℕ) × (b ≡ a +ℤ pos n)
gap' (pos a) (pos b) t = (b - a, ap pos (omega (arith, leb→le a b t)))
gap' (pos a) (negsuc b) t = absurd t
gap' (negsuc a) (pos b) t =
    (b + suc a, sub-ind (λ z. pos b ≡ z) (b + suc a) (suc a) (λ h. absurd (omega arith)) (λ h. ap pos (omega arith)))
gap' (negsuc a) (negsuc b) t = (a - b, sub-ind (λ z. negsuc b ≡ z) (a - b) (suc a) (λ h. ap negsuc (omega (arith, leb→le b a t))) (λ h. absurd (omega arith)))

pub gap : {a b : ℤ} → a ≤ℤ b → (n : ℕ) × (b ≡ a +ℤ pos n)
gap {a} {b} h = gap' a b h.le

pub ≤ℤ-add-pos : (a : ℤ) (n : ℕ) → a ≤ℤ (a +ℤ pos n)
≤ℤ-add-pos (pos a) n = le_z_yes (le→leb a (a + n) (omega arith))
≤ℤ-add-pos (negsuc a) n =
    sub-ind (λ z. negsuc a ≤ℤ z) n (suc a) (λ h. le_z_yes (le→leb (suc a - suc n) a (omega arith))) (λ h. le_z_yes tt)

pub ≤ℤ_of_gap : {a b : ℤ} (n : ℕ) → b ≡ a +ℤ pos n → a ≤ℤ b
≤ℤ_of_gap {a} {b} n e = subst (λ z. a ≤ℤ z) (sym e) (≤ℤ-add-pos a n)

-- ---- ≤ is a linear order

pub ≤ℤ_of_≡ : {a b : ℤ} → a ≡ b → a ≤ℤ b
≤ℤ_of_≡ {a} {b} e = subst (λ z. a ≤ℤ z) e (≤ℤ_refl a)

pub ≤ℤ_trans : {a b c : ℤ} → a ≤ℤ b → b ≤ℤ c → a ≤ℤ c
≤ℤ_trans {a} {b} {c} h k =
    let (m, p) = gap h in
    let (n, q) = gap k in
    ≤ℤ_of_gap (m + n) (q ∙ ap (λ z. z +ℤ pos n) p ∙ +ℤ_assoc a (pos m) (pos n))

antisymm' : (a b : ℤ) → T (le_z a b) → T (le_z b a) → a ≡ b
antisymm' (pos a) (pos b) t u = ap pos (le_antisymm (leb→le a b t) (leb→le b a u))
antisymm' (pos a) (negsuc b) t u = absurd t
antisymm' (negsuc a) (pos b) t u = absurd u
antisymm' (negsuc a) (negsuc b) t u = ap negsuc (le_antisymm (leb→le a b u) (leb→le b a t))

pub ≤ℤ_antisymm : {a b : ℤ} → a ≤ℤ b → b ≤ℤ a → a ≡ b
≤ℤ_antisymm {a} {b} h k = antisymm' a b h.le k.le

-- ---- < is ≤ from the next number on

add_one' : (a b : ℤ) → T (lt_z a b) → T (le_z (suc_ℤ a) b)
add_one' (pos a) (pos b) t = t
add_one' (pos a) (negsuc b) t = t
add_one' (negsuc zero) (pos b) t = le→leb zero b (omega arith)
add_one' (negsuc (suc a)) (pos b) t = t
add_one' (negsuc zero) (negsuc b) t = absurd (omega (arith, ltb→lt b zero t))
add_one' (negsuc (suc a)) (negsuc b) t = le→leb b a (omega (arith, ltb→lt b (suc a) t))

pub add-one-≤ℤ : {a b : ℤ} → a <ℤ b → (a +ℤ pos 1) ≤ℤ b
add-one-≤ℤ {a} {b} h = subst (λ z. z ≤ℤ b) (sym (+ℤ_one a)) (le_z_yes (add_one' a b h.lt))

<-suc : (a : ℤ) → T (lt_z a (suc_ℤ a))
<-suc (pos a) = lt→ltb a (suc a) (omega arith)
<-suc (negsuc zero) = tt
<-suc (negsuc (suc a)) = lt→ltb a (suc a) (omega arith)

pub <ℤ-add-one : (a : ℤ) → a <ℤ (a +ℤ pos 1)
<ℤ-add-one a = subst (λ z. a <ℤ z) (sym (+ℤ_one a)) (lt_z_yes (<-suc a))

pub <ℤ_of_add-one : {a b : ℤ} → (a +ℤ pos 1) ≤ℤ b → a <ℤ b
<ℤ_of_add-one {a} h = <ℤ-≤ℤ_trans (<ℤ-add-one a) h

pub ≤ℤ_of_<ℤ : {a b : ℤ} → a <ℤ b → a ≤ℤ b
≤ℤ_of_<ℤ {a} h = ≤ℤ_trans (≤ℤ-add-pos a 1) (add-one-≤ℤ h)

-- ---- the tests of code, as equations, both ways

pub lt_z_true : {a b : ℤ} → lt_z a b ≡ true → a <ℤ b
lt_z_true e = lt_z_yes (subst T (sym e) tt)

pub lt_z_false : {a b : ℤ} → lt_z a b ≡ false → b ≤ℤ a
lt_z_false e = lt_z_no (subst (λ t. T (not t)) (sym e) tt)

is_true : (t : Bool) → T t → t ≡ true
is_true true u = refl
is_true false u = absurd u

not_true : (t : Bool) → ¬ (t ≡ true) → t ≡ false
not_true true f = absurd (f refl)
not_true false f = refl

pub <ℤ-lt_z : {a b : ℤ} → a <ℤ b → lt_z a b ≡ true
<ℤ-lt_z {a} {b} h = is_true (lt_z a b) h.lt

pub ≤ℤ-lt_z : {a b : ℤ} → b ≤ℤ a → lt_z a b ≡ false
≤ℤ-lt_z {a} {b} h = not_true (lt_z a b) (λ e. clash_ℤ (lt_z_true e) h)

pub ≤ℤ-or-<ℤ : (a b : ℤ) → (a ≤ℤ b) ⊎ (b <ℤ a)
≤ℤ-or-<ℤ a b = pick (lt_z b a) refl
  where
    pick : (t : Bool) → lt_z b a ≡ t → (a ≤ℤ b) ⊎ (b <ℤ a)
    pick true e = inr (lt_z_true e)
    pick false e = inl (lt_z_false e)

pub le_z_true : {a b : ℤ} → le_z a b ≡ true → a ≤ℤ b
le_z_true e = le_z_yes (subst T (sym e) tt)

pub ≤ℤ-le_z : {a b : ℤ} → a ≤ℤ b → le_z a b ≡ true
≤ℤ-le_z {a} {b} h = is_true (le_z a b) h.le

pub le_z_false : {a b : ℤ} → le_z a b ≡ false → b <ℤ a
le_z_false {a} {b} e = pick (≤ℤ-or-<ℤ a b)
  where
    pick : (a ≤ℤ b) ⊎ (b <ℤ a) → b <ℤ a
    pick (inl h) = absurd (subst T e h.le)
    pick (inr h) = h

pub <ℤ-le_z : {a b : ℤ} → b <ℤ a → le_z a b ≡ false
<ℤ-le_z {a} {b} h = not_true (le_z a b) (λ e. clash_ℤ h (le_z_true e))

-- ---- comparing two integers

pub ≤ℤ-<ℤ_trans : {a b c : ℤ} → a ≤ℤ b → b <ℤ c → a <ℤ c
≤ℤ-<ℤ_trans {a} {b} {c} h k = pick (≤ℤ-or-<ℤ c a)
  where
    pick : (c ≤ℤ a) ⊎ (a <ℤ c) → a <ℤ c
    pick (inl l) = clash_ℤ k (≤ℤ_trans l h)
    pick (inr l) = l

pub zero_or_not : (x : ℤ) → (x ≡ pos 0) ⊎ (x ≢ pos 0)
zero_or_not x = pick (ℤ_discrete x (pos 0))
  where
    pick : Dec (x ≡ pos 0) → (x ≡ pos 0) ⊎ (x ≢ pos 0)
    pick (yes e) = inl e
    pick (no f) = inr f

-- ---- sums

pub +ℤ_mono_r : (a : ℤ) {b c : ℤ} → b ≤ℤ c → (a +ℤ b) ≤ℤ (a +ℤ c)
+ℤ_mono_r a {b} h =
    let (n, e) = gap h in
    ≤ℤ_of_gap n (ap (λ z. a +ℤ z) e ∙ sym (+ℤ_assoc a b (pos n)))

pub +ℤ_mono : {a b c d : ℤ} → a ≤ℤ b → c ≤ℤ d → (a +ℤ c) ≤ℤ (b +ℤ d)
+ℤ_mono {a} {b} {c} {d} h k =
    ≤ℤ_trans (subst (λ z. z ≤ℤ (b +ℤ c)) (+ℤ_comm c a) (subst (λ z. (c +ℤ a) ≤ℤ z) (+ℤ_comm c b) (+ℤ_mono_r c h))) (+ℤ_mono_r b k)

-- ---- products

pub pos-nonneg : (n : ℕ) → pos 0 ≤ℤ pos n
pos-nonneg n = le_z_yes (le→leb zero n (omega arith))

pub *ℤ-nonneg : {x y : ℤ} → pos 0 ≤ℤ x → pos 0 ≤ℤ y → pos 0 ≤ℤ (x *ℤ y)
*ℤ-nonneg {x = pos a} {y = pos b} h k = pos-nonneg (a * b)
*ℤ-nonneg {x = pos a} {y = negsuc b} h k = absurd k.le
*ℤ-nonneg {x = negsuc a} {y} h k = absurd h.le

pub square-nonneg : (x : ℤ) → pos 0 ≤ℤ (x *ℤ x)
square-nonneg (pos a) = pos-nonneg (a * a)
square-nonneg (negsuc a) = pos-nonneg (suc a * suc a)

square-suc : (n : ℕ) → T (ltb zero (suc n * suc n))
square-suc n = lt→ltb zero (suc n * suc n) (mul-pos (zero-lt-suc n) (zero-lt-suc n))

pub square-pos : {x : ℤ} → x ≢ pos 0 → pos 0 <ℤ (x *ℤ x)
square-pos {x = pos zero} f = absurd (f refl)
square-pos {x = pos (suc n)} f = lt_z_yes (square-suc n)
square-pos {x = negsuc n} f = lt_z_yes (square-suc n)

pub zero_of_square : (x : ℤ) → (x *ℤ x) ≤ℤ pos 0 → x ≡ pos 0
zero_of_square x h = pick (zero_or_not x)
  where
    pick : (x ≡ pos 0) ⊎ (x ≢ pos 0) → x ≡ pos 0
    pick (inl e) = e
    pick (inr f) = clash_ℤ (square-pos f) h

pub *ℤ_mono : {a b c : ℤ} → pos 0 ≤ℤ c → a ≤ℤ b → (c *ℤ a) ≤ℤ (c *ℤ b)
*ℤ_mono {a} {b} {c} h k =
    let (n, e) = gap k in
    let (m, d) = gap (*ℤ-nonneg h (pos-nonneg n)) in
    ≤ℤ_of_gap m (ap (λ z. c *ℤ z) e ∙ *ℤ-+ℤ c a (pos n) ∙ ap (λ z. c *ℤ a +ℤ z) (d ∙ +ℤ_idl (pos m)))

pub *ℤ_mono_< : {a b c : ℤ} → pos 0 <ℤ c → a <ℤ b → (c *ℤ a) <ℤ (c *ℤ b)
*ℤ_mono_< {a} {b} {c} h k =
    <ℤ_of_add-one (≤ℤ_trans (+ℤ_mono_r (c *ℤ a) one≤c) (subst (λ z. z ≤ℤ (c *ℤ b)) split (*ℤ_mono (≤ℤ_of_<ℤ h) (add-one-≤ℤ k))))
  where
    one≤c : pos 1 ≤ℤ c
    one≤c = add-one-≤ℤ h

    split : c *ℤ (a +ℤ pos 1) ≡ c *ℤ a +ℤ c
    split = *ℤ-+ℤ c a (pos 1) ∙ ap (λ z. c *ℤ a +ℤ z) (*ℤ-pos-one c)

pub *ℤ-cancel-≤ : {a b c : ℤ} → pos 0 <ℤ c → (c *ℤ a) ≤ℤ (c *ℤ b) → a ≤ℤ b
*ℤ-cancel-≤ {a} {b} h k = pick (≤ℤ-or-<ℤ a b)
  where
    pick : (a ≤ℤ b) ⊎ (b <ℤ a) → a ≤ℤ b
    pick (inl l) = l
    pick (inr l) = clash_ℤ (*ℤ_mono_< h l) k
