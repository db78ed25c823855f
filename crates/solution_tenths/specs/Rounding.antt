-- The division that rounds parts to tenths, and lists of four numbers.
use Rattle.std.specs.Prelude.{◌≡◌, refl, List, [], ◌∷◌, ℕ, zero, suc, ◌-◌, ◌/◌, ◌%◌, ◌^◌, ◌≤◌, ◌<◌, T, ltb, ℤ, pos, negsuc, nat_abs, ◌+ℤ◌, ◌-ℤ◌, ◌*ℤ◌, length, get_or, ◌≤ℤ◌}
use Rattle.std.proofs.Common.{sym, ap, ap₂, ◌∙◌, subst, div-add-mod', mod-lt, le_refl, arith, SFits, to_z, of_z, to_z-of_z}
use Rattle.std.proofs.Math.ListN.{get_or-eq_default}
use Rattle.std.specs.Int.{w64}
use Rattle.integers.specs.Identity.{by_ring, reads}
use Rattle.integers.specs.Certificate.{NN, ◌⊞◌, ◌⊠◌, nn-pos, nn_ring, le, eq}
use Rattle.integers.specs.Order.{≤ℤ_of_gap}
use Rattle.integers.specs.Size.{Within, within-add, within-mul, within-lower, fits-within}
use Rattle.lattices.specs.Vector.{nth, dot}
use Rattle.lattices.specs.Laws.Vector.{dot-nil, dot_comm, zero-dot}
use Rattle.row_operations.specs.Dot.{weight, weight-entries, dot-weight}
use Rattle.successive_minima.specs.Laws.Digits.{Bounded}
use Rattle.solutions.specs.Laws.Settled.{Between, between-≡}

-- 10·z/8192, moved up by 100000000000 and rounded
module _ (z : ℤ) (n : ℕ) (e : pos n ≡ pos 10 *ℤ z +ℤ pos 819200000004096) where
  parts : pos n ≡ pos 8192 *ℤ pos (n / 8192) +ℤ pos (n % 8192)
  parts = ap pos (omega (arith, div-add-mod' n 8192))

  pub nearest_tenth : Between (pos 4096) (pos 10 *ℤ z -ℤ pos 8192 *ℤ (pos (n / 8192) -ℤ pos 100000000000))
  nearest_tenth = law (pos n) z (pos (n / 8192)) (pos (n % 8192)) e parts (nn-pos (n % 8192)) (rest-≤ (n % 8192) (mod-lt n (omega arith)))
    where
      rest-≤ : (r : ℕ) → r < 8192 → pos r ≤ℤ pos 8191
      rest-≤ r h = ≤ℤ_of_gap (8191 - r) (ap pos (omega arith))

      law : (n z q r : ℤ) → n ≡ pos 10 *ℤ z +ℤ pos 819200000004096 → n ≡ pos 8192 *ℤ q +ℤ r → NN r → r ≤ℤ pos 8191 → Between (pos 4096) (pos 10 *ℤ z -ℤ pos 8192 *ℤ (q -ℤ pos 100000000000))
      law n z q r e f h k = record {
        low = nn_ring (n ∷ z ∷ q ∷ r ∷ []) (eq (negsuc 0) e ⊞ eq (pos 1) f ⊞ h) (search reads depth 20) (search reads depth 20) tt;
        high = nn_ring (n ∷ z ∷ q ∷ r ∷ []) (eq (pos 1) e ⊞ eq (negsuc 0) f ⊞ le k ⊞ nn-pos 1) (search reads depth 20) (search reads depth 20) tt;
      }

-- with the tenths of a whole coefficient
pub with_whole : (x z s : ℤ) → Between (pos 4096) (pos 10 *ℤ z -ℤ pos 8192 *ℤ s) → Between (pos 4096) (pos 10 *ℤ z -ℤ pos 8192 *ℤ (pos 10 *ℤ x +ℤ s -ℤ pos 10 *ℤ x))
with_whole x z s = between-≡ refl (by_ring (x ∷ z ∷ s ∷ []) (search reads depth 20) (search reads depth 20) tt)

-- a numeral
pub literal : (n : ℕ) → Within n (pos n)
literal n = record { within = le_refl n }

pub moved_up : {z : ℤ} → Within 65000000000000 z → NN (pos 10 *ℤ z +ℤ pos 819200000004096)
moved_up {z} h = nn_ring (z ∷ []) (nn-pos 10 ⊠ le (within-lower h) ⊞ nn-pos 169200000004096) (search reads depth 8) (search reads depth 8) tt

-- what fits
pub record Divided (z : ℤ) : Type 0 where
  pub ten : SFits w64 (pos 10 *ℤ z)
  pub sum : SFits w64 (pos 10 *ℤ z +ℤ pos 819200000004096)

pub divided : {z : ℤ} → Within 65000000000000 z → Divided z
divided h = record { ten = fits-within (within-mul (literal 10) h) tt; sum = fits-within (within-add (within-mul (literal 10) h) (literal 819200000004096)) tt }

pub quotient_within : {y : ℤ} → Within 1469200000004096 y → Within 200000000000 (pos (nat_abs y / 8192))
quotient_within {y} h = record { within = omega (arith, h.within, div-add-mod' (nat_abs y) 8192) }

-- as it is stored
pub back : {B : ℕ} {z : ℤ} → T (ltb B (2 ^ 63)) → Within B z → Within B (to_z w64 (of_z w64 z))
back {B} {z} t h = subst (Within B) (sym (to_z-of_z {w = w64} (fits-within h t))) h

pub zero-back : {z : ℤ} → z ≡ pos 0 → to_z w64 (of_z w64 z) ≡ pos 0
zero-back e = ap (λ z. to_z w64 (of_z w64 z)) e

-- ---- four entries

pub four-within : {B : ℕ} {a b c d : ℤ} → Within B a → Within B b → Within B c → Within B d → Bounded B (a ∷ b ∷ c ∷ d ∷ [])
four-within p q r s zero = p
four-within p q r s (suc zero) = q
four-within p q r s (suc (suc zero)) = r
four-within p q r s (suc (suc (suc zero))) = s
four-within p q r s (suc (suc (suc (suc i)))) = record { within = omega arith }

pub four : (P : ℕ → ℤ → Type 0) {a b c d : ℤ} → P 0 a → P 1 b → P 2 c → P 3 d → ((i : ℕ) → 4 ≤ i → P i (pos 0)) → (i : ℕ) → P i (nth (a ∷ b ∷ c ∷ d ∷ []) i)
four P p q r s f zero = p
four P p q r s f (suc zero) = q
four P p q r s f (suc (suc zero)) = r
four P p q r s f (suc (suc (suc zero))) = s
four P p q r s f (suc (suc (suc (suc i)))) = f (suc (suc (suc (suc i)))) (omega arith)

-- ---- the inner product of parts with a row

-- the parts are light against a row of G
pub parts_light : (z row : List ℤ) → length z ≤ 4 → Bounded 1048576 z → Bounded 400000000 row → weight z row ≤ 2000000000000000
parts_light z row l f g = omega (arith, weight-entries {A = 1048576} {B = 400000000} 4 z row l f g)

pub parts_within : (z row : List ℤ) → length z ≤ 4 → Bounded 1048576 z → Bounded 400000000 row → {n : ℤ} → n ≡ dot z row → Within 2000000000000000 n
parts_within z row l f g e = rw e (record { within = omega (arith, dot-weight z row, parts_light z row l f g) })

pub product-behind : (g : List (List ℤ)) (r z : List ℤ) → length g ≡ 4 → length r ≡ 4 → (i : ℕ) → 4 ≤ i → pos 0 ≡ pos 8192 *ℤ nth r i -ℤ dot z (get_or g i [])
product-behind g r z e f i h = sym (ap₂ (λ a b. pos 8192 *ℤ a -ℤ b) (get_or-eq_default r (pos 0) (omega arith)) (ap (dot z) (get_or-eq_default g [] (omega arith)) ∙ dot-nil z))

pub nothing_left : (row z : List ℤ) (r : ℤ) → r ≡ pos 0 → ((j : ℕ) → nth row j ≡ pos 0) → pos 0 ≡ pos 8192 *ℤ r -ℤ dot z row
nothing_left row z r e f = sym (ap₂ (λ a b. pos 8192 *ℤ a -ℤ b) e (dot_comm z row ∙ zero-dot row f z))

-- ---- the tenths, as they are stored

pub entry-back : (x w s : ℤ) → SFits w64 x → SFits w64 w → SFits w64 s → Between (pos 4096) (pos 10 *ℤ to_z w64 (of_z w64 w) -ℤ pos 8192 *ℤ (s -ℤ pos 10 *ℤ to_z w64 (of_z w64 x)))
    → Between (pos 4096) (pos 10 *ℤ w -ℤ pos 8192 *ℤ (to_z w64 (of_z w64 s) -ℤ pos 10 *ℤ x))
entry-back x w s f g h = between-≡ refl (ap₂ (λ a b. pos 10 *ℤ a -ℤ pos 8192 *ℤ b) (to_z-of_z {w = w64} g) (ap₂ (λ a b. a -ℤ pos 10 *ℤ b) (sym (to_z-of_z {w = w64} h)) (to_z-of_z {w = w64} f)))

pub no_tenth : (x z : ℤ) → x ≡ pos 0 → z ≡ pos 0 → Between (pos 4096) (pos 10 *ℤ z -ℤ pos 8192 *ℤ (pos 0 -ℤ pos 10 *ℤ x))
no_tenth x z e f = between-≡ refl (ap₂ (λ a b. pos 10 *ℤ a -ℤ pos 8192 *ℤ (pos 0 -ℤ pos 10 *ℤ b)) (sym f) (sym e)) (record { low = nn-pos 4096; high = nn-pos 4096 })

pub tenth_behind : (x w : List ℤ) → length x ≡ 4 → length w ≡ 4 → (i : ℕ) → 4 ≤ i → Between (pos 4096) (pos 10 *ℤ nth w i -ℤ pos 8192 *ℤ (pos 0 -ℤ pos 10 *ℤ nth x i))
tenth_behind x w e f i h = no_tenth (nth x i) (nth w i) (get_or-eq_default x (pos 0) (omega arith)) (get_or-eq_default w (pos 0) (omega arith))
