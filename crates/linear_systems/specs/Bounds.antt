-- What is known of a float that has passed a test, and of an integer made from its digits.
use Rattle.std.specs.Prelude.{◌≡◌, true, not, ℕ, zero, suc, ◌*◌, ◌<◌, T, ltb, Float, ℤ, pos, ◌-ℤ◌}
use Rattle.std.proofs.Common.{sym, subst, arith, ltb→lt, to_z, of_z, to_z-of_z}
use Rattle.std.proofs.lemmas.Bool.{false≢true}
use Rattle.std.specs.Float.{nan, inf, fin}
use Rattle.std.specs.Float.Ieee.{le, lt, eq, is_nan}
use Rattle.std.specs.Int.{w64}
use Rattle.std.proofs.Math.Facts.{to_z_pos}
use Rattle.integers.specs.Order.{sub-ind}
use Rattle.integers.specs.Size.{Within, within-le, fits-within}

-- what is at least something is no NaN
pub at_least : (a x : Float) → le a x ≡ true → T (not (is_nan x))
unfolding le lt eq is_nan
at_least a (inf s) h = tt
at_least a (fin s m e) h = tt
at_least nan nan h = absurd (false≢true h)
at_least (inf s) nan h = absurd (false≢true h)
at_least (fin s m e) nan h = absurd (false≢true h)

-- digits less half of what they may be
middle : (n m : ℕ) → m < 2 * n → Within n (pos m -ℤ pos n)
middle zero m h = absurd (omega arith)
middle (suc n) m h = sub-ind (Within (suc n)) m (suc n) (λ l. record { within = omega arith }) (λ l. record { within = omega arith })

pub digits : (n : ℕ) {m : ℕ} → m < 2 * n → T (ltb n 2000000001) → Within n (to_z w64 m -ℤ pos n)
digits n {m} h e = subst (λ z. Within n (z -ℤ pos n)) (sym (to_z_pos w64 (omega (arith, ltb→lt n 2000000001 e)))) (middle n m h)

-- an entry as it is read
pub read : {B : ℕ} {z : ℤ} → T (ltb B 2000000001) → Within B z → Within 2000000000 (to_z w64 (of_z w64 z))
read {B} {z} e h = subst (Within 2000000000) (sym (to_z-of_z {w = w64} (fits-within small tt))) small
  where
    small : Within 2000000000 z
    small = within-le (omega (arith, ltb→lt B 2000000001 e)) h
