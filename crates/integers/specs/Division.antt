-- Floor division of an integer by a positive one: w = quot k w * up k + rest k w with 0 ≤ rest k w < up k, the divisor
-- `up k` being k + 1. All three stay shut, so that identities and certificates take them as atoms.
use Rattle.std.specs.Prelude.{◌≡◌, ℕ, zero, suc, ◌+◌, ◌*◌, ◌-◌, ◌/◌, ◌%◌, ℤ, pos, negsuc, neg_ℤ, ◌+ℤ◌, ◌*ℤ◌, ◌≤ℤ◌, ◌<ℤ◌}
use Rattle.std.proofs.Common.{sym, ap, ◌∙◌, div-add-mod', mod-lt, zero-lt-suc, arith, lt→ltb}
use Rattle.std.proofs.Math.IntN.{sub_ℕ}
use Rattle.std.specs.Int.Signed.{shr_z, lt_z_yes}
use Rattle.integers.specs.Order.{sub-ind, pos-nonneg}

unfoldable pub up : ℕ → ℤ
up k = pos (suc k)

unfoldable pub quot : ℕ → ℤ → ℤ
quot k w = shr_z w (suc k)

-- −(a + 1) leaves what is missing from a's own remainder to k
unfoldable pub rest : ℕ → ℤ → ℤ
rest k (pos a) = pos (a % suc k)
rest k (negsuc a) = pos (k - a % suc k)

pub up_pos : (k : ℕ) → pos 0 <ℤ up k
unfolding up
up_pos k = lt_z_yes (lt→ltb zero (suc k) (zero-lt-suc k))

pub quot-rest : (k : ℕ) (w : ℤ) → w ≡ quot k w *ℤ up k +ℤ rest k w
unfolding up quot rest
quot-rest k (pos a) = ap pos (sym (div-add-mod' a (suc k)))
quot-rest k (negsuc a) = whole ∙ sym (ap (λ n. neg_ℤ (pos n) +ℤ pos (k - r)) product)
  where
    q : ℕ
    q = a / suc k

    r : ℕ
    r = a % suc k

    product : suc q * suc k ≡ suc (q * suc k + k)
    product = omega arith

    whole : negsuc a ≡ sub_ℕ (k - r) (suc (q * suc k + k))
    whole = sub-ind (λ z. negsuc a ≡ z) (k - r) (suc (q * suc k + k))
        (λ h. ap negsuc (omega (arith, div-add-mod' a (suc k), mod-lt a (zero-lt-suc k))))
        (λ h. absurd (omega arith))

pub rest-nonneg : (k : ℕ) (w : ℤ) → pos 0 ≤ℤ rest k w
unfolding rest
rest-nonneg k (pos a) = pos-nonneg (a % suc k)
rest-nonneg k (negsuc a) = pos-nonneg (k - a % suc k)

pub rest_lt : (k : ℕ) (w : ℤ) → rest k w <ℤ up k
unfolding up rest
rest_lt k (pos a) = lt_z_yes (lt→ltb (a % suc k) (suc k) (mod-lt a (zero-lt-suc k)))
rest_lt k (negsuc a) = lt_z_yes (lt→ltb (k - a % suc k) (suc k) (omega arith))
