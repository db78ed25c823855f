-- A number of 64 bits takes at most 20 bytes, and a list is whole from its length on.
use Rattle.std.specs.Prelude.{◌≡◌, List, ℕ, suc, ◌≤◌, ◌<◌, min, ℤ, pos, negsuc, length, take}
use Rattle.std.proofs.Common.{sym, ap, ◌∙◌, arith, take_all, SFits}
use Rattle.std.proofs.Math.Decide.{dec_lt}
use Rattle.std.specs.Int.{w64}
use Rattle.integers.specs.Decimal.{decimal, signed}
use Rattle.integers.specs.DecimalLaws.{decimal-length}

pub decimal-small : (n : ℕ) → n < 18446744073709551616 → length (decimal n) ≤ 20
decimal-small n h = decimal-length 20 n (omega arith) (omega arith)

pub signed-small : (z : ℤ) → SFits w64 z → length (signed z) ≤ 20
signed-small (pos n) f = decimal-small n (omega (arith, f.sfits))
signed-small (negsuc n) f = omega (arith, decimal-length 19 (suc n) (omega arith) (omega (arith, f.sfits)))

pub take-lesser : {A : Type 0} (n m : ℕ) (l : List A) → length l ≡ m → take (min n m) l ≡ take n l
take-lesser n m l h = go (dec_lt n m)
  where
    go : Dec (n < m) → take (min n m) l ≡ take n l
    go (yes p) = let e : min n m ≡ n = omega arith in ap (λ k. take k l) e
    go (no p) = let e : min n m ≡ m = omega arith in ap (λ k. take k l) e ∙ take_all m l (omega arith) ∙ sym (take_all n l (omega arith))
