-- How long a number of a field is.
use Rattle.std.specs.Prelude.{ℕ, suc, ◌^◌, ◌≤◌, ◌<◌, ℤ, pos, negsuc, nat_abs, length}
use Rattle.std.proofs.Common.{arith}
use Rattle.integers.specs.Decimal.{signed}
use Rattle.integers.specs.DecimalLaws.{decimal-length}

pub signed-length : (k : ℕ) (z : ℤ) → 1 ≤ k → nat_abs z < 10 ^ k → length (signed z) ≤ suc k
signed-length k (pos n) h l = omega (arith, decimal-length k n h l)
signed-length k (negsuc n) h l = omega (arith, decimal-length k (suc n) h l)
