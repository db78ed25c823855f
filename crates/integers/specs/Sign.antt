-- Signs: every integer is 0, or a sign times a positive number.
use Rattle.std.specs.Prelude.{◌≡◌, refl, ℕ, zero, suc, ℤ, pos, negsuc, nat_abs, ◌*ℤ◌}
use Rattle.std.proofs.Common.{sym}
use Rattle.integers.specs.Ring.{pos-one-*ℤ, negsuc-zero-*ℤ}
use Rattle.integers.specs.Division.{up}

-- 1 or −1
pub record Sign (s : ℤ) : Type 0 where
  pub square : s *ℤ s ≡ pos 1
  pub size : nat_abs s ≡ 1

-- an integer is 0, or it is ±n with n ≥ 1
pub by_sign : (P : ℤ → Type 0) → P (pos 0) → ((k : ℕ) (s x : ℤ) → Sign s → x ≡ s *ℤ up k → nat_abs x ≡ suc k → P x) → (x : ℤ) → P x
unfolding up
by_sign P z f (pos zero) = z
by_sign P z f (pos (suc k)) = f k (pos 1) (pos (suc k)) (record { square = refl; size = refl }) (sym (pos-one-*ℤ (pos (suc k)))) refl
by_sign P z f (negsuc k) = f k (negsuc 0) (negsuc k) (record { square = refl; size = refl }) (sym (negsuc-zero-*ℤ (pos (suc k)))) refl
