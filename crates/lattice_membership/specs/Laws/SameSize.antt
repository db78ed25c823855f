-- Two numbers of the same size are equal or opposite.
use Rattle.std.specs.Prelude.{◌≡◌, ◌≢◌, true, false, zero, suc, ℤ, pos, negsuc, neg_ℤ, nat_abs}
use Rattle.std.proofs.Common.{ap, ◌∙◌, arith, eq-eqb, ne_eqb}
use Rattle.integers.specs.Size.{size-neg}
use Rattle.lattice_membership.specs.Known.{same_size}

opposite : (a b : ℤ) → a ≢ b → nat_abs a ≡ nat_abs b → a ≡ neg_ℤ b
opposite (pos a) (pos b) h e = absurd (h (ap pos e))
opposite (pos a) (negsuc b) h e = ap pos e
opposite (negsuc a) (pos zero) h e = absurd (omega arith)
opposite (negsuc a) (pos (suc b)) h e = ap negsuc (omega arith)
opposite (negsuc a) (negsuc b) h e = absurd (h (ap negsuc (omega arith)))

pub size-equal : (a b : ℤ) → a ≡ b → same_size a b ≡ true
size-equal a b e = eq-eqb (nat_abs a) (nat_abs b) (ap nat_abs e)

pub size-opposite : (a b : ℤ) → a ≡ neg_ℤ b → same_size a b ≡ true
size-opposite a b e = eq-eqb (nat_abs a) (nat_abs b) (ap nat_abs e ∙ size-neg b)

pub size-other : (a b : ℤ) → a ≢ b → a ≢ neg_ℤ b → same_size a b ≡ false
size-other a b h k = ne_eqb (nat_abs a) (nat_abs b) (λ e. k (opposite a b h e))
