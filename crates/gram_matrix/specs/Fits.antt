-- What fits in 64 bits where the sizes of two numbers together do.
use Rattle.std.specs.Prelude.{◌≡◌, List, [], ◌∷◌, ℕ, ◌+◌, ◌≤◌, ℤ, pos, nat_abs, ◌+ℤ◌, ◌-ℤ◌, ◌*ℤ◌, set}
use Rattle.std.proofs.Common.{ap, ◌∙◌, arith, SFits}
use Rattle.std.proofs.lemmas.List.{set-get_or}
use Rattle.std.specs.Int.{w64}
use Rattle.integers.specs.Identity.{by_ring, reads}
use Rattle.integers.specs.Size.{size-add, size-sub, fits-within}
use Rattle.lattices.specs.Vector.{nth}
use Rattle.row_operations.specs.Minus.{room}

pub record Room (a p : ℤ) : Type 0 where
  pub right : SFits w64 p
  pub sum : SFits w64 (a +ℤ p)
  pub difference : SFits w64 (a -ℤ p)

fits : (z : ℤ) → nat_abs z ≤ room → SFits w64 z
fits z h = fits-within {B = room} (record { within = h }) tt

pub room_fits : (a p : ℤ) → nat_abs a + nat_abs p ≤ room → Room a p
room_fits a p h = record { right = fits p (omega arith); sum = fits (a +ℤ p) (omega (arith, size-add a p)); difference = fits (a -ℤ p) (omega (arith, size-sub a p)) }

-- a multiple of 0 changes nothing
pub lose_nothing : (a : List ℤ) (i : ℕ) (q : ℤ) → set a i (nth a i -ℤ q *ℤ pos 0) ≡ a
lose_nothing a i q = ap (set a i) (nothing (nth a i)) ∙ set-get_or a i (pos 0)
  where
    nothing : (x : ℤ) → x -ℤ q *ℤ pos 0 ≡ x
    nothing x = by_ring (x ∷ q ∷ []) (search reads) (search reads) tt
