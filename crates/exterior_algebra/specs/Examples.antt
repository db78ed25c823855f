-- What the theorems say of closed lists, by computation.
use Rattle.std.specs.Prelude.{◌≡◌, refl, true, false, List, [], ◌∷◌, ℕ, zero, suc, ◌≤◌, ◌<◌, ℤ, pos, negsuc, nat_abs, length, ◌≤ℤ◌, ◌<ℤ◌}
use Rattle.std.proofs.Common.{zero-le, arith}
use Rattle.std.specs.Int.Signed.{le_z_yes, lt_z_yes}
use Rattle.lattices.specs.Vector.{Vec, N, nth, dot, comb, ◌⊕◌, ◌⊙◌, Independent}
use Rattle.lattices.specs.Volume.{volume, squared_volume, is_dependent}
use Rattle.exterior_algebra.specs.Dependence.{Fit, independent-exactly}
use Rattle.exterior_algebra.specs.Sizes.{Short, coefficient_≤}

v3 : ℤ → ℤ → ℤ → Vec
v3 x y z = x ∷ y ∷ z ∷ []

-- the minor of the first two coordinates: 1·5 − 2·4
a-minor : volume (v3 (pos 1) (pos 2) (pos 3) ∷ v3 (pos 4) (pos 5) (pos 6) ∷ []) (true ∷ true ∷ false ∷ []) ≡ negsuc 2
unfolding v3
a-minor = refl

-- two orthogonal vectors of length 5
a-squared-volume : squared_volume 3 (v3 (pos 3) (pos 4) (pos 0) ∷ v3 (pos 0) (pos 0) (pos 5) ∷ []) ≡ pos 625
unfolding squared_volume v3
a-squared-volume = refl

seen_dependent : is_dependent 3 (v3 (pos 1) (pos 2) (pos 3) ∷ v3 (pos 4) (pos 5) (pos 6) ∷ v3 (pos 7) (pos 8) (pos 9) ∷ []) ≡ true
unfolding is_dependent squared_volume v3
seen_dependent = refl

-- ---- independence of a list, in document 01's sense, from the test

three : List Vec
three = v3 (pos 1) (pos 2) (pos 3) ∷ v3 (pos 4) (pos 5) (pos 6) ∷ v3 (pos 7) (pos 8) (pos 10) ∷ []

three-fit : Fit 3 three
unfolding three v3
three-fit zero = omega arith
three-fit (suc zero) = omega arith
three-fit (suc (suc zero)) = omega arith
three-fit (suc (suc (suc i))) = zero-le

three-independent : Independent three
unfolding is_dependent squared_volume three v3
three-independent = (independent-exactly 3 three three-fit).0 refl

-- ---- a coefficient near its bound: −20000·19999³ = −159976001199980000, one part in 6,667 below 20000⁴. The sizes law itself,
-- which has the list's own lengths (N = 19999² + 1) for 20000, is missed by one part in 266 million.

four : List Vec
four =
    (pos 0 ∷ pos 0 ∷ pos 0 ∷ pos 1 ∷ [])
    ∷ (pos 1 ∷ pos 19999 ∷ pos 0 ∷ pos 0 ∷ [])
    ∷ (pos 0 ∷ pos 1 ∷ pos 19999 ∷ pos 0 ∷ [])
    ∷ (pos 0 ∷ pos 0 ∷ pos 1 ∷ pos 19999 ∷ [])
    ∷ []

four-coefficients : List ℤ
four-coefficients = negsuc 159976001199979999 ∷ pos 20000 ∷ negsuc 399979999 ∷ pos 7999200020000 ∷ []

four-volume : squared_volume 4 four ≡ pos 1
unfolding squared_volume four
four-volume = refl

-- the longest combination that is allowed: N = 400000000
four-comb : comb four-coefficients four ≡ pos 20000 ∷ pos 0 ∷ pos 0 ∷ pos 0 ∷ []
unfolding comb ◌⊕◌ ◌⊙◌ four four-coefficients
four-comb = refl

four-short : Short (pos 400000000) four
unfolding dot four
four-short zero = le_z_yes tt
four-short (suc zero) = le_z_yes tt
four-short (suc (suc zero)) = le_z_yes tt
four-short (suc (suc (suc zero))) = le_z_yes tt
four-short (suc (suc (suc (suc i)))) = le_z_yes tt

four_coefficient : nat_abs (nth four-coefficients 0) ≤ 160000000000000000
unfolding dot comb ◌⊕◌ ◌⊙◌ four four-coefficients squared_volume
four_coefficient = coefficient_≤ 1 4 0 four-coefficients four (omega arith) four-short (lt_z_yes tt) (omega arith) (le_z_yes tt)

-- the same theorem at r = 2, for a vector that is nearest to one of N = 400000000
nearest_coefficient : (m j : ℕ) (x : List ℤ) (bs : List Vec) → length bs ≤ 4 → Short (pos 400000000) bs → pos 0 <ℤ squared_volume m bs
    → j < length bs → N (comb x bs) ≤ℤ pos 1600000000 → nat_abs (nth x j) ≤ 320000000000000000
nearest_coefficient = coefficient_≤ 2
