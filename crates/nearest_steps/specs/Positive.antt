-- No vector of a reduced list is zero.
use Rattle.std.proofs.Common.{subst, arith}
use mathlib.Core.List.{List, [], ◌∷◌, ◌++◌, reverse, reverse-cons}
use Rattle.std.specs.Prelude.{ℕ, zero, suc, ◌<◌, pos, length, get_or, ◌<ℤ◌}
use Rattle.lattices.specs.Vector.{Vec, N}
use Rattle.successive_minima.specs.Reduced.{Descending, Reduced}

abbrev Positive : List Vec → Type 0
Positive [] = Unit {0}
Positive (b ∷ bs) = (pos 0 <ℤ N b) × Positive bs

positive-descending : (bs : List Vec) → Descending bs → Positive bs
positive-descending [] d = tt
positive-descending (b ∷ bs) d = (d.0.positive, positive-descending bs d.1)

positive-last : (bs : List Vec) (b : Vec) → Positive (bs ++ (b ∷ [])) → (pos 0 <ℤ N b) × Positive bs
positive-last [] b p = (p.0, tt)
positive-last (c ∷ bs) b p = let q = positive-last bs b p.1 in (q.0, (p.0, q.1))

positive-reverse : (bs : List Vec) → Positive (reverse bs) → Positive bs
positive-reverse [] p = tt
positive-reverse (b ∷ bs) p = let q = positive-last (reverse bs) b (subst Positive (reverse-cons b bs) p) in (q.0, positive-reverse bs q.1)

positive-at : (bs : List Vec) → Positive bs → (i : ℕ) → i < length bs → pos 0 <ℤ N (get_or bs i [])
positive-at [] p i h = absurd (omega arith)
positive-at (b ∷ bs) p zero h = p.0
positive-at (b ∷ bs) p (suc i) h = positive-at bs p.1 i (omega arith)

pub reduced-positive : (bs : List Vec) → Reduced bs → (i : ℕ) → i < length bs → pos 0 <ℤ N (get_or bs i [])
reduced-positive bs d = positive-at bs (positive-reverse bs (positive-descending (reverse bs) d))
