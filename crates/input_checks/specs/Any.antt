-- `any` of a list, as a loop decides it from place to place, and a coordinate's limit as code tests it.
use Rattle.std.specs.Prelude.{◌≡◌, refl, Bool, true, false, List, [], ◌∷◌, ℕ, zero, suc, ◌+◌, ◌≤◌, ◌<◌, ltb, ℤ, pos, negsuc, nat_abs, length, get_or, drop}
use Rattle.std.proofs.Common.{ap, add-one, arith, drop_of_length-le, drop-cons, ltb-true, ltb-false, lt-ltb, le-ltb}
use Rattle.std.specs.Int.Signed.{lt_z}
use Rattle.integers.specs.Size.{Within}
use Rattle.lattices.specs.Vector.{Vec, nth}
use Rattle.integers.specs.Tests.{neither}
use Rattle.integers.specs.Every.{any}
use Rattle.lattices.specs.Refusal.{most_size}

-- ---- from place i on

pub any_here : {A : Type 0} (f : A → Bool) (l : List A) (i : ℕ) (x : A) → i < length l → f (get_or l i x) ≡ true → any f (drop i l) ≡ true
any_here f l i x h e = rw (drop-cons l i x h, e)

pub any-later : {A : Type 0} (f : A → Bool) (l : List A) (i : ℕ) (x : A) → i < length l → f (get_or l i x) ≡ false → any f (drop i l) ≡ any f (drop (i + 1) l)
any-later f l i x h e = rw (drop-cons l i x h, e, add-one)

pub any-end : {A : Type 0} (f : A → Bool) (l : List A) (i : ℕ) → length l ≤ i → any f (drop i l) ≡ false
any-end f l i h = ap (any f) (drop_of_length-le l h)

-- where none is, no entry is one; the default stands beyond the end
pub any_none : {A : Type 0} (f : A → Bool) (x : A) → f x ≡ false → (l : List A) → any f l ≡ false → (i : ℕ) → f (get_or l i x) ≡ false
any_none f x d [] e i = d
any_none f x d (y ∷ l) e zero = (neither (f y) (any f l) e).0
any_none f x d (y ∷ l) e (suc i) = any_none f x d l (neither (f y) (any f l) e).1 i

-- ---- a coordinate beyond ±20,000

abbrev pub beyond : ℤ → Bool
beyond x = ltb most_size (nat_abs x)

pub beyond-low : (x : ℤ) → lt_z x (negsuc 19999) ≡ true → beyond x ≡ true
beyond-low (pos n) e = absurd (let z : ◌≡◌ {A = ℕ} 0 1 = cc in omega arith)
beyond-low (negsuc n) e = lt-ltb 20000 (suc n) (omega (arith, ltb-true 19999 n e))

pub beyond-high : (x : ℤ) → lt_z x (negsuc 19999) ≡ false → beyond x ≡ lt_z (pos 20000) x
beyond-high (pos n) e = refl
beyond-high (negsuc n) e = le-ltb 20000 (suc n) (omega (arith, ltb-false 19999 n e))

pub within-limit : (v : Vec) → any beyond v ≡ false → (i : ℕ) → Within 20000 (nth v i)
within-limit v e i = record { within = ltb-false 20000 (nat_abs (nth v i)) (any_none beyond (pos 0) refl v e i) }
