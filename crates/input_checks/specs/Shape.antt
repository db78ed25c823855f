-- The checks before squared lengths are formed: the counts and the size of every coordinate; and that squared lengths alone decide behind them
-- what is too long.
use Rattle.std.specs.Prelude.{◌≡◌, refl, Bool, true, false, ◌||◌, List, [], ◌∷◌, map, ℕ, zero, suc, ◌+◌, ◌*◌, ◌≤◌, ℤ, pos, length, take, drop}
use Rattle.std.proofs.Common.{sym, ap, ap₂, ◌∙◌, arith, length-drop}
use Rattle.std.specs.Int.Signed.{lt_z}
use Rattle.integers.specs.Every.{any}
use Rattle.integers.specs.Tests.{neither}
use Rattle.lattices.specs.Vector.{Vec, N}
use Rattle.lattices.specs.Refusal.{Input, basis, vectors_of, too_long, vector_checks, most_vectors, most_coordinates, most_square}
use Rattle.lattices.specs.Answer.{padded}
use Rattle.exterior_algebra.specs.Dependence.{Fit}
use Rattle.input_checks.specs.Any.{beyond}
use Rattle.input_checks.specs.First.{First}
use Rattle.input_checks.specs.Padded.{any-padded}

-- an input that passed these checks, and how the others of the table follow
pub record Shaped (i : Input) : Type 0 where
  pub few : i.d ≤ most_vectors
  pub narrow : i.m ≤ most_coordinates
  pub count : length i.numbers ≡ i.d * i.m
  pub small : any (any beyond) (basis i) ≡ false
  pub rest : {n : ℕ} → First i (drop 3 vector_checks) n → First i vector_checks n

-- ---- a number beyond the limit is one of some vector
or-first : (a b c : Bool) → (a || b) || c ≡ a || (b || c)
or-first true b c = refl
or-first false b c = refl

any-split : (f : ℤ → Bool) (m : ℕ) (l : List ℤ) → any f (take m l) || any f (drop m l) ≡ any f l
any-split f zero l = refl
any-split f (suc m) [] = refl
any-split f (suc m) (x ∷ l) = or-first (f x) (any f (take m l)) (any f (drop m l)) ∙ ap (λ t. f x || t) (any-split f m l)

pub beyond-rows : (d m : ℕ) (l : List ℤ) → length l ≡ d * m → any (any beyond) (vectors_of d m l) ≡ any beyond l
beyond-rows zero m [] e = refl
beyond-rows zero m (x ∷ l) e = absurd (let z : 0 * m ≡ 0 = omega arith in omega (arith, e, z))
beyond-rows (suc d) m l e =
    let next : suc d * m ≡ m + d * m = omega arith in
    ap (λ t. any beyond (take m l) || t) (beyond-rows d m (drop m l) (omega (arith, length-drop m l, e, next))) ∙ any-split beyond m l

-- ---- too long: by a coordinate, or by the squared length
abbrev pub over : Vec → Bool
over v = lt_z (pos most_square) (N v)

or_true : (a : Bool) → a || true ≡ true
or_true true = refl
or_true false = refl

pub beyond-long : (bs : List Vec) → any (any beyond) bs ≡ true → any too_long bs ≡ true
beyond-long [] e = e
beyond-long (v ∷ bs) e = by (any beyond v) refl (beyond-long bs)
  where
    by : (t : Bool) → any beyond v ≡ t → (any (any beyond) bs ≡ true → any too_long bs ≡ true) → any too_long (v ∷ bs) ≡ true
    by true p behind = ap (λ t. (t || over v) || any too_long bs) p
    by false p behind = ap (λ t. too_long v || t) (behind (sym (ap (λ t. t || any (any beyond) bs) p) ∙ e)) ∙ or_true (too_long v)

pub long-over : (bs : List Vec) → any (any beyond) bs ≡ false → any too_long bs ≡ any over bs
long-over [] e = refl
long-over (v ∷ bs) e = let p = neither (any beyond v) (any (any beyond) bs) e in ap₂ ◌||◌ (ap (λ t. t || over v) p.0) (long-over bs p.1)

pub any-beyond-padded : (n : ℕ) (bs : List Vec) → Fit n bs → any (any beyond) (map (padded n) bs) ≡ any (any beyond) bs
any-beyond-padded n [] h = refl
any-beyond-padded n (b ∷ bs) h = ap₂ ◌||◌ (any-padded beyond refl n b (h zero)) (any-beyond-padded n bs (λ i. h (suc i)))
