-- Numbers that fit a field, and those that a part left in an array of zeros.
use Rattle.std.specs.Prelude.{◌≡◌, refl, true, List, [], ◌∷◌, ◌++◌, ℕ, zero, suc, ◌+◌, ◌-◌, ◌<◌, ℤ, pos, negsuc, nat_abs, length, take, drop, replicate}
use Rattle.std.proofs.Common.{sym, ap, ◌∙◌, true≢false, arith, length-drop, get_or-drop, take_all}
use Rattle.lattices.specs.Vector.{nth}
use Rattle.text_parts.specs.Counts.{count_of}
use Rattle.text_rules.specs.Encoding.{fits}

-- one that fits is its size
pub fits-size : (most : ℕ) (z : ℤ) → fits most z ≡ true → count_of z ≡ nat_abs z
fits-size most (pos n) e = refl
fits-size most (negsuc n) e = absurd (true≢false (sym e))

-- `&s[at..]` is what follows
pub to_end : (at : ℕ) (s : List ℕ) → take (length s - at) (drop at s) ≡ drop at s
to_end at s = take_all (length s - at) (drop at s) (omega (arith, length-drop at s))

-- ---- an array of n zeros

zeros : (n i : ℕ) → nth (replicate n (pos 0)) i ≡ pos 0
zeros zero i = refl
zeros (suc n) zero = refl
zeros (suc n) (suc i) = zeros n i

pub put-at : (l : List ℤ) (n k i : ℕ) → nth (l ++ drop k (replicate n (pos 0))) i ≡ nth l i
put-at [] n k i = get_or-drop k (replicate n (pos 0)) i (pos 0) ∙ zeros n (k + i)
put-at (x ∷ l) n k zero = refl
put-at (x ∷ l) n k (suc i) = put-at l n k i

-- what is left of zeros after one of them
pub zeros-next : (n i : ℕ) → i < n → ◌≡◌ {A = List ℕ} (drop 1 (replicate (n - i) 0)) (replicate (n - (i + 1)) 0)
zeros-next n i h =
    let one : n - i ≡ suc (n - (i + 1)) = omega arith in
    ap (λ k. drop 1 (replicate k 0)) one
