-- A number in decimal is a run of digits that is not empty and whose value is the number.
use Rattle.std.specs.Prelude.{◌≡◌, refl, true, ◌&&◌, List, [], ◌∷◌, ◌++◌, ℕ, zero, suc, ◌+◌, ◌-◌, ◌*◌, ◌/◌, ◌%◌, ◌≤◌, ◌<◌, length}
use Rattle.std.proofs.Common.{sym, ap₂, ◌∙◌, subst, arith, length-append, le-leb}
use Rattle.std.proofs.Math.Decide.{dec_lt}
use Rattle.integers.specs.All.{All}
use Rattle.integers.specs.AllLaws.{all_append}
use Rattle.integers.specs.Decimal.{decimal}
use Rattle.integers.specs.DecimalLaws.{decimal-one, decimal-more}
use Rattle.text_parts.specs.Numbers.{is_digit, value}

abbrev pub Digits : List ℕ → Type 0
Digits s = All (λ b. is_digit b ≡ true) s

pub record Tells (n : ℕ) (s : List ℕ) : Type 0 where
  pub one : 1 ≤ length s
  pub digits : Digits s
  pub worth : value 0 s ≡ n

value-append : (n : ℕ) (s t : List ℕ) → value n (s ++ t) ≡ value (value n s) t
value-append n [] t = refl
value-append n (b ∷ s) t = value-append (n * 10 + (b - 48)) s t

digit : (n : ℕ) → n < 10 → is_digit (48 + n) ≡ true
digit n h = ap₂ ◌&&◌ (le-leb 48 (48 + n) (omega arith)) (le-leb (48 + n) 57 (omega arith))

one_tells : (n : ℕ) → n < 10 → Tells n ((48 + n) ∷ [])
one_tells n h = record { one = omega arith; digits = (digit n h, tt); worth = omega arith }

more_tells : (n : ℕ) (s : List ℕ) → Tells (n / 10) s → Tells n (s ++ ((48 + n % 10) ∷ []))
more_tells n s t =
    let last = (48 + n % 10) ∷ [] in
    let e : value 0 s ≡ n / 10 = t.worth in
    let f : value 0 (s ++ last) ≡ value 0 s * 10 + (48 + n % 10 - 48) = value-append 0 s last in
    record {
      one = omega (arith, length-append s last);
      digits = all_append (λ b. is_digit b ≡ true) s last t.digits (digit (n % 10) (omega arith), tt);
      worth = f ∙ omega (arith, e);
    }

pub decimal_tells : (n : ℕ) → Tells n (decimal n)
decimal_tells n = below (suc n) n (omega arith)
  where
    below : (k n : ℕ) → n < k → Tells n (decimal n)
    below zero n h = absurd (omega arith)
    below (suc k) n h = go (dec_lt n 10) (λ p. below k (n / 10) (omega arith))
      where
        go : Dec (n < 10) → (10 ≤ n → Tells (n / 10) (decimal (n / 10))) → Tells n (decimal n)
        go (yes p) fewer = subst (Tells n) (sym (decimal-one n p)) (one_tells n p)
        go (no p) fewer = subst (Tells n) (sym (decimal-more n (omega arith))) (more_tells n (decimal (n / 10)) (fewer (omega arith)))
