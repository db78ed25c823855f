-- How a number of more digits begins with one of fewer.
use Rattle.std.specs.Prelude.{◌≡◌, refl, Bool, true, false, List, [], ◌∷◌, ◌++◌, ℕ, zero, suc, ◌+◌, ◌/◌, ◌%◌, ◌^◌, ◌≤◌, ◌<◌, ltb, length}
use Rattle.std.proofs.Common.{sym, ap, ◌∙◌, subst, pow-suc, arith, length-append, ltb-false, lt-ltb, le-ltb}
use Rattle.std.proofs.Math.Decide.{dec_lt}
use Rattle.integers.specs.Decimal.{digits, decimal}

digits_fuel : (f g n : ℕ) → n < f → n < g → digits f n ≡ digits g n
digits_fuel zero g n h k = absurd (omega arith)
digits_fuel (suc f) zero n h k = absurd (omega arith)
digits_fuel (suc f) (suc g) n h k = go (ltb n 10) refl (λ l. digits_fuel f g (n / 10) (omega arith) (omega arith))
  where
    go : (b : Bool) → ltb n 10 ≡ b → (10 ≤ n → digits f (n / 10) ≡ digits g (n / 10))
        → ◌≡◌ {A = List ℕ} (elim b [ true ↦ (48 + n) ∷ [] | false ↦ digits f (n / 10) ++ ((48 + n % 10) ∷ []) ]) (elim b [ true ↦ (48 + n) ∷ [] | false ↦ digits g (n / 10) ++ ((48 + n % 10) ∷ []) ])
    go true e more = refl
    go false e more = ap (λ l. l ++ ((48 + n % 10) ∷ [])) (more (ltb-false n 10 e))

pub decimal-one : (n : ℕ) → n < 10 → decimal n ≡ (48 + n) ∷ []
decimal-one n h = ap (λ b. elim b [ true ↦ (48 + n) ∷ [] | false ↦ digits n (n / 10) ++ ((48 + n % 10) ∷ []) ]) (lt-ltb n 10 h)

pub decimal-more : (n : ℕ) → 10 ≤ n → decimal n ≡ decimal (n / 10) ++ ((48 + n % 10) ∷ [])
decimal-more n h =
    ap (λ b. elim b [ true ↦ (48 + n) ∷ [] | false ↦ digits n (n / 10) ++ ((48 + n % 10) ∷ []) ]) (le-ltb n 10 h)
    ∙ ap (λ l. l ++ ((48 + n % 10) ∷ [])) (digits_fuel n (suc (n / 10)) (n / 10) (omega arith) (omega arith))

-- at most k digits
pub decimal-length : (k n : ℕ) → 1 ≤ k → n < 10 ^ k → length (decimal n) ≤ k
decimal-length zero n h l = absurd (omega arith)
decimal-length (suc k) n h l = go (dec_lt n 10) (λ p. decimal-length k (n / 10) p (omega (arith, pow-suc 10 k)))
  where
    first : 10 ≤ n → (j : ℕ) → n < 10 ^ suc j → 1 ≤ j
    first p zero q = absurd (omega arith)
    first p (suc j) q = omega arith

    go : Dec (n < 10) → (1 ≤ k → length (decimal (n / 10)) ≤ k) → length (decimal n) ≤ suc k
    go (yes p) more = subst (λ d. length d ≤ suc k) (sym (decimal-one n p)) (omega arith)
    go (no p) more =
        subst (λ d. length d ≤ suc k) (sym (decimal-more n (omega arith)))
        (omega (arith, length-append (decimal (n / 10)) ((48 + n % 10) ∷ []), more (first (omega arith) k l)))
