-- A number's digits stored from the last on.
use Rattle.std.specs.Prelude.{◌≡◌, List, [], ◌∷◌, ◌++◌, ℕ, suc, ◌+◌, ◌-◌, ◌/◌, ◌%◌, ◌≤◌, ◌<◌, length, set}
use Rattle.std.proofs.Common.{ap, sym, ◌∙◌, arith, length-append, length-set}
use Rattle.std.proofs.Math.Decide.{dec_lt}
use Rattle.std.proofs.lemmas.List.Edits.{sets}
use Rattle.std.proofs.lemmas.List.{set_comm}
use Rattle.integers.specs.Decimal.{decimal}
use Rattle.integers.specs.DecimalLaws.{decimal-one, decimal-more}

pub one-digit : (n : ℕ) → n < 10 → length (decimal n) ≡ 1
one-digit n h = ap length (decimal-one n h)

pub one_more : (n : ℕ) → 10 ≤ n → length (decimal n) ≡ length (decimal (n / 10)) + 1
one_more n h = omega (arith, ap length (decimal-more n h), length-append (decimal (n / 10)) ((48 + n % 10) ∷ []))

-- the last of a run may be stored first
sets_last : (l : List ℕ) (at : ℕ) (t : List ℕ) (b : ℕ) → sets l at (t ++ (b ∷ [])) ≡ sets (set l (at + length t) b) at t
sets_last l at [] b = let e : at ≡ at + 0 = omega arith in ap (λ k. set l k b) e
sets_last l at (x ∷ t) b =
    let e : suc at + length t ≡ at + suc (length t) = omega arith in
    sets_last (set l at x) (suc at) t b
    ∙ ap (λ k. sets (set (set l at x) k b) (suc at) t) e
    ∙ ap (λ m. sets m (suc at) t) (set_comm l at (at + suc (length t)) x b (λ q. omega (arith, q)))

-- the last digit, then the others
pub digits_more : (l : List ℕ) (from at n : ℕ) → 10 ≤ n → at + 1 ≡ from + length (decimal n) → sets (set l at (48 + n % 10)) from (decimal (n / 10)) ≡ sets l from (decimal n)
digits_more l from at n h e =
    let here : from + length (decimal (n / 10)) ≡ at = omega (arith, e, one_more n h) in
    ap (λ k. sets (set l k (48 + n % 10)) from (decimal (n / 10))) (sym here)
    ∙ sym (sets_last l from (decimal (n / 10)) (48 + n % 10))
    ∙ ap (sets l from) (sym (decimal-more n h))

-- the first digit
pub digits-one : (l : List ℕ) (from at n : ℕ) → n < 10 → at + 1 ≡ from + length (decimal n) → set l at (48 + n) ≡ sets l from (decimal n)
digits-one l from at n h e =
    let here : at ≡ from = omega (arith, e, one-digit n h) in
    ap (λ k. set l k (48 + n)) here ∙ ap (sets l from) (sym (decimal-one n h))

pub some-digit : (n : ℕ) → 1 ≤ length (decimal n)
some-digit n = go (dec_lt n 10)
  where
    go : Dec (n < 10) → 1 ≤ length (decimal n)
    go (yes h) = omega (arith, one-digit n h)
    go (no h) = omega (arith, one_more n (omega (arith, h)))

-- the digits of rest, put over what stands there now, give n over what stood there
pub record Left (before : List ℕ) (end n : ℕ) (after : List ℕ) (at rest : ℕ) : Type 0 where
  pub long : length after ≡ length before
  pub place : at + 1 ≡ end - length (decimal n) + length (decimal rest)
  pub fewer : length (decimal rest) ≤ length (decimal n)
  pub digits : sets after (end - length (decimal n)) (decimal rest) ≡ sets before (end - length (decimal n)) (decimal n)

pub left-more : {before after : List ℕ} {end n at rest : ℕ} → Left before end n after at rest → 10 ≤ rest → 1 ≤ at
left-more {rest} p h = omega (arith, p.place, one_more rest h, some-digit (rest / 10))

pub left-next : {before after : List ℕ} {end n at rest : ℕ} → Left before end n after at rest → 10 ≤ rest → Left before end n (set after at (48 + rest % 10)) (at - 1) (rest / 10)
left-next {before} {after} {end} {n} {at} {rest} p h = record {
  long = length-set after at (48 + rest % 10) ∙ p.long;
  place = omega (arith, p.place, one_more rest h, some-digit (rest / 10));
  fewer = omega (arith, p.fewer, one_more rest h);
  digits = digits_more after (end - length (decimal n)) at rest h p.place ∙ p.digits;
}
