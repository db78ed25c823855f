-- The number that is asked for: a written number that no entry can have becomes 0, which no entry has.
use Rattle.std.specs.Prelude.{◌≡◌, cond, ℕ, ◌≤◌, ◌<◌, ltb, ℤ, pos}
use Rattle.std.proofs.Common.{sym, ap, lt-ltb, le-ltb}
use Rattle.text_parts.specs.Counts.{count_of}

abbrev pub asked_number : ℤ → ℕ
asked_number z = let n = count_of z in cond (ltb 268435455 n) 0 n

-- an entry's number is asked for as it is
pub asked_entry : (n : ℕ) → n ≤ 268435455 → asked_number (pos n) ≡ n
asked_entry n h = ap (λ b. cond b 0 n) (le-ltb _ _ h)

pub beyond : (z : ℤ) → 268435455 < count_of z → 0 ≡ asked_number z
beyond z h = sym (ap (λ b. cond b 0 (count_of z)) (lt-ltb _ _ h))

pub within : (z : ℤ) → count_of z ≤ 268435455 → count_of z ≡ asked_number z
within z h = sym (ap (λ b. cond b 0 (count_of z)) (le-ltb _ _ h))
