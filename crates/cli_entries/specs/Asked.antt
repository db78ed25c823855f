-- The number that is asked for: a written number that no entry can have becomes one that no entry has and no see word names.
use Rattle.std.specs.Prelude.{◌≡◌, true, cond, ◌&&◌, List, ℕ, ◌≤◌, eqb, ltb, ℤ, pos, length, Option, Some, None}
use Rattle.std.proofs.Common.{sym, ap, ◌∙◌, arith, le-ltb, le-leb}
use Rattle.lattices.specs.Vector.{nth}
use Rattle.text_parts.specs.Counts.{is_count, count_of}
use Rattle.text_parts.specs.Parts.{Taken, is_end, taken_at}

-- one more than the greatest number
abbrev pub no_entry : ℕ
no_entry = 268435456

abbrev pub asked_or_none : ℤ → ℕ
asked_or_none z = let n = count_of z in cond (is_count z) (cond (ltb 268435455 n) no_entry n) no_entry

-- one number, and nothing behind it
abbrev pub wanted_of : Taken → Option ℕ
wanted_of p = cond (is_end p.stop && eqb (length p.numbers) 1) (Some (asked_or_none (nth p.numbers 0))) None

-- the number that the bytes write
abbrev pub wanted_in : List ℕ → Option ℕ
wanted_in s = wanted_of (taken_at 1 s)

-- ---- the cases

pub within : (z : ℤ) → is_count z ≡ true → count_of z ≤ 268435455 → count_of z ≡ asked_or_none z
within z e h =
    sym (ap (λ b. cond b (cond (ltb 268435455 (count_of z)) no_entry (count_of z)) no_entry) e ∙ ap (λ b. cond b no_entry (count_of z)) (le-ltb _ _ h))

-- an entry's number is asked for as it is
pub asked_entry : (n : ℕ) → n ≤ 268435455 → asked_or_none (pos n) ≡ n
asked_entry n h = sym (within (pos n) (le-leb 0 n (omega arith)) h)
