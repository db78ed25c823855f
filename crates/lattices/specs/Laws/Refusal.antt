-- The checks of a count, read as facts.
use Rattle.std.specs.Prelude.{◌≡◌, true, ℕ, ◌≤◌, leb}
use Rattle.std.proofs.Common.{leb→le}
use Rattle.integers.specs.Tests.{true_T, both}
use Rattle.lattices.specs.Refusal.{one_to}

pub one-to : (most n : ℕ) → one_to most n ≡ true → (1 ≤ n) × (n ≤ most)
one-to most n e = let p = both (leb 1 n) (leb n most) e in (leb→le 1 n (true_T p.0), leb→le n most (true_T p.1))
