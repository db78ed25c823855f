-- The first i numbers are rounded, the others are 0.
use Prim.Native.Nat.{ℕ, ◌≤◌}
use mathlib.Core.Path.{◌≡◌}
use lib.IntN.{pos}
use lib.ListN.{length}
use Rattle.lattices.specs.Vector.{nth}
use Rattle.successive_minima.specs.Laws.Digits.{Bounded}
use Rattle.nearest_search.proofs.start.whole.Given as goal

abbrev pub invariant-loop-i : goal.invariant-loop-i
invariant-loop-i l = (length l.e ≡ 4) × (Bounded 32768 l.e × ((j : ℕ) → l.i ≤ j → nth l.e j ≡ pos 0))
