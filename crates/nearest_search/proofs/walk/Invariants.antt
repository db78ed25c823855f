-- `walk` passes layers that do not improve until one does.
use mathlib.Core.Path.{◌≡◌}
use Prim.Native.Nat.{ℕ, ◌<◌}
use Rattle.lattices.specs.Vector.{nth}
use Rattle.nearest_search.specs.LayerLaws.{Passed}
use Rattle.nearest_search.specs.Turns.{five_layers}
use Rattle.nearest_search.proofs.walk.Given as goal

abbrev pub invariant-loop-j : goal.invariant-loop-j
invariant-loop-j l = (l.r ≡ l.initial.r) × ((l.x ≡ l.initial.x) × ((k : ℕ) → k < l.j-index → Passed l.n l.g l.initial.r (nth five_layers k)))
