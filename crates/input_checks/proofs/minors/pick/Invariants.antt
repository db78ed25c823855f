-- After c turns the first c coordinates are picked.
use mathlib.Core.Path.{◌≡◌}
use Prim.Native.Nat.{◌≤◌}
use mathlib.Core.List.{map}
use lib.ListN.{take}
use Rattle.lattices.specs.Answer.{padded}
use Rattle.lattices.specs.Vector.{nth}
use Rattle.input_checks.proofs.minors.pick.Given as goal

abbrev pub invariant-loop-c : goal.invariant-loop-c
invariant-loop-c l = (l.c ≤ 4) × (l.p ≡ padded 4 (map (nth l.v) (take l.c l.at)))
