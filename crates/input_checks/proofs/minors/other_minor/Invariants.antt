-- Every minor before is zero.
use mathlib.Core.Path.{◌≡◌}
use Prim.Native.Nat.{ℕ, ◌^◌, ◌≤◌, ◌<◌}
use lib.IntN.{pos}
use lib.ListN.{take}
use Rattle.lattices.specs.Volume.{volume}
use Rattle.lattices.specs.Refusal.{most_coordinates}
use Rattle.input_checks.specs.Choice.{choice}
use Rattle.input_checks.proofs.minors.other_minor.Given as goal

abbrev pub invariant-loop-number : goal.invariant-loop-number
invariant-loop-number l = (l.number ≤ 2 ^ most_coordinates) × ((k : ℕ) → k < l.number → volume (take l.d l.b) (choice most_coordinates k) ≡ pos 0)
