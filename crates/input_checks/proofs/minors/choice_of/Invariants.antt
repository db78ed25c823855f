-- After k turns the choice has the first k bits of the number, and `rest` holds those behind them.
use mathlib.Core.Path.{◌≡◌}
use Prim.Native.Nat.{◌≤◌}
use Rattle.integers.specs.Filled.{filled}
use Rattle.exterior_algebra.specs.Minors.{marks}
use Rattle.lattices.specs.Refusal.{most_coordinates}
use Rattle.input_checks.specs.Choice.{choice, places, halves}
use Rattle.input_checks.proofs.minors.choice_of.Given as goal

abbrev pub invariant-loop-k : goal.invariant-loop-k
invariant-loop-k l = (l.k ≤ most_coordinates) × ((l.at ≡ filled 0 most_coordinates (places 0 (choice l.k l.number))) × ((l.count ≡ marks (choice l.k l.number)) × (l.rest ≡ halves l.k l.number)))
