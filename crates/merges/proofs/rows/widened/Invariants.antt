-- The first i numbers are the same.
use mathlib.Core.Path.{◌≡◌}
use Prim.Native.Nat.{◌≤◌, ◌-◌}
use lib.ListN.{length, take}
use Rattle.catalogue_rules.specs.Catalogue.{most_numbers}
use Rattle.merges.proofs.rows.widened.Given as goal

abbrev pub invariant-loop-i : goal.invariant-loop-i
invariant-loop-i l = (l.i ≤ most_numbers) × (length l.out ≡ most_numbers) × (take l.i l.out ≡ take l.i l.numbers)

abbrev pub decreases-loop-i : goal.decreases-loop-i
decreases-loop-i l = most_numbers - l.i
