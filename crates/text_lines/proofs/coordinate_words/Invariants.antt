-- None of the first i coordinates is beyond the limit, and their words stand.
use mathlib.Core.Path.{◌≡◌}
use Prim.Native.Nat.{◌-◌, ◌≤◌}
use lib.ListN.{length, take, drop, replicate}
use Rattle.integers.specs.Every.{any}
use Rattle.catalogue_rules.specs.Write.{encoded_coordinates}
use Rattle.input_checks.specs.Any.{beyond}
use Rattle.text_lines.proofs.coordinate_words.Given as goal

abbrev pub invariant-loop-i : goal.invariant-loop-i
invariant-loop-i l =
    (l.i ≤ length l.z) × ((length l.words ≡ 225) × ((any beyond l.z ≡ any beyond (drop l.i l.z)) × ((take l.i l.words ≡ encoded_coordinates (take l.i l.z)) × (drop l.i l.words ≡ replicate (225 - l.i) 0))))

abbrev pub decreases-loop-i : goal.decreases-loop-i
decreases-loop-i l = l.i-end - l.i
