-- None of the numbers before is beyond the limit, so the rest decides.
use mathlib.Core.Path.{◌≡◌}
use lib.ListN.{drop}
use Rattle.integers.specs.Every.{any}
use Rattle.input_checks.specs.Any.{beyond}
use Rattle.input_checks.proofs.any_beyond.Given as goal

abbrev pub invariant-loop-x : goal.invariant-loop-x
invariant-loop-x l = any beyond l.numbers ≡ any beyond (drop l.x-index l.numbers)
