-- The first i rows are written.
use mathlib.Core.Path.{◌≡◌}
use lib.IntN.{pos}
use Rattle.integers.specs.Filled.{filled}
use Rattle.catalogue_fold.specs.Spread.{cut}
use Rattle.catalogue_rules.specs.Catalogue.{most_numbers}
use Rattle.catalogue_fold.proofs.printing.spread.Given as goal

abbrev pub invariant-loop-i : goal.invariant-loop-i
invariant-loop-i l = l.out ≡ filled (pos 0) most_numbers (cut l.l.m l.v-items l.i)
