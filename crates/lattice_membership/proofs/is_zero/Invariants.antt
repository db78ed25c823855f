-- None of the first i coordinates is other than zero, so the rest decides.
use mathlib.Core.Path.{◌≡◌}
use lib.ListN.{drop}
use Rattle.integers.specs.Every.{any}
use Rattle.lattice_membership.specs.Nonzero.{nonzero}
use Rattle.lattice_membership.proofs.is_zero.Given as goal

abbrev pub invariant-loop-x : goal.invariant-loop-x
invariant-loop-x l = any nonzero l.v ≡ any nonzero (drop l.x-index l.v)
