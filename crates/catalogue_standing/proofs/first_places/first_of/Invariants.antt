-- None of the first j entries is the first of its lattice and of that of entry k.
use Rattle.std.proofs.Common.{◌≡◌, false, ℕ, ◌<◌}
use Rattle.catalogue_standing.specs.Places.{first_alike}
use Rattle.catalogue_standing.specs.SameLattice.{lefts_in}
use Rattle.catalogue_standing.proofs.first_places.first_of.Given as goal

abbrev pub invariant-loop-j : goal.invariant-loop-j
invariant-loop-j l = (i : ℕ) → i < l.j → first_alike (lefts_in l.list) l.firsts l.k i ≡ false
