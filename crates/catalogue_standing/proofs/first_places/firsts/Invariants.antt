-- The first k places are found.
use Rattle.catalogue_standing.specs.Places.{Firsts}
use Rattle.catalogue_standing.specs.SameLattice.{lefts_in}
use Rattle.catalogue_standing.proofs.first_places.firsts.Given as goal

abbrev pub invariant-loop-k : goal.invariant-loop-k
invariant-loop-k l = Firsts (lefts_in l.list) l.k l.firsts
