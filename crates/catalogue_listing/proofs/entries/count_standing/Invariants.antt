-- The first k places are counted.
use Rattle.std.proofs.Common.{◌≡◌}
use Rattle.catalogue_listing.specs.Counts.{own_places}
use Rattle.catalogue_listing.proofs.entries.count_standing.Given as goal

abbrev pub invariant-loop-k : goal.invariant-loop-k
invariant-loop-k l = l.n ≡ own_places l.standing l.k
