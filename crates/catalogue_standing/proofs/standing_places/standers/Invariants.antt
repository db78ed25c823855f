-- The standing entries of the first k entries are found.
use Rattle.std.proofs.Common.{length}
use Rattle.catalogue_standing.specs.Standers.{Standers}
use Rattle.catalogue_standing.proofs.standing_places.standers.Given as goal

abbrev pub invariant-loop-k : goal.invariant-loop-k
invariant-loop-k l = Standers l.firsts l.marks (length l.firsts) l.k l.standing
