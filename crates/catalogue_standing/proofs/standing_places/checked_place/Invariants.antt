-- No entry before place f has its first entry there, and none of those from f up to j is checked.
use Rattle.std.proofs.Common.{◌≡◌, false, ℕ, ◌<◌}
use Rattle.catalogue_standing.specs.Standers.{checked_at}
use Rattle.catalogue_standing.proofs.standing_places.checked_place.Given as goal

abbrev pub invariant-loop-j : goal.invariant-loop-j
invariant-loop-j l = (i : ℕ) → i < l.j → checked_at l.firsts l.marks l.f i ≡ false
