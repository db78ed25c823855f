-- The first k marks are stored.
use Rattle.std.proofs.Common.{◌≡◌, false, map, take}
use Rattle.integers.specs.Filled.{filled}
use Rattle.catalogue_rules.specs.Catalogue.{most_entries}
use Rattle.catalogue_standing.proofs.standing_places.marks.Given as goal

abbrev pub invariant-loop-k : goal.invariant-loop-k
invariant-loop-k l = l.marks ≡ filled false most_entries (map (λ e. e.draft) (take l.k l.entries))
