-- The first k numbers are stored.
use Rattle.std.proofs.Common.{◌≡◌, map, take}
use Rattle.integers.specs.Filled.{filled}
use Rattle.catalogue_rules.specs.Catalogue.{most_entries}
use Rattle.catalogue_records.proofs.numbers.Given as goal

abbrev pub invariant-loop-k : goal.invariant-loop-k
invariant-loop-k l = l.numbers ≡ filled 0 most_entries (map (λ e. e.number) (take l.k l.entries))
