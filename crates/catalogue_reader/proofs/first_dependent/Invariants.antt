-- None of the entries so far is dependent, so the rest decides.
use Rattle.std.proofs.Common.{◌≡◌, map, drop}
use Rattle.integers.specs.First.{first_given}
use Rattle.catalogue_rules.specs.Read.{dependent_at}
use Rattle.catalogue_records.specs.EntriesIn.{entry_in}
use Rattle.catalogue_reader.proofs.first_dependent.Given as goal

abbrev pub invariant-loop-e : goal.invariant-loop-e
invariant-loop-e l =
    let es = map entry_in l.entries in
    first_given dependent_at es ≡ first_given dependent_at (drop l.e-index es)
