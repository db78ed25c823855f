-- No see word of the entries so far is lost, so the rest decides.
use Rattle.std.proofs.Common.{◌≡◌, map, drop}
use Rattle.integers.specs.First.{first_given}
use Rattle.catalogue_rules.specs.Read.{lost_at}
use Rattle.catalogue_records.specs.EntriesIn.{entry_in}
use Rattle.catalogue_reader.proofs.first_lost.Given as goal

abbrev pub invariant-loop-e : goal.invariant-loop-e
invariant-loop-e l =
    let es = map entry_in l.entries in
    first_given (lost_at es) es ≡ first_given (lost_at es) (drop l.e-index es)
