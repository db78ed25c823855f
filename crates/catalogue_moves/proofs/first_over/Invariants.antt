-- No number so far is over the limit, so the rest decides.
use Rattle.std.proofs.Common.{◌≡◌, map, drop}
use Rattle.integers.specs.First.{first_given}
use Rattle.catalogue_rules.specs.Moving.{over_at}
use Rattle.catalogue_records.specs.EntriesIn.{form_in, entry_in}
use Rattle.catalogue_moves.proofs.first_over.Given as goal

abbrev pub invariant-loop-e : goal.invariant-loop-e
invariant-loop-e l =
    let es = map entry_in l.entries in
    first_given (over_at (form_in l.fn.form)) es ≡ first_given (over_at (form_in l.fn.form)) (drop l.e-index es)
