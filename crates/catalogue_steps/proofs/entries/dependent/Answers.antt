-- The array of the entry's vectors has the same rows.
use Rattle.std.proofs.Common.{◌≡◌, false, ◌≤◌, ◌*◌, take, ◌∙◌}
use Rattle.integers.specs.Every.{any}
use Rattle.lattices.specs.Refusal.{too_long, most_vectors, most_coordinates}
use Rattle.lattices.specs.Laws.Refusal.{one-to}
use Rattle.catalogue_rules.proofs.Laws.EntriesAccepted.{all_short}
use Rattle.input_checks.specs.Rows.{short, long-rows, dependent_rows}
use Rattle.catalogue_records.specs.EntriesIn.{entry_in}
use Rattle.catalogue_steps.proofs.entries.dependent.Goals as goal

pub dependent-requires-clause-by_index : goal.dependent-requires-clause-by_index
dependent-requires-clause-by_index c =
    let e = c.args.e.now in
    let few : e.d ≤ most_vectors = (one-to most_vectors _ c.requires.head.d).1 in
    let narrow : e.m ≤ most_coordinates = (one-to most_coordinates _ c.requires.head.m).1 in
    let near : any too_long (take e.d c.basis-b.result) ≡ false =
    long-rows e.d e.m (take (e.d * e.m) e.coordinates) few narrow c.basis-b.ensures ∙ all_short e.m (entry_in e).vectors c.requires.vectors in
    short _ _ near

pub returns : goal.returns
returns c =
    let e = c.args.e.now in
    let few : e.d ≤ most_vectors = (one-to most_vectors _ c.requires.head.d).1 in
    let narrow : e.m ≤ most_coordinates = (one-to most_coordinates _ c.requires.head.m).1 in
    c.dependent.ensures ∙ dependent_rows e.d e.m _ few narrow c.basis-b.ensures
