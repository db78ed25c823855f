-- The catalogue's own refusals first; then the fold of what was read.
use Rattle.std.proofs.Common.{◌≡◌, ap, ◌∙◌, rules, Err}
use Rattle.catalogue_records.specs.EntriesIn.{output_in}
use Rattle.catalogue_standing.specs.ReducedEntries.{ready-read}
use Rattle.catalogue.specs.Outcome.{not-folded, fold_as}
use Rattle.catalogue.proofs.fold.Goals as goal

pub returns-in_err-c : goal.returns-in_err-c
returns-in_err-c c =
    let e : c.from_residual.result ≡ Err c.in_err-c.field-0.0 = search rules in
    ap (λ r. output_in r c.args.out.now) e ∙ not-folded c.args.bytes.now c.in_err-c.field-0.0 c.in_err-c.ensures.outcome c.args.out.now

pub fold_read-requires : goal.fold_read-requires
fold_read-requires c = ready-read c.args.bytes.now c.in_ok-c.c c.in_ok-c.ensures.outcome c.list.ensures

pub returns : goal.returns
returns c = c.fold_read.ensures ∙ fold_as c.args.bytes.now c.in_ok-c.c c.in_ok-c.ensures.outcome c.list.ensures c.args.out.now
