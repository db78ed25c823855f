-- The catalogue's own refusals first; then the listing of what was read.
use Rattle.std.proofs.Common.{◌≡◌, ap, ◌∙◌, rules, Err}
use Rattle.catalogue_records.specs.EntriesIn.{output_in}
use Rattle.catalogue_standing.specs.ReducedEntries.{ready-read}
use Rattle.catalogue_listing.specs.Listed.{not_listed, list_as}
use Rattle.catalogue_listing.proofs.list.Goals as goal

pub returns-in_err-c-clause-value : goal.returns-in_err-c-clause-value
returns-in_err-c-clause-value c =
    let e : c.from_residual.result ≡ Err c.in_err-c.field-0.0 = search rules in
    ap (λ r. output_in r c.args.out.now) e ∙ not_listed c.args.bytes.now c.in_err-c.field-0.0 c.in_err-c.ensures.outcome c.args.out.now

pub list_read-requires : goal.list_read-requires
list_read-requires c = ready-read c.args.bytes.now c.in_ok-c.c c.in_ok-c.ensures.outcome c.list.ensures

pub returns-clause-value : goal.returns-clause-value
returns-clause-value c = c.list_read.ensures.value ∙ list_as c.args.bytes.now c.in_ok-c.c c.in_ok-c.ensures.outcome c.list.ensures c.args.out.now
