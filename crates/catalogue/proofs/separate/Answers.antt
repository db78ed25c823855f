-- The catalogue's own refusals first; then what was read.
use Rattle.std.proofs.Common.{◌≡◌, ap, ◌∙◌, rules, Err}
use Rattle.separation_answers.specs.Said.{said_by}
use Rattle.catalogue_standing.specs.ReducedEntries.{ready-read}
use Rattle.catalogue.specs.Separating.{separate_refused, separated_as}
use Rattle.catalogue.proofs.separate.Goals as goal

pub returns-in_err-c : goal.returns-in_err-c
returns-in_err-c c =
    let e : c.from_residual.result ≡ Err c.in_err-c.field-0.0 = search rules in
    ap said_by e ∙ separate_refused c.args.bytes.now c.args.first c.args.second c.in_err-c.field-0.0 c.in_err-c.ensures.outcome

pub separate_read-requires : goal.separate_read-requires
separate_read-requires c = ready-read c.args.bytes.now c.in_ok-c.c c.in_ok-c.ensures.outcome c.list.ensures

pub returns : goal.returns
returns c = c.separate_read.ensures ∙ separated_as c.args.bytes.now c.args.first c.args.second c.in_ok-c.c c.in_ok-c.ensures.outcome c.list.ensures
