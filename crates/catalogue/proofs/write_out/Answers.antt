-- The catalogue's own refusals first.
use Rattle.std.proofs.Common.{◌≡◌, ap, ◌∙◌, map, rules, Err}
use Rattle.catalogue_rules.specs.Catalogue.{accepted}
use Rattle.catalogue_rules.specs.Output.{output}
use Rattle.catalogue_records.specs.EntriesIn.{entry_in, output_in}
use Rattle.catalogue_records.specs.Again.{not_written}
use Rattle.catalogue_standing.specs.ReducedEntries.{ready-read}
use Rattle.catalogue.proofs.write_out.Goals as goal

pub returns-in_err-c : goal.returns-in_err-c
returns-in_err-c c =
    let e : c.from_residual.result ≡ Err c.in_err-c.field-0.0 = search rules in
    ap (λ r. output_in r c.args.out.now) e ∙ not_written c.args.bytes.now c.in_err-c.field-0.0 c.in_err-c.ensures.outcome c.args.out.now

pub write_entries-requires : goal.write_entries-requires
write_entries-requires c = (ready-read c.args.bytes.now c.in_ok-c.c c.in_ok-c.ensures.outcome c.list.ensures).formed

pub returns : goal.returns
returns c =
    c.write_entries.ensures ∙ ap (λ l. output (accepted (map entry_in l)) c.args.out.now) c.list.ensures ∙ ap (λ o. output o c.args.out.now) c.in_ok-c.ensures.outcome
