-- The refusals of reading first, then a number that is too large; then the entries are put into the form and written.
use Rattle.std.proofs.Common.{◌≡◌, ap, ◌∙◌, rules, Err}
use Rattle.catalogue_records.specs.EntriesIn.{output_in}
use Rattle.catalogue.specs.Moving.{not-moved, was-read, too_large, few_in, formed_in, move-written}
use Rattle.catalogue.proofs.moved.Goals as goal

pub returns-in_err-c : goal.returns-in_err-c
returns-in_err-c c =
    let e : c.from_residual.result ≡ Err c.in_err-c.field-0.0 = search rules in
    ap (λ r. output_in r c.args.out.now) e ∙ not-moved c.args.form c.args.bytes.now c.in_err-c.field-0.0 c.in_err-c.ensures.outcome c.args.out.now

pub returns-in-Some : goal.returns-in-Some
returns-in-Some c = too_large c.args.form c.args.bytes.now c.in_ok-c.c c.in_ok-c.ensures.outcome c.list-entries.ensures c.in-Some.ensures c.args.out.now

pub in_form-m-requires : goal.in_form-m-requires
in_form-m-requires c = (was-read c.args.form c.args.bytes.now c.in_ok-c.c c.in_ok-c.ensures.outcome c.list-entries.ensures).few

pub list-requires : goal.list-requires
list-requires c = few_in c.args.form c.args.bytes.now c.in_ok-c.c c.in_ok-c.ensures.outcome c.list-entries.ensures c.in_default.ensures c.in_form-m.ensures

pub write_entries-requires : goal.write_entries-requires
write_entries-requires c = formed_in c.args.form c.args.bytes.now c.in_ok-c.c c.in_ok-c.ensures.outcome c.list-entries.ensures c.in_default.ensures c.in_form-m.ensures c.list.ensures

pub returns : goal.returns
returns c =
    c.write_entries.ensures
    ∙ move-written c.args.form c.args.bytes.now c.in_ok-c.c c.in_ok-c.ensures.outcome c.list-entries.ensures c.in_default.ensures c.in_form-m.ensures c.list.ensures c.args.out.now
