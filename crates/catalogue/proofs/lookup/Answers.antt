-- The catalogue's own refusals first, then the place of the number, then that of its standing entry.
use Rattle.std.proofs.Common.{◌≡◌, ap, ◌∙◌, rules, Err}
use Rattle.catalogue_standing.specs.ReducedEntries.{ready-read}
use Rattle.catalogue.specs.Finding.{looked_by, place-here, looked-at, looked-nowhere, looked-refused, looked-in}
use Rattle.catalogue.proofs.lookup.Goals as goal

pub returns-in_err-c : goal.returns-in_err-c
returns-in_err-c c =
    let e : c.from_residual.result ≡ Err c.in_err-c.field-0.0 = search rules in
    ap looked_by e ∙ looked-refused c.args.bytes.now c.args.number c.in_err-c.field-0.0 c.in_err-c.ensures.outcome

pub returns-in_err-k : goal.returns-in_err-k
returns-in_err-k c =
    let e : c.from_residual-in_err-k.result ≡ Err c.in_err-k.field-0.0 = search rules in
    let read = ready-read c.args.bytes.now c.in_ok-c.c c.in_ok-c.ensures.outcome c.list-entries.ensures in
    ap looked_by e ∙ ap (λ r. looked_by (Err r)) c.in_err-k.ensures.1
    ∙ looked-in c.args.bytes.now c.args.number c.in_ok-c.c c.in_ok-c.ensures.outcome c.list-entries.ensures (looked-nowhere c.list-entries.result.now read c.args.number c.in_err-k.ensures.0)

pub standing_place-s-requires : goal.standing_place-s-requires
standing_place-s-requires c =
    let read = ready-read c.args.bytes.now c.in_ok-c.c c.in_ok-c.ensures.outcome c.list-entries.ensures in
    record { was_read = read; k_lt_len = place-here c.list-entries.result.now read c.args.number c.in_ok-k.ensures }

pub returns : goal.returns
returns c =
    let read = ready-read c.args.bytes.now c.in_ok-c.c c.in_ok-c.ensures.outcome c.list-entries.ensures in
    looked-in c.args.bytes.now c.args.number c.in_ok-c.c c.in_ok-c.ensures.outcome c.list-entries.ensures
    (looked-at c.list-entries.result.now read c.args.number c.in_ok-k.ensures c.standing_place-s.ensures)
