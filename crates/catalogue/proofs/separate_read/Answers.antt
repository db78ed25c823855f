-- The places of both numbers, then what separates the two entries.
use Rattle.std.proofs.Common.{◌≡◌, ap, ◌∙◌, map, rules, Err}
use Rattle.separation_answers.specs.Said.{said_by}
use Rattle.catalogue_records.specs.EntriesIn.{entry_in}
use Rattle.catalogue_standing.specs.ReducedEntries.{ready-sound}
use Rattle.separation_rules.specs.Separation.{told}
use Rattle.catalogue.specs.Finding.{place-here, entry-there, entry-nowhere}
use Rattle.catalogue.specs.Separating.{first-nowhere, second-nowhere, both-there}
use Rattle.catalogue.proofs.separate_read.Goals as goal

pub returns-in_err-j : goal.returns-in_err-j
returns-in_err-j c =
    let e : c.from_residual.result ≡ Err c.in_err-j.field-0.0 = search rules in
    ap said_by e ∙ ap (λ r. said_by (Err r)) c.in_err-j.ensures.1
    ∙ first-nowhere (map entry_in c.args.entries.now) c.args.first c.args.second (entry-nowhere c.args.entries.now c.requires c.args.first c.in_err-j.ensures.0)

pub returns-in_err-k : goal.returns-in_err-k
returns-in_err-k c =
    let e : c.from_residual-in_err-k.result ≡ Err c.in_err-k.field-0.0 = search rules in
    ap said_by e ∙ ap (λ r. said_by (Err r)) c.in_err-k.ensures.1
    ∙ second-nowhere (map entry_in c.args.entries.now) c.args.first c.args.second (entry-nowhere c.args.entries.now c.requires c.args.second c.in_err-k.ensures.0)

pub separated-requires : goal.separated-requires
separated-requires c =
    let l = c.args.entries.now in
    (ready-sound l c.requires c.in_ok-j.j (place-here l c.requires c.args.first c.in_ok-j.ensures), ready-sound l c.requires c.in_ok-k.k (place-here l c.requires c.args.second c.in_ok-k.ensures))

pub returns : goal.returns
returns c =
    let l = c.args.entries.now in
    ap told c.separated.ensures
    ∙ both-there (map entry_in l) c.args.first c.args.second (entry-there l c.requires c.args.first c.in_ok-j.ensures) (entry-there l c.requires c.args.second c.in_ok-k.ensures)
