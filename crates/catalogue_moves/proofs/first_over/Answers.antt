use Rattle.std.proofs.Common.{true, false, ℕ, sym, ap, ◌∙◌, rules, ltb, lt-ltb, le-ltb}
use Rattle.std.proofs.Math.Option.{Option, none, some}
use Rattle.catalogue_rules.specs.Moving.{over_at}
use Rattle.catalogue_records.specs.EntriesIn.{form_in}
use Rattle.catalogue_records.specs.Entries.{entry_at, first-here, first-later}
use Rattle.catalogue_moves.proofs.first_over.Goals as goal

pub returns-then-most-e : goal.returns-then-most-e
returns-then-most-e c =
    let l = c.args.entries.now in
    let e = entry_at l c.loop-e.e-index in
    let over = ap (λ t. elim t as (λ t. Option ℕ) [ true ↦ some e.place | false ↦ none ]) (ap (λ n. ltb n e.number) (sym c.most_number-most.ensures) ∙ lt-ltb _ _ c.if-most-e.true) in
    sym (c.loop-e.invariant ∙ first-here l _ (search rules) (over_at (form_in c.args.form)) over)

pub loop-e-preserved : goal.loop-e-preserved
loop-e-preserved c =
    let l = c.args.entries.now in
    let e = entry_at l c.loop-e.e-index in
    let within = ap (λ t. elim t as (λ t. Option ℕ) [ true ↦ some e.place | false ↦ none ]) (ap (λ n. ltb n e.number) (sym c.most_number-most.ensures) ∙ le-ltb _ _ c.if-most-e.false) in
    c.loop-e.invariant ∙ first-later l _ (search rules) (over_at (form_in c.args.form)) within
