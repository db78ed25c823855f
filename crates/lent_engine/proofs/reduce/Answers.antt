-- The answer is stored where there is room for it.
use Rattle.std.specs.Prelude.{[]}
use Rattle.std.proofs.Common.{sym, ap, ◌∙◌, subst, arith}
use Rattle.std.proofs.lemmas.List.Edits.{sets}
use Rattle.lattices.specs.Refusal.{Input}
use Rattle.lattices.specs.Answer.{reduction_of}
use Rattle.refusals.specs.Number.{number_of}
use Rattle.engine.specs.Laws.Answer.{refused-reduction, refusal_is}
use Rattle.lent_numbers.specs.Layout.{reduction_count, layout}
use Rattle.lent_numbers.specs.Runs.{written-long}
use Rattle.lent_engine.specs.Shape.{Shape, shape, length-layout, refused-layout}
use Rattle.lent_engine.proofs.reduce.Goals as goal

pub put_reduction-requires-clause-shape : goal.put_reduction-requires-clause-shape
put_reduction-requires-clause-shape c =
    let i : Input = record { numbers = c.args.numbers.now; d = c.args.d; m = c.args.m; target = [] } in
    subst Shape (sym c.in-Ok.ensures) (shape i)

pub returns-in-Ok-clause-out_after : goal.returns-in-Ok-clause-out_after
returns-in-Ok-clause-out_after c =
    let i : Input = record { numbers = c.args.numbers.now; d = c.args.d; m = c.args.m; target = [] } in
    let l = c.args.out.now in
    c.put_reduction.ensures ∙ ap (λ a. sets l 0 (layout a)) c.in-Ok.ensures ∙ written-long l reduction_count (layout (reduction_of i)) (length-layout (shape i)) (omega (arith, c.if-out-lt-REDUCTION.false))

pub returns-in-Err-clause-out_after : goal.returns-in-Err-clause-out_after
returns-in-Err-clause-out_after c =
    let i : Input = record { numbers = c.args.numbers.now; d = c.args.d; m = c.args.m; target = [] } in
    let l = c.args.out.now in
    c.put_refusal.ensures ∙ ap (sets l 0) (sym (refused-layout (number_of c.in-Err.e))) ∙ ap (λ a. sets l 0 (layout a)) (refused-reduction i c.in-Err.e (ap (λ a. a.refusal) c.in-Err.ensures ∙ refusal_is i))
    ∙ written-long l reduction_count (layout (reduction_of i)) (length-layout (shape i)) (omega (arith, c.if-out-lt-REDUCTION.false))
