-- The refusal, or what was left, put together.
use Rattle.std.specs.Prelude.{◌≡◌, [], Err}
use Rattle.std.proofs.Common.{ap, ◌∙◌, rules}
use Rattle.lattices.specs.Refusal.{Input}
use Rattle.engine.specs.Answers.{reduction_in}
use Rattle.engine.specs.Laws.Answer.{refused-reduction, refusal_is}
use Rattle.engine.proofs.reduce.Goals as goal

pub returns-in_err-squares : goal.returns-in_err-squares
returns-in_err-squares c =
    let i : Input = record { numbers = c.args.numbers.now; d = c.args.d; m = c.args.m; target = [] } in
    let r : c.from_residual.result ≡ Err c.in_err-squares.field-0.0 = search rules in
    ap reduction_in r ∙ refused-reduction i _ (ap (λ a. a.refusal) c.in_err-squares.ensures ∙ refusal_is i)

pub returns : goal.returns
returns c = c.finished.ensures ∙ c.in_ok-squares.ensures
