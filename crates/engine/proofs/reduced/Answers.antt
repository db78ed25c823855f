-- What the steps leave, or zeros.
use Rattle.std.specs.Prelude.{◌≡◌, refl, [], Ok, Err}
use Rattle.std.proofs.Common.{sym, ap, ◌∙◌}
use Rattle.lattices.specs.Refusal.{Input, first_of, vector_checks}
use Rattle.engine.specs.Answers.{lent_in}
use Rattle.engine.specs.Laws.Answer.{finished, accepted-answer, refused-reduction}
use Rattle.engine.proofs.reduced.Goals as goal

pub returns-in-Ok : goal.returns-in-Ok
unfolding finished
returns-in-Ok c =
    let i : Input = record { numbers = c.args.numbers.now; d = c.args.d; m = c.args.m; target = [] } in
    let e : first_of vector_checks i ≡ 0 = sym c.in-Ok.ensures.value in
    ap (λ l. lent_in (Ok l) c.stepped.new.w) c.diagonal.ensures ∙ accepted-answer i e _ _ (c.in-Ok.ensures.reduced refl e)

pub returns-in-Err : goal.returns-in-Err
returns-in-Err c =
    let i : Input = record { numbers = c.args.numbers.now; d = c.args.d; m = c.args.m; target = [] } in
    ap (lent_in (Err c.in-Err.e)) c.nothing.ensures ∙ refused-reduction i c.in-Err.e c.in-Err.ensures.value
