-- What the checks accept may be reduced.
use Rattle.std.specs.Prelude.{◌≡◌, refl, []}
use Rattle.std.proofs.Common.{sym}
use Rattle.lattices.specs.Refusal.{Input, first_of, vector_checks}
use Rattle.greedy_reduction.specs.Accepted.{accepted}
use Rattle.engine.specs.Laws.Answer.{begins, outcome_of}
use Rattle.engine.proofs.stepped.Goals as goal

pub take_steps-requires : goal.take_steps-requires
take_steps-requires c =
    let i : Input = record { numbers = c.args.numbers.now; d = c.args.d; m = c.args.m; target = [] } in
    let e : first_of vector_checks i ≡ 0 = sym c.in_ok-begun.ensures.value in
    let b = c.in_ok-begun.ensures.begun refl in
    record { d_bound = (accepted i e).most; reducible = begins i e (record { count = refl; rows = b.0 }) b.1 refl }

pub returns-clause-reduced : goal.returns-clause-reduced
returns-clause-reduced c = λ z e.
    let i : Input = record { numbers = c.args.numbers.now; d = c.args.d; m = c.args.m; target = [] } in
    let b = c.in_ok-begun.ensures.begun refl in
    outcome_of i e (record { count = refl; rows = b.0 }) b.1 refl c.take_steps.ensures
