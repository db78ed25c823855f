-- Both checks of a target in turn.
use mathlib.Core.List.{[]}
use mathlib.Core.Bool.{not}
use mathlib.Core.Path.{◌≡◌, sym, ap, ◌∙◌}
use native.Mathlib.Omega.{arith}
use borrow.Author.Tests.{eq-eqb}
use Rattle.lattices.specs.Refusal.{Input, target_checks, too_long, most_coordinates}
use Rattle.input_checks.specs.First.{found, none, here, later}
use Rattle.input_checks.specs.Padded.{too_long-padded}
use Rattle.input_checks.proofs.target.Goals as goal

pub returns-then-long-clause-value : goal.returns-then-long-clause-value
returns-then-long-clause-value c =
    let given : Input = record { numbers = []; d = 0; m = c.args.m; target = c.args.numbers.now } in
    let long : too_long c.args.numbers.now ≡ c.long.result = sym (c.long.ensures ∙ ap too_long c.vector-t.ensures ∙ too_long-padded most_coordinates c.args.numbers.now (omega arith)) in
    found given target_checks (later (ap not (eq-eqb _ _ c.if-numbers-m.false)) (here (long ∙ c.if-long.true)))

pub returns-clause-value : goal.returns-clause-value
returns-clause-value c =
    let given : Input = record { numbers = []; d = 0; m = c.args.m; target = c.args.numbers.now } in
    let long : too_long c.args.numbers.now ≡ c.long.result = sym (c.long.ensures ∙ ap too_long c.vector-t.ensures ∙ too_long-padded most_coordinates c.args.numbers.now (omega arith)) in
    found given target_checks (later (ap not (eq-eqb _ _ c.if-numbers-m.false)) (later (long ∙ c.if-long.false) none))
