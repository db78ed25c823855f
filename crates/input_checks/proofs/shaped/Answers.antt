-- Each check in turn: what was passed and what was found, as a proof of the first check that applies.
use mathlib.Core.List.{[]}
use mathlib.Core.Bool.{not, false}
use mathlib.Core.Path.{◌≡◌, sym, ap, ◌∙◌}
use borrow.Author.Tests.{not-false, eq-eqb}
use Rattle.lattices.specs.Laws.Refusal.{one-to}
use Rattle.lattices.specs.Refusal.{Input, basis, vector_checks, one_to, most_vectors, most_coordinates}
use Rattle.integers.specs.Every.{any}
use Rattle.input_checks.specs.Any.{beyond}
use Rattle.input_checks.specs.First.{found, here, later}
use Rattle.input_checks.specs.Shape.{beyond-rows, beyond-long}
use Rattle.input_checks.proofs.shaped.Goals as goal

pub returns-then-any_beyond-clause-value : goal.returns-then-any_beyond-clause-value
returns-then-any_beyond-clause-value c =
    let given : Input = record { numbers = c.args.numbers.now; d = c.args.d; m = c.args.m; target = [] } in
    let counted : not (one_to most_vectors c.args.d) ≡ false = ap not (sym c.one_to.ensures) ∙ c.if-not-one_to.false-raw in
    let wide : not (one_to most_coordinates c.args.m) ≡ false = ap not (sym c.one_to-2.ensures) ∙ c.if-not-one_to-2.false-raw in
    let beyonds : any (any beyond) (basis given) ≡ c.any_beyond.result = beyond-rows c.args.d c.args.m c.args.numbers.now c.if-numbers-d.false ∙ sym c.any_beyond.ensures in
    λ h. found given vector_checks (later counted (later wide (later (ap not (eq-eqb _ _ c.if-numbers-d.false)) (here (beyond-long (basis given) (beyonds ∙ c.if-any_beyond.true))))))

pub returns-clause-shaped : goal.returns-clause-shaped
returns-clause-shaped c =
    let given : Input = record { numbers = c.args.numbers.now; d = c.args.d; m = c.args.m; target = [] } in
    let counted : not (one_to most_vectors c.args.d) ≡ false = ap not (sym c.one_to.ensures) ∙ c.if-not-one_to.false-raw in
    let wide : not (one_to most_coordinates c.args.m) ≡ false = ap not (sym c.one_to-2.ensures) ∙ c.if-not-one_to-2.false-raw in
    let beyonds : any (any beyond) (basis given) ≡ c.any_beyond.result = beyond-rows c.args.d c.args.m c.args.numbers.now c.if-numbers-d.false ∙ sym c.any_beyond.ensures in
    λ z. record {
      few = (one-to most_vectors _ (not-false _ counted)).1;
      narrow = (one-to most_coordinates _ (not-false _ wide)).1;
      count = c.if-numbers-d.false;
      small = beyonds ∙ c.if-any_beyond.false;
      rest = λ p. later counted (later wide (later (ap not (eq-eqb _ _ c.if-numbers-d.false)) p));
    }
