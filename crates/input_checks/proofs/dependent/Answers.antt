-- The vectors are dependent exactly where no minor is other than zero.
use mathlib.Core.Path.{sym, ap, ◌∙◌}
use lib.ListN.{take}
use mir.Syntax.{w64}
use mir.Val.{of_z}
use borrow.Author.Tests.{ne_eqb}
use Rattle.lattices.specs.Refusal.{most_coordinates}
use Rattle.exterior_algebra.specs.Minors.{independent_of_minor}
use Rattle.input_checks.specs.Choice.{firsts}
use Rattle.input_checks.specs.Choices.{length-firsts}
use Rattle.input_checks.specs.FirstMinor.{found-none}
use Rattle.input_checks.proofs.dependent.Goals as goal

pub returns-then-leading_minor-eq0 : goal.returns-then-leading_minor-eq0
returns-then-leading_minor-eq0 c = found-none (take c.args.d c.args.b.now) c.other_minor.result c.is_none.result c.other_minor.ensures c.is_none.ensures

pub returns-else-leading_minor-eq0 : goal.returns-else-leading_minor-eq0
returns-else-leading_minor-eq0 c =
    let d = c.args.d in
    ne_eqb _ _ c.if-leading_minor-eq0.false ∙ sym (independent_of_minor most_coordinates (take d c.args.b.now) (firsts most_coordinates d) (length-firsts most_coordinates d) (λ e. c.if-leading_minor-eq0.false (ap (of_z w64) (c.leading_minor.ensures ∙ e))))
