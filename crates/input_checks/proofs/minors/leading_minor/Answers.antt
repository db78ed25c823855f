-- The first coordinates are a choice.
use mathlib.Core.Path.{sym, ◌∙◌}
use native.Mathlib.Omega.{arith}
use mir.Syntax.{w64}
use mir.Facts.{to_z-of_z}
use Rattle.lattices.specs.Refusal.{most_coordinates}
use Rattle.input_checks.specs.Choice.{firsts}
use Rattle.input_checks.specs.Choices.{places-firsts, marks-firsts}
use Rattle.input_checks.proofs.minors.leading_minor.Goals as goal

pub returns : goal.returns
returns c =
    let d = c.args.d in
    to_z-of_z {w = w64} (record { sfits = c.minor_of.type_inv })
    ∙ c.minor_of.ensures (firsts most_coordinates d) (marks-firsts most_coordinates d (omega (arith, c.requires.d_le_most_vectors))) (sym (places-firsts 0 most_coordinates d (omega (arith, c.requires.d_le_most_vectors))))
