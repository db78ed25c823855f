-- The first coordinates, or any.
use mathlib.Core.Path.{◌≡◌, sym, ap, ◌∙◌}
use Prim.Native.Nat.{◌≤◌}
use native.Mathlib.Omega.{arith}
use lib.ListN.{length, take, length-take}
use mir.Syntax.{w64}
use mir.Val.{of_z}
use mir.Facts.{to_z-of_z}
use Rattle.lattices.specs.Refusal.{most_coordinates}
use Rattle.input_checks.specs.Choice.{firsts, counts}
use Rattle.input_checks.specs.Choices.{places-firsts, length-firsts, marks-firsts, counts-at}
use Rattle.input_checks.proofs.minors.first_minor.Goals as goal

-- RECORD ['d_le_most_vectors', 'b_len', 'by_index']
pub leading_minor-minor-requires : goal.leading_minor-minor-requires
leading_minor-minor-requires c = c.requires

pub returns-then-minor-ne0 : goal.returns-then-minor-ne0
returns-then-minor-ne0 c =
    let d = c.args.d in
    let few : d ≤ most_coordinates = omega (arith, c.requires.d_le_most_vectors) in
    let n : length (take d c.args.b.now) ≡ d = omega (arith, length-take d c.args.b.now, c.told-b, c.requires.d_le_most_vectors) in
    let held = to_z-of_z {w = w64} (record { sfits = c.leading_minor-minor.type_inv }) in (
      λ e. c.if-minor-ne0.true (ap (of_z w64) (sym held ∙ e)),
      record {
        index = firsts most_coordinates d;
        wide = length-firsts most_coordinates d;
        count = marks-firsts most_coordinates d few ∙ sym n;
        taken = ap (λ k. take k (counts 0 most_coordinates)) n ∙ sym (places-firsts 0 most_coordinates d few);
        below = λ i h. omega (arith, counts-at 0 most_coordinates i (omega (arith, h)), h);
        minor = held ∙ c.leading_minor-minor.ensures;
      },
    )
