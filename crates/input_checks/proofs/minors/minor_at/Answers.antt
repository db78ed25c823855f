-- Where as many coordinates are taken as there are vectors, the determinant; elsewhere the minor is zero.
use mathlib.Core.Path.{◌≡◌, sym, ap, ◌∙◌, subst}
use Prim.Native.Nat.{◌<◌}
use native.Mathlib.Omega.{arith}
use lib.ListN.{length, get_or, take, length-take}
use mir.Syntax.{w64}
use mir.Facts.{to_z-of_z}
use Rattle.lattices.specs.Refusal.{most_coordinates}
use Rattle.exterior_algebra.specs.Minors.{marks, volume_off}
use Rattle.input_checks.specs.Choice.{choice}
use Rattle.input_checks.specs.Choices.{length-choice}
use Rattle.input_checks.specs.FirstMinor.{places-below, places-taken}
use Rattle.input_checks.proofs.minors.minor_at.Goals as goal

pub minor_of-minor-requires-clause-by_index_2 : goal.minor_of-minor-requires-clause-by_index_2
minor_of-minor-requires-clause-by_index_2 c i h =
    let s = choice most_coordinates c.args.number in
    subst (λ l. get_or l i 0 < most_coordinates) (sym c.choice_of-count.ensures.1) (places-below s (length-choice most_coordinates c.args.number) i)

pub returns-then-count-d : goal.returns-then-count-d
returns-then-count-d c =
    let s = choice most_coordinates c.args.number in
    let count : marks s ≡ c.args.d = sym c.choice_of-count.ensures.0 ∙ c.if-count-d.true in (
      to_z-of_z {w = w64} (record { sfits = c.minor_of-minor.type_inv })
          ∙ c.minor_of-minor.ensures s count (ap (take c.args.d) c.choice_of-count.ensures.1 ∙ places-taken s (length-choice most_coordinates c.args.number) c.args.d count),
      c.choice_of-count.ensures.1,
    )

pub returns-else-count-d : goal.returns-else-count-d
returns-else-count-d c =
    let bs = take c.args.d c.args.b.now in
    let k : length bs ≡ c.args.d = omega (arith, length-take c.args.d c.args.b.now, c.requires.d_le_most_vectors, c.told-b) in
    (sym (volume_off bs (choice most_coordinates c.args.number) (λ e. c.if-count-d.false (c.choice_of-count.ensures.0 ∙ e ∙ k))), c.choice_of-count.ensures.1)
