use mathlib.Core.Path.{◌≡◌, refl, ap, ap₂, ◌∙◌}
use mathlib.Core.List.{[], ◌++◌, map}
use native.Mathlib.Omega.{arith}
use lib.ListN.{set, take, drop}
use Rattle.input_checks.specs.Choice.{four_at}
use Rattle.input_checks.specs.Determinant.{unit_rows}
use Rattle.input_checks.specs.FirstMinor.{put_next}
use borrow.Author.Rules.{rules}
use Rattle.input_checks.proofs.minors.square.Goals as goal

pub loop-i-init : goal.loop-i-init
loop-i-init c = (search rules, refl)

pub loop-i-preserved : goal.loop-i-preserved
loop-i-preserved c =
    let l = c in
    let a = l.args in
    let f = four_at a.at.now in (
      search rules,
      ap₂ (λ t x. set t l.loop-i.i x) l.loop-i.invariant.1 c.pick.ensures ∙ put_next f [] a.b.now unit_rows l.loop-i.i (omega (arith, c.loop-i-test.true, l.requires)) (omega (arith, c.loop-i-test.true, l.requires.d_le_most_vectors)),
    )

pub returns : goal.returns
returns c =
    let l = c in
    let a = l.args in
    let end : l.loop-i.i ≡ a.d = omega arith in
    l.loop-i.invariant.1 ∙ ap (λ i. map (four_at a.at.now) (take i a.b.now) ++ drop i unit_rows) end
