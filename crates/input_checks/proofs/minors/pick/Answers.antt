use mathlib.Core.Path.{◌≡◌, refl, ap, ap₂, ◌∙◌}
use mathlib.Core.List.{map}
use lib.ListN.{take, set}
use Rattle.lattices.specs.Answer.{padded}
use Rattle.lattices.specs.Vector.{nth}
use Rattle.integers.specs.FilledLaws.{filled_more}
use native.Mathlib.Omega.{arith}
use lib.IntN.{pos}
use mir.Facts.{to_z-of_z}
use mir.Syntax.{w64}
use borrow.Author.Rules.{rules}
use Rattle.input_checks.proofs.minors.pick.Goals as goal

pub loop-c-init : goal.loop-c-init
loop-c-init c = (search rules, refl)

pub offset_bounds-v-at : goal.offset_bounds-v-at
offset_bounds-v-at c = let h = c.requires c.loop-c.c (search rules) in omega (arith, h)

pub bounds-v-at : goal.bounds-v-at
bounds-v-at c = c.requires c.loop-c.c (search rules)

pub loop-c-preserved : goal.loop-c-preserved
loop-c-preserved c =
    let a = c.args in
    let l = c.loop-c in (
      search rules,
      ap₂ (λ p x. set p l.c x) l.invariant.1 (to_z-of_z {w = w64} (record { sfits = c.p-in-loop-c-1.given }))
          ∙ filled_more (pos 0) 4 (nth a.v.now) a.at.now l.c 0 (search rules) (search rules),
    )

pub returns : goal.returns
returns c =
    let a = c.args in
    let end : c.loop-c.c ≡ 4 = omega arith in
    c.loop-c.invariant.1 ∙ ap (λ c. padded 4 (map (nth a.v.now) (take c a.at.now))) end
