use mathlib.Core.Path.{◌≡◌, sym, ap, ◌∙◌, subst}
use mathlib.Core.Logic.{◌≢◌}
use Prim.Native.Nat.{◌^◌, ◌<◌}
use native.Mathlib.Omega.{arith}
use lib.IntN.{pos}
use lib.ListN.{length, get_or, take}
use mir.Syntax.{w64}
use mir.Val.{to_z, of_z}
use mir.Facts.{to_z-of_z}
use borrow.Author.Rules.{rules}
use Rattle.lattices.specs.Volume.{volume}
use Rattle.lattices.specs.Refusal.{most_coordinates}
use Rattle.input_checks.specs.Choice.{choice}
use Rattle.input_checks.specs.Choices.{length-choice}
use Rattle.input_checks.specs.FirstMinor.{count_of, places-below, places-taken, every_choice, one_more}
use Rattle.input_checks.proofs.minors.other_minor.Goals as goal

pub loop-number-init : goal.loop-number-init
loop-number-init c = (search rules, λ k h. absurd (omega arith))

pub returns-then-m-ne0 : goal.returns-then-m-ne0
returns-then-m-ne0 c =
    let bs = take c.args.d c.args.b.now in
    let s = choice most_coordinates c.loop-number.number in
    let wide = length-choice most_coordinates c.loop-number.number in
    let not-zero : c.minor_at-m.result.minor ≢ pos 0 = λ e. c.if-m-ne0.true (ap (of_z w64) e) in
    let count = count_of bs s (λ e. not-zero (c.minor_at-m.ensures.0 ∙ e)) in (
      not-zero,
      record { index = s; wide = wide; count = count; taken = ap (take (length bs)) c.minor_at-m.ensures.1 ∙ places-taken s wide (length bs) count; below = λ i h. subst (λ l. get_or l i 0 < most_coordinates) (sym c.minor_at-m.ensures.1) (places-below s wide i); minor = c.minor_at-m.ensures.0 },
    )

pub loop-number-preserved : goal.loop-number-preserved
loop-number-preserved c =
    let plain : to_z w64 (of_z w64 c.minor_at-m.result.minor) ≡ c.minor_at-m.result.minor =
    to_z-of_z {w = w64} {z = c.minor_at-m.result.minor} (record { sfits = c.minor_at-m.type_inv.1.1.1.0.1 }) in
    let f = c in
    let l = f in
    let bs = take l.args.d l.args.b.now in
    (search rules, one_more (λ k. volume bs (choice most_coordinates k) ≡ pos 0) l.loop-number.number l.loop-number.invariant.1 (sym f.minor_at-m.ensures.0 ∙ sym (plain) ∙ ap (to_z w64) c.if-m-ne0.false))

pub returns : goal.returns
returns c =
    let end : c.loop-number.number ≡ 2 ^ most_coordinates = omega arith in
    every_choice (take c.args.d c.args.b.now) (λ k h. c.loop-number.invariant.1 k (omega (arith, end, h)))
