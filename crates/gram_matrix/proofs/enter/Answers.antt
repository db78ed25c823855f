use mathlib.Core.Path.{◌≡◌, refl, sym, ap, ap₂, ◌∙◌}
use mathlib.Core.List.{[]}
use Prim.Native.Nat.{◌<◌}
use native.Mathlib.Numerals.{add-one}
use native.Mathlib.Omega.{arith}
use lib.ListN.{length, get_or, set}
use mir.Syntax.{w64}
use mir.Facts.{to_z-of_z}
use Rattle.row_operations.specs.Front.{front-suc, front-all, get_d_front}
use Rattle.gram_matrix.specs.Cross.{entered, get_d_entered, length-entered}
use borrow.Author.Rules.{rules}
use Rattle.gram_matrix.proofs.enter.Goals as goal

pub loop-i-init : goal.loop-i-init
loop-i-init c = (search rules, refl)

pub loop-i-preserved : goal.loop-i-preserved
loop-i-preserved c =
    let h : c.loop-i.i < length c.args.g.now = omega (arith, c.told-g) in
    let e : get_or c.loop-i.g c.loop-i.i [] ≡ get_or c.args.g.now c.loop-i.i [] = ap (λ t. get_or t c.loop-i.i []) c.loop-i.invariant.1 ∙ get_d_front c.loop-i.i c.loop-i.i (entered c.args.k c.args.r.now c.args.g.now) c.args.g.now [] (omega (arith, length-entered c.args.k c.args.r.now c.args.g.now)) (omega arith) (omega arith) in
    let z = to_z-of_z {w = w64} (record { sfits = c.g-1.given }) in
    (search rules, rw add-one (ap₂ (λ t a. set t c.loop-i.i a) c.loop-i.invariant.1 (ap₂ (λ a n. set a c.args.k n) e z ∙ sym (get_d_entered c.args.k c.args.r.now c.args.g.now c.loop-i.i)) ∙ front-suc c.loop-i.i (entered c.args.k c.args.r.now c.args.g.now) c.args.g.now [] (omega (arith, length-entered c.args.k c.args.r.now c.args.g.now)) h))

pub returns : goal.returns
returns c =
    c.loop-i.invariant.1 ∙ front-all c.loop-i.i (entered c.args.k c.args.r.now c.args.g.now) c.args.g.now (omega (arith, length-entered c.args.k c.args.r.now c.args.g.now, c.told-g)) (omega (arith, c.told-g))
