use mathlib.Core.Path.{◌≡◌, sym, ap, ◌∙◌}
use Prim.Native.Nat.{suc}
use native.Mathlib.Nat.{le_trans}
use native.Mathlib.Numerals.{add-one}
use lib.ListN.{get_or}
use lib.IntN.{pos}
use mir.Syntax.{w64}
use mir.Val.{SFits}
use mir.Facts.{to_z-of_z}
use Rattle.row_operations.specs.Loss.{left, left-none, left-suc, left-room}
use borrow.Author.Rules.{rules}
use Rattle.row_operations.proofs.lose_combination.Goals as goal

pub loop-j-init : goal.loop-j-init
loop-j-init g c = (search rules, sym (left-none c.args.x.now c.args.t.now c.args.r.now))

pub lose-requires : goal.lose-requires
lose-requires g c =
    let fits : SFits w64 (get_or c.args.x.now c.loop-j.j (pos 0)) = record { sfits = c.lose-arg-in-loop-j-1.given } in
    (search rules, λ i. simp (c.loop-j.invariant.1, to_z-of_z, fits) (le_trans (left-room c.args.x.now c.args.t.now c.args.r.now c.args.d c.loop-j.j i (search rules)) (c.requires.by_index i)))

pub loop-j-preserved : goal.loop-j-preserved
loop-j-preserved g c =
    let fits : SFits w64 (get_or c.args.x.now c.loop-j.j (pos 0)) = record { sfits = c.lose-arg-in-loop-j-1.given } in
    let e : c.lose.new.a ≡ left c.args.x.now c.args.t.now c.args.r.now (suc c.loop-j.j) =
    c.lose.ensures ∙ simp (c.loop-j.invariant.1, to_z-of_z, fits) (left-suc c.args.x.now c.args.t.now c.args.r.now c.loop-j.j (search rules) (search rules)) in
    (search rules, rw add-one e)

pub returns : goal.returns
returns g c =
    let e : c.loop-j.j ≡ c.args.d = search rules in
    c.loop-j.invariant.1 ∙ ap (left c.args.x.now c.args.t.now c.args.r.now) e
