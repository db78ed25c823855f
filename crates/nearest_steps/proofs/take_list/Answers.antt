use mathlib.Core.Path.{◌≡◌, subst}
use mathlib.Core.List.{[]}
use Prim.Native.Nat.{ℕ}
use native.Mathlib.Omega.{arith}
use borrow.Author.Rules.{rules}
use lib.ListN.{length, get_or}
use lib.IntN.{◌*ℤ◌}
use mir.Syntax.{w64}
use mir.Val.{SFits}
use mir.Facts.{to_z-of_z}
use Rattle.integers.specs.Size.{Within, within-mul}
use Rattle.lattices.specs.Vector.{nth}
use Rattle.nearest_steps.specs.Stepped.{TakenFirst, taken_none, taken_next, taken-all, taken-small}
use Rattle.nearest_steps.proofs.take_list.Goals as goal

pub loop-j-init : goal.loop-j-init
loop-j-init c = (search rules, taken_none _ _ _ _)

pub take_multiple-requires : goal.take_multiple-requires
take_multiple-requires c =
    let factor : SFits w64 (nth c.args.e.now c.loop-j.j) =
    record { sfits = c.take_multiple-arg-1.given } in
    let long : length c.args.e.now ≡ 3 =
    search rules in
    -- what a turn takes from a place
    let turn : (i : ℕ) → Within 400000000 (nth c.args.e.now c.loop-j.j *ℤ nth (get_or c.args.g.now c.loop-j.j []) i) =
    λ i. within-mul {A = 1} (c.requires.bounded_2 c.loop-j.j) (c.requires.sized.gram c.loop-j.j i) in
    let f = factor in
    let b = (c.requires.bounded_2 c.loop-j.j).within in simp (to_z-of_z, f) (record {
      i_bound = search rules;
      q_bound = omega (arith, taken-small c.loop-j.invariant.1 c.requires.bounded_2 c.loop-j.j, (c.requires.bounded c.loop-j.j).within, b);
      by_index = λ i. omega (arith, (turn i).within, c.loop-j.invariant.1.small i, (c.requires.sized.products i).within);
    })

pub loop-j-preserved : goal.loop-j-preserved
loop-j-preserved c =
    let factor : SFits w64 (nth c.args.e.now c.loop-j.j) =
    record { sfits = c.take_multiple-arg-1.given } in
    let long : length c.args.e.now ≡ 3 =
    search rules in
    -- what a turn takes from a place
    let turn : (i : ℕ) → Within 400000000 (nth c.args.e.now c.loop-j.j *ℤ nth (get_or c.args.g.now c.loop-j.j []) i) =
    λ i. within-mul {A = 1} (c.requires.bounded_2 c.loop-j.j) (c.requires.sized.gram c.loop-j.j i) in
    let f = factor in
    let t = simp (to_z-of_z, f) at c.take_multiple.ensures in
    (search rules, taken_next (search rules) c.told-x long c.told-r turn c.loop-j.invariant.1 t.r_after (search rules) t.x_after)

pub returns : goal.returns
returns c =
    let long : length c.args.e.now ≡ 3 =
    search rules in
    let all : c.loop-j.j ≡ 3 =
    omega (arith, c.loop-j-test.false) in
    let t = taken-all long (subst (λ j. TakenFirst j c.args.g.now c.args.r.now c.args.x.now c.args.e.now c.loop-j.r c.loop-j.x) all c.loop-j.invariant.1) in record {
      x_after = t.0;
      new = t.1;
    }
