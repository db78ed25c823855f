-- `along` takes the nearest multiple of one vector away.
use mathlib.Core.Path.{◌≡◌, sym, ap, ◌∙◌}
use mathlib.Core.List.{[]}
use native.Mathlib.Omega.{arith}
use lib.IntN.{pos, ◌*ℤ◌, ◌-ℤ◌}
use lib.ListN.{get_or}
use lib.Signed.{◌<ℤ◌}
use borrow.Author.Rules.{rules}
use mir.Syntax.{w64}
use mir.Val.{SFits, of_z, to_z}
use mir.Facts.{to_z-of_z}
use Rattle.integers.specs.Size.{Within, within-mul}
use Rattle.lattices.specs.Vector.{nth}
use Rattle.row_operations.specs.Minus.{nth-minus}
use Rattle.nearest_steps.specs.Numbers.{Sized}
use Rattle.nearest_steps.specs.State.{sized, diagonal}
use Rattle.nearest_steps.specs.Multiples.{Still, along_none, along_some}
use Rattle.nearest_steps.proofs.along.Goals as goal

pub multiple-q-requires : goal.multiple-q-requires
multiple-q-requires c =
    -- the sizes, and the squared length that is not 0
    let size : Sized c.args.g.now c.args.r.now =
    sized c.requires.known.meant in
    let some : pos 0 <ℤ nth (get_or c.args.g.now 0 []) 0 =
    diagonal c.requires.known.meant 0 (omega arith) in
    -- the square and the inner product that the call reads
    let square : SFits w64 (nth (get_or c.args.g.now 0 []) 0) =
    record { sfits = c.multiple-arg-1.given } in
    let inner : SFits w64 (nth c.args.r.now 0) =
    record { sfits = c.multiple-arg-2-1.given } in
    simp (to_z-of_z, square, inner) (record {
      within = size.gram 0 0;
      pos_bound = some;
      within_2 = size.products 0;
    })

pub returns-else-q-ne0 : goal.returns-else-q-ne0
returns-else-q-ne0 c =
    let factor : SFits w64 c.multiple-q.result =
    record { sfits = c.multiple-q.type_inv } in
    -- the square and the inner product that the call reads
    let square : SFits w64 (nth (get_or c.args.g.now 0 []) 0) =
    record { sfits = c.multiple-arg-1.given } in
    let inner : SFits w64 (nth c.args.r.now 0) =
    record { sfits = c.multiple-arg-2-1.given } in
    -- the multiple that was found
    let found : let n = nth (get_or c.args.g.now 0 []) 0 in Within 5000000000 c.multiple-q.result × Still n (nth c.args.r.now 0 -ℤ c.multiple-q.result *ℤ n) =
    let f = simp (to_z-of_z, square, inner) at c.multiple-q.ensures in (f.within_3, f.still) in
    let z : c.multiple-q.result ≡ pos 0 = sym (to_z-of_z factor) ∙ ap (to_z w64) c.if-q-ne0.false in
    along_none _ _ _ c.told-x c.multiple-q.result found.1 z

pub take_multiple-requires : goal.take_multiple-requires
take_multiple-requires c =
    -- the sizes, and the squared length that is not 0
    let size : Sized c.args.g.now c.args.r.now =
    sized c.requires.known.meant in
    let factor : SFits w64 c.multiple-q.result =
    record { sfits = c.multiple-q.type_inv } in
    -- the square and the inner product that the call reads
    let square : SFits w64 (nth (get_or c.args.g.now 0 []) 0) =
    record { sfits = c.multiple-arg-1.given } in
    let inner : SFits w64 (nth c.args.r.now 0) =
    record { sfits = c.multiple-arg-2-1.given } in
    -- the multiple that was found
    let found : let n = nth (get_or c.args.g.now 0 []) 0 in Within 5000000000 c.multiple-q.result × Still n (nth c.args.r.now 0 -ℤ c.multiple-q.result *ℤ n) =
    let f = simp (to_z-of_z, square, inner) at c.multiple-q.ensures in (f.within_3, f.still) in
    simp (to_z-of_z, factor) (record {
      i_bound = search rules;
      q_bound = omega (arith, found.0.within, (c.requires.bounded 0).within);
      by_index = λ j. omega (arith, (within-mul found.0 (size.gram 0 j)).within, (size.products j).within);
    })

pub returns-then-q-ne0 : goal.returns-then-q-ne0
returns-then-q-ne0 c =
    let some : pos 0 <ℤ nth (get_or c.args.g.now 0 []) 0 =
    diagonal c.requires.known.meant 0 (omega arith) in
    let factor : SFits w64 c.multiple-q.result =
    record { sfits = c.multiple-q.type_inv } in
    -- the square and the inner product that the call reads
    let square : SFits w64 (nth (get_or c.args.g.now 0 []) 0) =
    record { sfits = c.multiple-arg-1.given } in
    let inner : SFits w64 (nth c.args.r.now 0) =
    record { sfits = c.multiple-arg-2-1.given } in
    -- the multiple that was found
    let found : let n = nth (get_or c.args.g.now 0 []) 0 in Within 5000000000 c.multiple-q.result × Still n (nth c.args.r.now 0 -ℤ c.multiple-q.result *ℤ n) =
    let f = simp (to_z-of_z, square, inner) at c.multiple-q.ensures in (f.within_3, f.still) in
    let f = found in
    let t = simp (to_z-of_z, factor) at c.take_multiple.ensures in
    rw (t.x_after, t.r_after) (along_some _ _ _ c.told-x c.multiple-q.result f.1 some (λ z. c.if-q-ne0.true (ap (of_z w64) z)) f.0 (nth-minus _ _ _ _)
    (search rules))
