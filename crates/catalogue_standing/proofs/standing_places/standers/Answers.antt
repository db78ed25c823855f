-- The first of its lattice, or one that follows it.
use Rattle.std.proofs.Common.{◌≤◌, arith, length, get_or}
use Rattle.catalogue_standing.specs.Standers.{Stander, shared_with, standers_more}
use Rattle.catalogue_standing.proofs.standing_places.standers.Goals as goal
use Rattle.catalogue_standing.proofs.standing_places.standers.Goals.{then-f-k, else-f-k}

pub loop-k-preserved : goal.loop-k-preserved
loop-k-preserved c =
    let firsts = c.args.firsts.now in
    let marks = c.args.marks.now in
    let n = length c.args.firsts.now in
    let k = c.loop-k.k in
    let below : get_or firsts k 0 ≤ k = c.requires.by_index k (omega arith) in
    let next : Stander firsts marks n k c.if-f-k.s = elim c.if-f-k.branch [
      | then-f-k w ↦ rw w.s-is w.stander-s.ensures
      | else-f-k w ↦ rw w.s-is (shared_with firsts marks n {k = k} (omega arith) (c.loop-k.invariant.at (get_or firsts k 0) (omega (arith, below, w.if-f-k.false))))
    ] in
    standers_more firsts marks n c.loop-k.invariant (omega arith) next
