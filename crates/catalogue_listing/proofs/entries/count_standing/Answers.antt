use Rattle.std.proofs.Common.{◌≡◌, ap, ◌∙◌, ◌+◌, arith}
use Rattle.catalogue_listing.specs.Counts.{own_places, own-most, own_more, own_same}
use Rattle.catalogue_listing.proofs.entries.count_standing.Goals.{then-place-k, else-place-k}
use Rattle.catalogue_listing.proofs.entries.count_standing.Goals as goal

pub overflow_add-n : goal.overflow_add-n
overflow_add-n c =
    let n : c.loop-k.n ≡ own_places c.args.standing.now c.loop-k.k = c.loop-k.invariant in
    omega (arith, n, own-most c.args.standing.now c.loop-k.k)

pub loop-k-preserved : goal.loop-k-preserved
loop-k-preserved c =
    let n : c.loop-k.n ≡ own_places c.args.standing.now c.loop-k.k = c.loop-k.invariant in
    elim c.if-place-k.branch [
      | then-place-k w ↦ w.n-is ∙ ap (λ n. n + 1) n ∙ own_more c.args.standing.now c.loop-k.k w.if-place-k.true
      | else-place-k w ↦ w.n-is ∙ n ∙ own_same c.args.standing.now c.loop-k.k w.if-place-k.false
    ]
