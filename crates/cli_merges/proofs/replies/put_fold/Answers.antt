-- The text of what came.
use Rattle.std.proofs.Common.{sym, ap, arith, length, length-take-le, replicate}
use Rattle.merge_rules.specs.Merge.{file_of}
use Rattle.merges.specs.Stored.{merge_in}
use Rattle.cli_merges.specs.Prefix.{folded-few}
use Rattle.cli_merges.proofs.replies.put_fold.Goals as goal

pub slice_bounds-bytes-end : goal.slice_bounds-bytes-end
slice_bounds-bytes-end c = let e = c.in-Ok.ensures in omega (arith, ap (λ o. o.written) e, ap (λ o. length o.lent) e, folded-few (file_of (merge_in c.args.merge)) (replicate 36868 0))

pub slice_bounds-put_decoded-end : goal.slice_bounds-put_decoded-end
slice_bounds-put_decoded-end c =
    let e = c.in-Ok.ensures in
    sym (length-take-le _ _ (omega (arith, ap (λ o. o.written) e, ap (λ o. length o.lent) e, folded-few (file_of (merge_in c.args.merge)) (replicate 36868 0))))
