use Rattle.std.proofs.Common.{arith, ap}
use Rattle.catalogue_standing.specs.ReducedEntries.{filled-cut}
use Rattle.catalogue_fold.specs.Steps.{full, passed_over, printed-next}
use Rattle.catalogue_fold.proofs.folded.Goals.{then-standing-k, else-standing-k}
use Rattle.catalogue_fold.proofs.folded.Goals as goal

pub carried_ways-ways-requires-clause-numbers_value : goal.carried_ways-ways-requires-clause-numbers_value
carried_ways-ways-requires-clause-numbers_value c = filled-cut 0 (λ e. e.number) c.args.entries.now c.requires.was_read.few c.numbers-numbers.ensures

pub printed-requires : goal.printed-requires
printed-requires c = full c.args.entries.now c.requires.was_read c.requires.hold_reduced c.requires.standing_places c.loop-k.k (omega arith)

pub loop-k-preserved : goal.loop-k-preserved
loop-k-preserved c =
    let l = c.args.entries.now in
    elim c.if-standing-k.branch [
      | then-standing-k w ↦ printed-next l c.requires.was_read c.requires.hold_reduced c.requires.standing_places c.loop-k.k (omega arith) c.loop-k.invariant w.if-standing-k.true c.carried_ways-ways.ensures
          w.printed.ensures (ap (λ f. f.entries) w.folded-is) (ap (λ f. f.count) w.folded-is)
      | else-standing-k w ↦ passed_over l c.requires.was_read c.requires.hold_reduced c.requires.standing_places c.loop-k.k (omega arith) c.loop-k.invariant w.if-standing-k.false
          (ap (λ f. f.entries) w.folded-is) (ap (λ f. f.count) w.folded-is)
    ]
