-- The tables begin as units.
use Rattle.std.proofs.Common.{subst}
use Rattle.greedy_steps.specs.Repeat.{Reducible, Outcome}
use Rattle.engine.proofs.take_steps.Goals as goal

pub reduce_first-requires-clause-reducible : goal.reduce_first-requires-clause-reducible
reduce_first-requires-clause-reducible c = rw c.unit_table-e.ensures c.requires.reducible

pub returns : goal.returns
returns c = subst (λ u. (p : Reducible c.args.d 0 c.args.g.now c.args.w.now.vectors u u) → Outcome p.kind c.args.d 0 p.rows c.reduce_first.new.g c.reduce_first.result) c.unit_table-e.ensures c.reduce_first.ensures
