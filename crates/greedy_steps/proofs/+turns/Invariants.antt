-- `turns` goes through the turns of the repetition, on whatever rows the tables belong to. The number of vectors falls at each call.
use mathlib.Core.Path.{◌≡◌}
use lib.IntN.{nat_abs}
use lib.ListN.{length}
use Rattle.greedy_steps.specs.Repeat.{Reducible, Going, trace}
use Rattle.greedy_steps.proofs.+turns.Given as goal

abbrev pub decreases-turns : goal.decreases-turns
decreases-turns l = l.n

abbrev pub invariant-loop-g : goal.invariant-loop-g
invariant-loop-g l = (length l.g ≡ 4) × ((p : Reducible l.n l.initial.w.passes l.initial.g l.initial.w.vectors l.initial.w.u l.initial.w.v) → Going p.kind l.n l.initial.w.passes p.rows l.g l.w.vectors l.w.u l.w.v l.w.passes)

abbrev pub decreases-loop-g : goal.decreases-loop-g
decreases-loop-g l = nat_abs (trace l.n l.g)
