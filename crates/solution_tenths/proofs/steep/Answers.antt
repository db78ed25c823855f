use mathlib.Core.Path.{subst}
use native.Mathlib.Omega.{arith}
use borrow.Author.Rules.{rules}
use borrow.Author.Tests.{not-true, not-false}
use Rattle.solution_tenths.specs.Rounding.{back}
use Rattle.solution_tenths.specs.Tests.{Level, level-stored, flat-next, steep-at, steep-none}
use Rattle.solution_tenths.proofs.steep.Goals as goal

pub loop-i-init : goal.loop-i-init
loop-i-init c = (search rules, λ j h. absurd (omega arith))

pub level-requires : goal.level-requires
level-requires c = record {
  within = back tt (c.requires.by_index _ _);
  within_2 = back tt (c.requires.bounded _);
}

pub returns-then-not-level : goal.returns-then-not-level
returns-then-not-level c =
    steep-at _ _ _ (search rules) c.loop-i.invariant.1
    (level-stored (c.requires.by_index _ _) (c.requires.bounded _) (subst (Level _ _) (not-true _ c.if-not-level.true-raw) c.level.ensures))

pub loop-i-preserved : goal.loop-i-preserved
loop-i-preserved c = (
  search rules,
  flat-next c.args.g.now c.args.h.now _ c.loop-i.invariant.1
      (level-stored (c.requires.by_index _ _) (c.requires.bounded _) (subst (Level _ _) (not-false _ c.if-not-level.false-raw) c.level.ensures)),
)

pub returns : goal.returns
returns c = steep-none _ _ _ (search rules) c.loop-i.invariant.1
