use mathlib.Core.Path.{subst}
use mathlib.Core.Logic.{inl}
use mathlib.Core.Bool.{false}
use native.Mathlib.Omega.{arith}
use Rattle.nearest_steps.specs.Meant.{Known}
use Rattle.nearest_steps.specs.Moves.{Moved, moved_none, moved_then}
use Rattle.nearest_steps.specs.State.{known-moved}
use Rattle.nearest_steps.specs.Since.{small-since, descends-since}
use Rattle.nearest_steps.proofs.descend.Goals as goal

-- at the start nothing is taken
pub loop-init : goal.loop-init
loop-init c = moved_none 4 _ _ _ _ c.told-x

pub step-requires : goal.step-requires
step-requires c =
    let known : Known c.args.k c.args.g.now c.args.r.now =
    c.requires.known in
    record {
      k_bound = c.requires.k_bound;
      known = known-moved known c.loop.invariant;
      bounded = λ i. record { within = omega (arith, small-since c.told-x c.loop.invariant (omega (arith, c.requires.k_bound)) (omega (arith, c.requires.k_bound)) known i, (c.requires.bounded i).within) };
    }

pub returns : goal.returns
returns c =
    let known : Known c.args.k c.args.g.now c.args.r.now =
    c.requires.known in
    -- the steps so far and the one just made
    let whole : Moved 4 c.args.k c.args.g.now c.args.r.now c.args.x.now c.step.new.r c.step.new.x false =
    moved_then c.args.k c.args.g.now c.args.r.now known false (λ e. inl e) c.told-x c.loop.invariant c.step.ensures.moves in
    record { moves = whole; none = c.step.ensures.none c.loop-test.false }

pub loop-smaller : goal.loop-smaller
loop-smaller c =
    let known : Known c.args.k c.args.g.now c.args.r.now =
    c.requires.known in
    descends-since (omega (arith, c.requires.k_bound)) (omega (arith, c.requires.k_bound)) known c.told-x c.loop.invariant (subst (Moved 4 _ _ _ _ _ _) c.loop-test.true c.step.ensures.moves)

pub loop-preserved : goal.loop-preserved
loop-preserved c =
    let known : Known c.args.k c.args.g.now c.args.r.now =
    c.requires.known in
    -- the steps so far and the one just made
    let whole : Moved 4 c.args.k c.args.g.now c.args.r.now c.args.x.now c.step.new.r c.step.new.x false =
    moved_then c.args.k c.args.g.now c.args.r.now known false (λ e. inl e) c.told-x c.loop.invariant c.step.ensures.moves in
    whole
