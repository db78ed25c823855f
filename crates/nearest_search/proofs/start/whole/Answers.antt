-- `whole` rounds number by number.
use mathlib.Core.Path.{refl, ◌∙◌}
use native.Mathlib.Omega.{arith}
use lib.ListN.{length-set}
use mir.Syntax.{w64}
use mir.Facts.{to_z-of_z}
use Rattle.nearest_search.specs.Taking.{rounded-none, rounded-next}
use Rattle.nearest_search.proofs.start.whole.Goals as goal

pub loop-i-init : goal.loop-i-init
loop-i-init c = (refl, rounded-none 0)

pub loop-i-preserved : goal.loop-i-preserved
loop-i-preserved c =
    rw (to_z-of_z {w = w64} {z = c.rounded.result} (record { sfits = c.rounded.type_inv })) (
      length-set c.loop-i.e c.loop-i.i c.rounded.result ∙ c.loop-i.invariant.0,
      rounded-next c.loop-i.e c.loop-i.i c.rounded.result (omega (arith, c.loop-i.invariant.0, c.requires)) c.loop-i.invariant.1.0 c.loop-i.invariant.1.1 c.rounded.ensures,
    )

pub returns : goal.returns
returns c = record { bounded = c.loop-i.invariant.1.0; by_index = λ j h. c.loop-i.invariant.1.1 j (omega arith) }
