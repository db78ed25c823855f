-- The place and the count are small enough for signed numbers.
use mathlib.Core.Path.{ap, ◌∙◌}
use native.Mathlib.Omega.{arith}
use lib.Seq.{sets}
use mir.Syntax.{w64}
use mir.Facts.{to_z_pos}
use Rattle.lent_numbers.specs.Layout.{head}
use Rattle.lent_numbers.proofs.put_counts.Goals as goal

pub returns : goal.returns
returns c =
    let s = c.before.before.before in
    c.before.put_head.ensures ∙ ap (λ n. sets s.args.out.now 0 (head s.args.refusal s.args.place n)) (to_z_pos w64 (omega arith))
