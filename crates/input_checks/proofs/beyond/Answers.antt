-- Each comparison is one side of the limit on the size.
use mathlib.Core.Path.{◌≡◌, sym, ◌∙◌}
use mathlib.Core.Bool.{true, false}
use lib.IntN.{negsuc}
use lib.Signed.{lt_z}
use mir.Facts.{to_z-of_z}
use Rattle.input_checks.specs.Any.{beyond-low, beyond-high}
use Rattle.input_checks.proofs.beyond.Goals as goal

pub returns-then-x : goal.returns-then-x
returns-then-x c =
    let f = c.ranges.x in
    let e : lt_z c.args.x (negsuc 19999) ≡ true = simp to_z-of_z at c.if-x.true in
    simp to_z-of_z (e ∙ sym (beyond-low c.args.x e))

pub returns-else-x : goal.returns-else-x
returns-else-x c =
    let f = c.ranges.x in
    let e : lt_z c.args.x (negsuc 19999) ≡ false = simp to_z-of_z at c.if-x.false in
    simp to_z-of_z (sym (beyond-high c.args.x e))
