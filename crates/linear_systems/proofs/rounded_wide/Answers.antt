-- `rounded_wide` moves digits down by half of what they may be.
use mathlib.Core.Path.{sym, subst}
use mir.Syntax.{w64}
use mir.Facts.{to_z-of_z}
use Rattle.integers.specs.Size.{Within, fits-within}
use Rattle.linear_systems.specs.Bounds.{digits}
use Rattle.linear_systems.proofs.rounded_wide.Goals as goal

pub overflow_sub-result : goal.overflow_sub-result
overflow_sub-result c =
    let h = c.last_digits.ensures in
    fits-within (digits 1048576 h tt) tt

pub returns : goal.returns
returns c =
    let h = digits 1048576 c.last_digits.ensures tt in
    subst (Within 1048576) (sym (to_z-of_z {w = w64} (fits-within h tt))) h
