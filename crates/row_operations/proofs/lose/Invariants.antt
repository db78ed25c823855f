-- `lose` takes q times b away: after i turns the first i places are done.
use mathlib.Core.Path.{◌≡◌}
use Rattle.lattices.specs.Vector.{◌⊖◌, ◌⊙◌}
use Rattle.row_operations.specs.Front.{front}
use Rattle.row_operations.proofs.lose.Given as goal

abbrev pub invariant-loop-i : goal.invariant-loop-i
invariant-loop-i g l = l.a ≡ front l.i (l.initial.a ⊖ l.q ⊙ l.b) l.initial.a
