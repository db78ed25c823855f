-- All from place i on are members, so those before it decide.
use mathlib.Core.Path.{◌≡◌}
use Prim.Native.Nat.{◌≤◌}
use lib.ListN.{take}
use Rattle.integers.specs.Every.{every}
use Rattle.successive_minima.specs.Member.{is_member}
use Rattle.lattice_membership.specs.Known.{vectors_in}
use Rattle.lattice_membership.proofs.holds_all.Given as goal

abbrev pub invariant-loop-i : goal.invariant-loop-i
invariant-loop-i l = (l.i ≤ l.count) × (every (is_member (vectors_in l.l)) (take l.count l.vectors) ≡ every (is_member (vectors_in l.l)) (take l.i l.vectors))

abbrev pub decreases-loop-i : goal.decreases-loop-i
decreases-loop-i l = l.i
