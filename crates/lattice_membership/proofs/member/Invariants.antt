-- After j turns the multiples of the first j vectors are taken away: a turn that ends it says no, and what is left at the end decides.
use Prim.Native.Nat.{ℕ, ◌≤◌, ◌-◌, ◌+◌, ◌*◌}
use lib.ListN.{take}
use Rattle.integers.specs.Size.{Within}
use Rattle.lattices.specs.Vector.{nth, comb, ◌⊖◌}
use Rattle.lattices.specs.Laws.Vector.{◌≈◌}
use Rattle.lattice_membership.specs.Known.{quotients_of}
use Rattle.lattice_membership.proofs.member.Given as goal

abbrev pub invariant-loop-j : goal.invariant-loop-j
invariant-loop-j l = (l.j ≤ l.j-end) × ((l.rest ≈ l.initial.rest ⊖ comb (take l.j (quotients_of l.l l.p)) (take l.j l.l.vectors)) × ((i : ℕ) → Within (20000 + l.j * 21600000000) (nth l.rest i)))

abbrev pub decreases-loop-j : goal.decreases-loop-j
decreases-loop-j l = l.j-end - l.j
