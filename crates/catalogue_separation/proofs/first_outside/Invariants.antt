-- The first i vectors are members.
use mathlib.Core.Path.{◌≡◌}
use mathlib.Core.Bool.{false, not}
use mathlib.Core.List.{[]}
use Prim.Native.Nat.{ℕ, ◌<◌}
use lib.ListN.{get_or}
use Rattle.successive_minima.specs.Member.{is_member}
use Rattle.lattice_membership.specs.Known.{vectors_in}
use Rattle.catalogue_separation.proofs.first_outside.Given as goal

abbrev pub invariant-loop-i : goal.invariant-loop-i
invariant-loop-i l = (j : ℕ) → j < l.i → not (is_member (vectors_in l.l) (get_or l.vectors j [])) ≡ false
