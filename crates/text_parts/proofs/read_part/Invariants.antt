-- n numbers are read, and they lie before at.
use Prim.Native.Nat.{◌-◌}
use lib.ListN.{length}
use Rattle.text_parts.specs.PartLaws.{Reading}
use Rattle.text_parts.proofs.read_part.Given as goal

abbrev pub invariant-loop-z : goal.invariant-loop-z
invariant-loop-z l = Reading l.s l.initial.out l.out l.n l.at

abbrev pub decreases-loop-z : goal.decreases-loop-z
decreases-loop-z l = length l.out - l.n
