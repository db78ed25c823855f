-- None of the first see words names n.
use Rattle.std.proofs.Common.{◌≡◌, drop}
use Rattle.integers.specs.Every.{any}
use Rattle.merges.specs.Looking.{names}
use Rattle.merges.proofs.looking.is_named.Given as goal

abbrev pub invariant-loop-i : goal.invariant-loop-i
invariant-loop-i l = any (λ i. names l.n i.see) l.items ≡ any (λ i. names l.n i.see) (drop l.i-index l.items)
