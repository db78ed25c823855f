-- n is what the digits so far write, cut off.
use Rattle.std.proofs.Common.{◌≡◌, min, take}
use Rattle.text_parts.specs.Numbers.{value, largest}
use Rattle.text_parts.proofs.numbers.size.Given as goal

abbrev pub invariant-loop-b : goal.invariant-loop-b
invariant-loop-b l = l.n ≡ min largest (value 0 (take l.b-index l.s))
