-- The index stays within the words.
use Rattle.std.proofs.Common.{◌≤◌, length}
use Rattle.sample_catalogues.proofs.entry.Given as goal

abbrev pub invariant-loop-w : goal.invariant-loop-w
invariant-loop-w l = l.n ≤ length l.words
