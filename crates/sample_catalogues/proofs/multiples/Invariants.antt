-- The index stays within the words.
use Rattle.std.proofs.Common.{◌≤◌, length}
use Rattle.sample_catalogues.proofs.multiples.Given as goal

abbrev pub invariant-loop-k : goal.invariant-loop-k
invariant-loop-k l = l.n ≤ length l.words
