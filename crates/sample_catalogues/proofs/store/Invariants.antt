-- The index stays within the bytes.
use Rattle.std.proofs.Common.{◌≤◌, length}
use Rattle.sample_catalogues.proofs.store.Given as goal

abbrev pub invariant-loop-w : goal.invariant-loop-w
invariant-loop-w l = l.n ≤ length l.bytes
