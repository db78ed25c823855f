-- The words of the entries so far are counted.
use Rattle.std.proofs.Common.{◌≡◌, length}
use Rattle.catalogue_writer.specs.Upto.{up_to}
use Rattle.catalogue_writer.proofs.count_words.Given as goal

abbrev pub invariant-loop-e : goal.invariant-loop-e
invariant-loop-e l = l.n ≡ length (up_to l.entries l.e-index)
