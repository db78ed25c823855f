-- The words of the entries so far stand in the bytes.
use Rattle.catalogue_writer.specs.Puts.{Puts}
use Rattle.catalogue_writer.specs.Upto.{up_to}
use Rattle.catalogue_writer.proofs.put_entries.Given as goal

abbrev pub invariant-loop-e : goal.invariant-loop-e
invariant-loop-e l = Puts l.initial.out 0 (up_to l.entries l.e-index) l.out l.n
