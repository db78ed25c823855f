-- The first vectors are put.
use Rattle.std.proofs.Common.{take}
use Rattle.text_output.specs.Puts.{Puts}
use Rattle.text_output.specs.Joined.{joined}
use Rattle.catalogue_listing.specs.Lines.{vector_line}
use Rattle.catalogue_listing.proofs.entries.put_vectors.Given as goal

abbrev pub invariant-loop-v : goal.invariant-loop-v
invariant-loop-v l = Puts (joined (vector_line l.l.m) (take l.v-index l.v-items)) l.initial.out l.at l.out l.n
