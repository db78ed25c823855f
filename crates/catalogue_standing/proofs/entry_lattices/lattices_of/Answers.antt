use Rattle.std.proofs.Common.{◌∙◌, arith, length-set}
use Rattle.catalogue_standing.specs.ReducedEntries.{keeps-more, ready-sound}
use Rattle.catalogue_standing.proofs.entry_lattices.lattices_of.Goals as goal

pub lattice_of-requires : goal.lattice_of-requires
lattice_of-requires c = ready-sound c.args.entries.now c.requires c.loop-k.k (omega arith)

pub loop-k-preserved : goal.loop-k-preserved
loop-k-preserved c =
    (length-set c.loop-k.list c.loop-k.k c.lattice_of.result ∙ c.loop-k.invariant.0, keeps-more c.loop-k.invariant.1 (omega arith) c.lattice_of.ensures.lattice)
