-- What the reduction of an accepted input leaves: d, m, the vectors of the answer, their squared lengths, its passes.
use Rattle.lattices.specs.Refusal.{Input}
use Rattle.lattices.specs.Answer.{reduction_of}
use Rattle.lattice_membership.specs.Known.{Left}

abbrev pub left_of : Input → Left
left_of i = let a = reduction_of i in record { d = i.d; m = i.m; vectors = a.basis; squares = a.squares; passes = a.passes }
