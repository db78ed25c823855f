-- The words of the first j coordinates stand in the bytes.
use Rattle.std.proofs.Common.{◌+◌, map, take}
use Rattle.catalogue_rules.specs.Write.{coordinate_word}
use Rattle.catalogue_writer.specs.Puts.{Puts}
use Rattle.catalogue_writer.proofs.put_coordinates.Given as goal

abbrev pub invariant-loop-j : goal.invariant-loop-j
invariant-loop-j l = Puts l.initial.out l.k (map coordinate_word (take l.j l.coordinates)) l.out (l.k + l.j)
