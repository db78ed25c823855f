-- The lines before `from` are told.
use Prim.Native.Nat.{◌+◌, ◌-◌, ◌≤◌}
use lib.ListN.{length}
use Rattle.catalogue_records.specs.EntriesIn.{form_in}
use Rattle.text_encoding.specs.Tells.{Going}
use Rattle.text_encoding.proofs.tell_lines.Given as goal

abbrev pub invariant-loop-from : goal.invariant-loop-from
invariant-loop-from l = (l.from ≤ length l.text + 1) × Going (form_in l.form) l.text l.initial.out l.from l.out l.e

abbrev pub decreases-loop-from : goal.decreases-loop-from
decreases-loop-from l = length l.text - l.from
