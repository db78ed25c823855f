-- The word stands behind the lines before `from`.
use Prim.Native.Nat.{◌-◌, ◌≤◌}
use lib.ListN.{length}
use Rattle.catalogue_records.specs.EntriesIn.{form_in}
use Rattle.text_encoding.specs.Counts.{Passing}
use Rattle.text_encoding.proofs.line_among.Given as goal

abbrev pub invariant-loop-from : goal.invariant-loop-from
invariant-loop-from l = (l.from ≤ length l.text) × Passing (form_in l.form) l.text l.k l.from l.passed l.left

abbrev pub decreases-loop-from : goal.decreases-loop-from
decreases-loop-from l = length l.text - l.from
