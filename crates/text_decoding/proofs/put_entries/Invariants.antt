-- What stands before the entries is put, then the lines of those so far.
use Rattle.std.proofs.Common.{take, map}
use Rattle.catalogue_records.specs.EntriesIn.{entry_in}
use Rattle.text_rules.specs.Text.{entry_text}
use Rattle.text_output.specs.Puts.{Puts}
use Rattle.text_output.specs.Joined.{joined}
use Rattle.text_decoding.proofs.put_entries.Given as goal

abbrev pub invariant-loop-e : goal.invariant-loop-e
invariant-loop-e l = Puts (joined entry_text (take l.e-index (map entry_in l.entries))) l.initial.out l.initial.n l.out l.n
