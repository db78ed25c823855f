-- After i words the state is one that the definition reaches.
use Rattle.catalogue_rules.specs.Word.{words_of}
use Rattle.merge_additions.specs.Additions.{Earlier}
use Rattle.merge_additions.specs.Progress.{Reached}
use Rattle.merge_additions.proofs.read_words.Given as goal

abbrev pub invariant-loop-i : goal.invariant-loop-i
invariant-loop-i l = (p : Earlier l.numbers l.count) → Reached p.entries (words_of l.bytes) l.i l.entry l.coordinates l.s
