-- After i words the state is one that the definition reaches.
use Rattle.catalogue_rules.specs.Word.{words_of}
use Rattle.catalogue_reader.specs.Progress.{Reached}
use Rattle.catalogue_reader.proofs.read_words.Given as goal

abbrev pub invariant-loop-i : goal.invariant-loop-i
invariant-loop-i l = Reached (words_of l.bytes) l.i l.entries l.numbers l.coordinates l.s
