-- Four bytes make a word: every sum is that of the definition.
use Rattle.std.proofs.Common.{◌∙◌}
use Rattle.catalogue_steps.specs.Words.{word-from}
use Rattle.catalogue_steps.proofs.words.word_at.Goals as goal

pub returns : goal.returns
returns c = c.from_le_bytes.ensures ∙ word-from c.args.bytes.now c.args.i c.requires
