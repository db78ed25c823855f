-- Row k is copied, loses the combination, and is stored.
use borrow.Author.Rules.{rules}
use Rattle.gram_matrix.proofs.lose_rows.Goals as goal

pub lose_combination-requires : goal.lose_combination-requires
lose_combination-requires g c = (search rules, (search rules, (search rules, c.requires.loses.fits)))
