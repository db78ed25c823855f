-- The exchanges on the four tables are that of the rows.
use mathlib.Core.Path.{refl, ap, ◌∙◌}
use Prim.Native.Nat.{suc, ◌<◌}
use lib.ListN.{length}
use borrow.Author.Rules.{rules}
use Rattle.gram_matrix.specs.Order.{exchanged, exchanged-swap}
use Rattle.gram_matrix.specs.Tied.{tied-exchanged}
use Rattle.gram_matrix.proofs.exchange.Goals as goal

pub returns : goal.returns
returns c =
    let j = c.args.j in
    let tall : suc j < length c.exchange_columns.new.t = search rules in
    let vectors : suc j < length c.args.w.now.vectors = search rules in
    let us : suc j < length c.args.w.now.u = search rules in record {
      belongs = λ K rows t. rw (
        c.swap.ensures.after ∙ exchanged-swap j _ tall ∙ ap (exchanged j) c.exchange_columns.ensures,
        c.swap-2.ensures.after ∙ exchanged-swap j _ vectors,
        c.swap-3.ensures.after ∙ exchanged-swap j _ us,
        c.exchange_columns-2.ensures,
      ) (tied-exchanged j t);
      passes = refl;
    }
