use mathlib.Core.Path.{refl, ◌∙◌}
use mathlib.Core.List.{[]}
use Prim.Native.Nat.{◌<◌, suc}
use native.Mathlib.Omega.{arith}
use lib.ListN.{length, get_or}
use borrow.Author.Rules.{rules}
use Rattle.gram_matrix.specs.Order.{exchanged, exchanged-swap}
use Rattle.gram_matrix.specs.ByRow.{row_mapped, rows_mapped}
use Rattle.gram_matrix.proofs.exchange_columns.Goals as goal

pub loop-row-init : goal.loop-row-init
loop-row-init c = refl

pub loop-row-preserved : goal.loop-row-preserved
loop-row-preserved c =
    let wide : suc c.args.j < length (get_or c.loop-row.t c.loop-row.row-index []) = search rules in
    row_mapped (exchanged c.args.j) c.args.t.now c.loop-row.row-index c.loop-row.invariant [] (omega (arith, c.told-t)) (c.swap.ensures.after ∙ exchanged-swap c.args.j _ wide)

pub returns : goal.returns
returns c = rows_mapped (exchanged c.args.j) c.args.t.now c.loop-row.row-index c.loop-row.invariant (omega (arith, c.told-t))
