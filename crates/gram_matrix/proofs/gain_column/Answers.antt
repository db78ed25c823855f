use mathlib.Core.Path.{refl, ap, ◌∙◌}
use mathlib.Core.List.{[], map}
use native.Mathlib.Omega.{arith}
use mir.Syntax.{w64}
use mir.Val.{to_z, of_z}
use mir.Facts.{to_z-of_z}
use Rattle.gram_matrix.specs.ByRow.{row_kept, row_mapped, rows_mapped}
use Rattle.gram_matrix.specs.Columns.{gained_at}
use Rattle.gram_matrix.proofs.gain_column.Goals as goal

pub loop-row-init : goal.loop-row-init
loop-row-init c = refl

pub gain_entry-requires : goal.gain_entry-requires
gain_entry-requires c =
    let e = row_kept (gained_at c.args.j (to_z w64 (of_z w64 c.args.q)) c.args.k) c.args.t.now c.loop-row.row-index c.loop-row.invariant [] (omega (arith, c.told-t)) in record {
      j_bound = c.requires.j_bound;
      k_bound = rw e (simp (to_z-of_z, c.ranges.q) (c.requires.by_index c.loop-row.row-index));
    }

pub loop-row-preserved : goal.loop-row-preserved
loop-row-preserved c = row_mapped (gained_at c.args.j (to_z w64 (of_z w64 c.args.q)) c.args.k) c.args.t.now c.loop-row.row-index c.loop-row.invariant [] (omega (arith, c.told-t)) c.gain_entry.ensures

pub returns : goal.returns
returns c = rows_mapped (gained_at c.args.j (to_z w64 (of_z w64 c.args.q)) c.args.k) c.args.t.now c.loop-row.row-index c.loop-row.invariant (omega (arith, c.told-t))
    ∙ ap (λ q. map (gained_at c.args.j q c.args.k) c.args.t.now) (to_z-of_z c.ranges.q)
