use mathlib.Core.Path.{◌≡◌, sym, ap, ◌∙◌}
use mathlib.Core.List.{map}
use Prim.Native.Nat.{◌<◌}
use native.Mathlib.Numerals.{add-one}
use native.Mathlib.Omega.{arith}
use lib.ListN.{take}
use mir.Syntax.{w64}
use mir.Val.{SFits}
use mir.Facts.{to_z-of_z}
use borrow.Author.Rules.{rules}
use Rattle.lattices.specs.Vector.{nth}
use Rattle.gram_matrix.specs.Columns.{gained_at, gained_columns, columns-none}
use Rattle.gram_matrix.specs.Lose.{gainable, gained-next}
use Rattle.gram_matrix.proofs.gain_columns.Goals as goal

pub loop-j-init : goal.loop-j-init
loop-j-init c = (search rules, sym (columns-none c.args.k c.args.x.now c.args.t.now))

pub gain_column-requires : goal.gain_column-requires
gain_column-requires c =
    let read : SFits w64 (nth c.args.x.now c.loop-j.j) = record { sfits = c.gain_column-arg-in-loop-j-1.given } in
    let h : c.loop-j.j < c.args.k = search rules in
    rw (to_z-of_z {w = w64} read) (record {
      j_bound = (omega (arith, c.requires.k_bound), omega (arith, c.requires.k_bound));
      by_index = (gainable c.args.k c.args.x.now c.args.t.now c.requires.k_bound c.told-x c.requires.gains c.loop-j.j h c.loop-j.invariant.1).fits;
    })

pub loop-j-preserved : goal.loop-j-preserved
loop-j-preserved c =
    let read : SFits w64 (nth c.args.x.now c.loop-j.j) = record { sfits = c.gain_column-arg-in-loop-j-1.given } in
    let h : c.loop-j.j < c.args.k = search rules in
    rw add-one (
      omega arith,
      c.gain_column.ensures ∙ ap (λ q. map (gained_at c.loop-j.j q c.args.k) c.loop-j.t) (to_z-of_z {w = w64} read)
          ∙ gained-next c.args.k c.args.x.now c.args.t.now c.requires.k_bound c.told-x c.requires.gains c.loop-j.j h c.loop-j.invariant.1,
    )

pub returns : goal.returns
returns c =
    let e : c.loop-j.j ≡ c.args.k = search rules in
    c.loop-j.invariant.1 ∙ ap (λ j. gained_columns (take j c.args.x.now) c.args.k c.args.t.now) e
