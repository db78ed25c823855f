-- Of two vectors a pair; of others the determinant of the picked coordinates with unit rows behind them.
use mathlib.Core.Path.{sym, ap, ap₂, ◌∙◌, subst}
use mathlib.Core.List.{[]}
use Prim.Native.Nat.{ℕ, ◌≤◌, ◌<◌}
use native.Mathlib.Omega.{arith}
use lib.IntN.{pos}
use lib.ListN.{length, get_or, take, length-take}
use lib.Signed.{◌≤ℤ◌}
use mir.Syntax.{w64}
use mir.Facts.{to_z-of_z}
use borrow.Author.Rules.{rules}
use Rattle.integers.specs.Size.{Within}
use Rattle.lattices.specs.Vector.{N, nth}
use Rattle.lattices.specs.Refusal.{most_vectors}
use Rattle.input_checks.specs.Determinant.{pair_of, determinant_of, Small}
use Rattle.input_checks.specs.FirstMinor.{minor-is, pair_is, four-small, table-small}
use Rattle.input_checks.proofs.minors.minor_of.Goals as goal

pub pair-requires : goal.pair-requires
pair-requires c =
    let p = c in
    let t = p in
    let s = t in
    let short : (i : ℕ) → i < 2 → N (get_or s.args.b.now i []) ≤ℤ pos 400000000 = λ i h. s.requires.by_index i (omega (arith, t.if-d-eq2.true, h)) in record {
      i_bound = search rules;
      by_index = subst Small (sym p.pick.ensures) (four-small s.args.at.now (get_or s.args.b.now 0 []) (short 0 (omega arith)));
      by_index_2 = subst Small (sym c.pick-then-d-eq2.ensures) (four-small s.args.at.now (get_or s.args.b.now 1 []) (short 1 (omega arith)));
    }

pub returns-then-d-eq2 : goal.returns-then-d-eq2
returns-then-d-eq2 c i count taken =
    let long : most_vectors ≤ length c.args.at.now =
    search rules in
    let p = c in
    let t = p in
    let s = t in
    let a = s.args in
    to_z-of_z {w = w64} (record { sfits = c.pair.type_inv }) ∙ c.pair.ensures.0 ∙ ap₂ (λ p q. pair_of p q 0 1) p.pick.ensures c.pick-then-d-eq2.ensures
    ∙ pair_is a.at.now a.d s.requires.d_le_most_vectors (long) i count taken t.if-d-eq2.true a.b.now c.told-b

pub determinant-requires : goal.determinant-requires
determinant-requires c r k =
    let s = c in
    subst (λ t. Within 20000 (nth (get_or t r []) k)) (sym c.square.ensures) (table-small s.args.at.now s.args.d s.args.b.now s.requires.by_index r k)

pub returns : goal.returns
returns c i count taken =
    let long : most_vectors ≤ length c.args.at.now =
    search rules in
    let s = c in
    let a = s.args in
    to_z-of_z {w = w64} (record { sfits = c.determinant.type_inv }) ∙ c.determinant.ensures ∙ ap determinant_of c.square.ensures
    ∙ minor-is a.at.now a.d s.requires.d_le_most_vectors (long) i count taken (take a.d a.b.now) (omega (arith, length-take a.d a.b.now, s.requires.d_le_most_vectors, c.told-b))
