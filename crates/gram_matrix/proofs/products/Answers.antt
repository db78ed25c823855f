use mathlib.Core.Path.{◌≡◌, refl, ap, ap₂, ◌∙◌}
use mathlib.Core.List.{[]}
use native.Mathlib.Omega.{arith}
use lib.IntN.{pos}
use Prim.Native.Nat.{ℕ, ◌≤◌}
use Rattle.integers.specs.Size.{Within, within-mul}
use lib.ListN.{length, get_or, set, take}
use Rattle.row_operations.specs.Dot.{weight-most_right}
use mir.Syntax.{w64}
use mir.Facts.{to_z-of_z}
use Rattle.integers.specs.FilledLaws.{filled_more}
use Rattle.lattices.specs.Vector.{nth, dot}
use Rattle.gram_matrix.specs.Formed.{products}
use borrow.Author.Rules.{rules}
use Rattle.gram_matrix.proofs.products.Goals as goal

pub loop-j-init : goal.loop-j-init
loop-j-init c = (search rules, refl)

pub dot-requires : goal.dot-requires
dot-requires c =
    let few : length c.args.v.now ≤ 8 = search rules in
    let short : (i : ℕ) → Within 100000 (nth (get_or c.args.b.now c.loop-j.j []) i) = λ i. c.requires.by_index c.loop-j.j i (search rules) in
    (search rules, omega (arith, weight-most_right {P = 10000000000} 8 (get_or c.args.b.now c.loop-j.j []) c.args.v.now few (λ i. within-mul (short i) (c.requires.by_index_2 i))))

pub loop-j-preserved : goal.loop-j-preserved
loop-j-preserved c = (
  search rules,
  ap₂ (λ r n. set r c.loop-j.j n) c.loop-j.invariant.1 (to_z-of_z {w = w64} (record { sfits = c.dot.type_inv }) ∙ c.dot.ensures)
      ∙ filled_more (pos 0) 4 (λ w. dot w c.args.v.now) c.args.b.now c.loop-j.j [] (omega (arith, c.requires.d_bound)) (omega (arith, c.requires.d_bound, c.told-b)),
)

pub returns : goal.returns
returns c = let e : c.loop-j.j ≡ c.args.d = search rules in
    c.loop-j.invariant.1 ∙ ap (λ j. products (take j c.args.b.now) c.args.v.now) e
