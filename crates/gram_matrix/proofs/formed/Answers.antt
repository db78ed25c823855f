use mathlib.Core.Path.{◌≡◌, refl, sym, ap, ap₂, ◌∙◌}
use mathlib.Core.List.{[], map}
use Prim.Native.Nat.{◌<◌}
use native.Mathlib.Numerals.{add-one}
use native.Mathlib.Omega.{arith}
use lib.ListN.{length, get_or, set, take}
use Rattle.integers.specs.FilledLaws.{length-filled}
use Rattle.lattices.specs.Answer.{padded}
use Rattle.gram_matrix.specs.Cross.{entered}
use Rattle.gram_matrix.specs.Formed.{products, formed, grown}
use borrow.Author.Rules.{rules}
use Rattle.gram_matrix.proofs.formed.Goals as goal

pub loop-i-init : goal.loop-i-init
loop-i-init c = (search rules, refl)

pub products-r-requires : goal.products-r-requires
products-r-requires c = record {
  d_bound = omega (arith, c.requires.d_bound);
  by_index = λ m j l₂. c.requires.by_index m j (omega arith);
  by_index_2 = λ j. c.requires.by_index c.loop-i.i j (omega arith);
}

pub loop-i-preserved : goal.loop-i-preserved
loop-i-preserved c =
    let table-four : length c.loop-i.g ≡ 4 =
    ap length c.loop-i.invariant.1 ∙ length-filled (padded 4 []) 4 (map (products (take c.loop-i.i c.args.b.now)) (take c.loop-i.i c.args.b.now)) in
    let h : c.loop-i.i < length c.loop-i.g = omega (arith, table-four, c.requires.d_bound) in (
      search rules,
      c.enter.ensures ∙ ap₂ (λ g r. entered c.loop-i.i r (set g c.loop-i.i r)) c.loop-i.invariant.1 (c.products-r.ensures ∙ ap (λ n. products (take n c.args.b.now) (get_or c.args.b.now c.loop-i.i [])) (add-one c.loop-i.i))
          ∙ grown c.args.b.now c.loop-i.i (omega (arith, c.requires.d_bound, c.told-b)) (omega (arith, c.told-b)) ∙ ap (λ n. formed (take n c.args.b.now)) (sym (add-one c.loop-i.i)),
    )

pub returns : goal.returns
returns c = let e : c.loop-i.i ≡ c.args.d = search rules in
    c.loop-i.invariant.1 ∙ ap (λ i. formed (take i c.args.b.now)) e
