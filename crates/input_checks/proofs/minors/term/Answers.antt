-- A product of two pairs.
use mathlib.Core.Path.{sym, ap₂, ◌∙◌, subst}
use lib.IntN.{◌*ℤ◌}
use Rattle.integers.specs.Size.{Within}
use Rattle.input_checks.specs.Determinant.{comes, fits-product, product}
use Rattle.input_checks.proofs.minors.term.Goals as goal

pub pair-requires : goal.pair-requires
pair-requires c = record {
  i_bound = (c.requires.i_bound.0, c.requires.i_bound.1.0);
  by_index = c.requires.by_index 0;
  by_index_2 = c.requires.by_index 1;
}

pub pair-requires-2 : goal.pair-requires-2
pair-requires-2 c = let s = c in record {
  i_bound = (s.requires.i_bound.1.1.0, s.requires.i_bound.1.1.1);
  by_index = s.requires.by_index 2;
  by_index_2 = s.requires.by_index 3;
}

pub overflow_mul-result : goal.overflow_mul-result
overflow_mul-result c =
    let p = c.pair in
    fits-product (comes (record { sfits = p.type_inv }) p.ensures.1) (comes (record { sfits = c.pair-2.type_inv }) c.pair-2.ensures.1) tt

pub returns : goal.returns
returns c =
    let p = c.pair in
    let r = product (comes (record { sfits = p.type_inv }) p.ensures.1) (comes (record { sfits = c.pair-2.type_inv }) c.pair-2.ensures.1) tt in
    (r.is ∙ ap₂ ◌*ℤ◌ p.ensures.0 c.pair-2.ensures.0, subst (Within 640000000000000000) (sym r.is) r.within)
