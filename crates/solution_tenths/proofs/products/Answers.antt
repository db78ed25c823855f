-- `products` computes each.
use mathlib.Core.Path.{◌≡◌, ap, ◌∙◌}
use mathlib.Core.List.{[]}
use Prim.Native.Nat.{ℕ}
use lib.IntN.{pos, ◌-ℤ◌, ◌*ℤ◌}
use lib.ListN.{get_or}
use mir.Syntax.{w64}
use mir.Val.{to_z, of_z}
use mir.Facts.{to_z-of_z}
use Rattle.integers.specs.Size.{fits-within}
use Rattle.lattices.specs.Vector.{nth, dot}
use Rattle.solution_tenths.specs.Rounding.{back, zero-back, four, product-behind}
use Rattle.solution_tenths.proofs.products.Goals as goal

pub product-requires : goal.product-requires
product-requires c = record {
  bounded = c.requires.by_index 0;
  within = back tt (c.requires.bounded 0);
  bounded_2 = c.requires.bounded_2;
  r_value = λ h. zero-back (c.requires.by_index_2 0 h);
  j_value = c.requires.by_index_3 0;
}

pub product-requires-2 : goal.product-requires-2
product-requires-2 c = record {
  bounded = c.requires.by_index 1;
  within = back tt (c.requires.bounded 1);
  bounded_2 = c.requires.bounded_2;
  r_value = λ h. zero-back (c.requires.by_index_2 1 h);
  j_value = c.requires.by_index_3 1;
}

pub product-requires-3 : goal.product-requires-3
product-requires-3 c = record {
  bounded = c.requires.by_index 2;
  within = back tt (c.requires.bounded 2);
  bounded_2 = c.requires.bounded_2;
  r_value = λ h. zero-back (c.requires.by_index_2 2 h);
  j_value = c.requires.by_index_3 2;
}

pub product-requires-4 : goal.product-requires-4
product-requires-4 c = record {
  bounded = c.requires.by_index 3;
  within = back tt (c.requires.bounded 3);
  bounded_2 = c.requires.bounded_2;
  r_value = λ h. zero-back (c.requires.by_index_2 3 h);
  j_value = c.requires.by_index_3 3;
}

pub returns : goal.returns
returns c =
    let read : (i : ℕ) → pos 8192 *ℤ to_z w64 (of_z w64 (nth c.args.r.now i)) -ℤ dot c.args.z.now (get_or c.args.g.now i []) ≡ pos 8192 *ℤ nth c.args.r.now i -ℤ dot c.args.z.now (get_or c.args.g.now i [])
    = λ i. ap (λ y. pos 8192 *ℤ y -ℤ dot c.args.z.now (get_or c.args.g.now i [])) (to_z-of_z {w = w64} (fits-within (c.requires.bounded i) tt)) in
    four (λ i h. h ≡ pos 8192 *ℤ nth c.args.r.now i -ℤ dot c.args.z.now (get_or c.args.g.now i []))
    (to_z-of_z {w = w64} (record { sfits = c.product.type_inv }) ∙ c.product.ensures ∙ read 0)
    (to_z-of_z {w = w64} (record { sfits = c.product-2.type_inv }) ∙ c.product-2.ensures ∙ read 1)
    (to_z-of_z {w = w64} (record { sfits = c.product-3.type_inv }) ∙ c.product-3.ensures ∙ read 2)
    (to_z-of_z {w = w64} (record { sfits = c.product-4.type_inv }) ∙ c.product-4.ensures ∙ read 3)
    (product-behind c.args.g.now c.args.r.now c.args.z.now c.told-g c.told-r)
