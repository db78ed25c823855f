-- `tenths`: parts, settled, rounded.
use mathlib.Core.Path.{◌≡◌, refl}
use mathlib.Core.List.{List}
use Prim.Native.Nat.{ℕ, ◌≤◌, ◌<◌, ◌^◌}
use native.Mathlib.Omega.{arith}
use borrow.Author.Rules.{rules}
use lib.IntN.{ℤ, pos, ◌-ℤ◌, ◌*ℤ◌}
use lib.Signed.{mag}
use mir.Syntax.{w64}
use mir.Val.{to_z, of_z}
use Rattle.integers.specs.Size.{fits-within}
use Rattle.lattices.specs.Vector.{Vec, nth}
use Rattle.successive_minima.specs.Laws.Digits.{Bounded}
use Rattle.solutions.specs.Laws.Settled.{Between}
use Rattle.solution_tenths.specs.Rest.{Rest}
use Rattle.solution_tenths.specs.Rounding.{back, zero-back, four, entry-back, tenth_behind}
use Rattle.solution_tenths.specs.Taken.{Taken, rest-gram, rest-products, rest-behind, row-behind, fine, taken_start, padded-tenths}
use Rattle.solution_tenths.proofs.tenths.Goals as goal

pub parts-z-requires : goal.parts-z-requires
parts-z-requires c =
    -- what the caller knows
    let known : Rest c.args.d c.requires.rests.vectors c.requires.rests.target c.args.g.now c.args.x.now c.args.r.now =
    c.requires.rests.rest in
    known.small

pub products-requires : goal.products-requires
products-requires c =
    -- what the caller knows
    let known : Rest c.args.d c.requires.rests.vectors c.requires.rests.target c.args.g.now c.args.x.now c.args.r.now =
    c.requires.rests.rest in
    record {
      by_index = rest-gram c.requires.d_bound known;
      bounded = rest-products c.requires.d_bound known;
      bounded_2 = c.parts-z.ensures.bounded;
      by_index_2 = rest-behind c.requires.d_bound known;
      by_index_3 = row-behind c.requires.d_bound known;
    }

pub settled-w-requires : goal.settled-w-requires
settled-w-requires c =
    -- what the caller knows
    let known : Rest c.args.d c.requires.rests.vectors c.requires.rests.target c.args.g.now c.args.x.now c.args.r.now =
    c.requires.rests.rest in
    let taken : (bs : List Vec) (t : Vec) → (m : Rest c.args.d bs t c.args.g.now c.args.x.now c.args.r.now) → Taken bs (fine c.requires.d_bound m) c.args.g.now c.products.result c.parts-z.result =
    λ bs t m. taken_start c.requires.d_bound m c.products.result c.parts-z.result (search rules) c.parts-z.ensures.bounded c.parts-z.ensures.by_index c.products.ensures in
    record { vectors = c.requires.rests.vectors; target = fine c.requires.d_bound known; taken = taken _ _ known }

pub tenth-requires : goal.tenth-requires
tenth-requires c =
    -- what the caller knows
    let known : Rest c.args.d c.requires.rests.vectors c.requires.rests.target c.args.g.now c.args.x.now c.args.r.now =
    c.requires.rests.rest in
    let taken : (bs : List Vec) (t : Vec) → (m : Rest c.args.d bs t c.args.g.now c.args.x.now c.args.r.now) → Taken bs (fine c.requires.d_bound m) c.args.g.now c.products.result c.parts-z.result =
    λ bs t m. taken_start c.requires.d_bound m c.products.result c.parts-z.result (search rules) c.parts-z.ensures.bounded c.parts-z.ensures.by_index c.products.ensures in
    let small : Bounded 65000000000000 c.settled-w.result =
    (c.settled-w.ensures _ _ (taken _ _ known)).small in
    -- behind d nothing is taken
    let none : (i : ℕ) → c.args.d ≤ i → nth c.settled-w.result i ≡ pos 0 =
    λ i h. let k = known in
    (c.settled-w.ensures _ _ (taken _ _ k)).behind i (omega (arith, k.count, h)) in
    record {
      within = back tt (known.small 0);
      within_2 = back tt (small 0);
      x_value = (λ h. zero-back (known.behind 0 h));
      z_value = λ h. zero-back (none 0 h);
    }

pub tenth-requires-2 : goal.tenth-requires-2
tenth-requires-2 c =
    -- what the caller knows
    let known : Rest c.args.d c.requires.rests.vectors c.requires.rests.target c.args.g.now c.args.x.now c.args.r.now =
    c.requires.rests.rest in
    let taken : (bs : List Vec) (t : Vec) → (m : Rest c.args.d bs t c.args.g.now c.args.x.now c.args.r.now) → Taken bs (fine c.requires.d_bound m) c.args.g.now c.products.result c.parts-z.result =
    λ bs t m. taken_start c.requires.d_bound m c.products.result c.parts-z.result (search rules) c.parts-z.ensures.bounded c.parts-z.ensures.by_index c.products.ensures in
    let small : Bounded 65000000000000 c.settled-w.result =
    (c.settled-w.ensures _ _ (taken _ _ known)).small in
    -- behind d nothing is taken
    let none : (i : ℕ) → c.args.d ≤ i → nth c.settled-w.result i ≡ pos 0 =
    λ i h. let k = known in
    (c.settled-w.ensures _ _ (taken _ _ k)).behind i (omega (arith, k.count, h)) in
    record {
      within = back tt (known.small 1);
      within_2 = back tt (small 1);
      x_value = (λ h. zero-back (known.behind 1 h));
      z_value = λ h. zero-back (none 1 h);
    }

pub tenth-requires-3 : goal.tenth-requires-3
tenth-requires-3 c =
    -- what the caller knows
    let known : Rest c.args.d c.requires.rests.vectors c.requires.rests.target c.args.g.now c.args.x.now c.args.r.now =
    c.requires.rests.rest in
    let taken : (bs : List Vec) (t : Vec) → (m : Rest c.args.d bs t c.args.g.now c.args.x.now c.args.r.now) → Taken bs (fine c.requires.d_bound m) c.args.g.now c.products.result c.parts-z.result =
    λ bs t m. taken_start c.requires.d_bound m c.products.result c.parts-z.result (search rules) c.parts-z.ensures.bounded c.parts-z.ensures.by_index c.products.ensures in
    let small : Bounded 65000000000000 c.settled-w.result =
    (c.settled-w.ensures _ _ (taken _ _ known)).small in
    -- behind d nothing is taken
    let none : (i : ℕ) → c.args.d ≤ i → nth c.settled-w.result i ≡ pos 0 =
    λ i h. let k = known in
    (c.settled-w.ensures _ _ (taken _ _ k)).behind i (omega (arith, k.count, h)) in
    record {
      within = back tt (known.small 2);
      within_2 = back tt (small 2);
      x_value = (λ h. zero-back (known.behind 2 h));
      z_value = λ h. zero-back (none 2 h);
    }

pub tenth-requires-4 : goal.tenth-requires-4
tenth-requires-4 c =
    -- what the caller knows
    let known : Rest c.args.d c.requires.rests.vectors c.requires.rests.target c.args.g.now c.args.x.now c.args.r.now =
    c.requires.rests.rest in
    let taken : (bs : List Vec) (t : Vec) → (m : Rest c.args.d bs t c.args.g.now c.args.x.now c.args.r.now) → Taken bs (fine c.requires.d_bound m) c.args.g.now c.products.result c.parts-z.result =
    λ bs t m. taken_start c.requires.d_bound m c.products.result c.parts-z.result (search rules) c.parts-z.ensures.bounded c.parts-z.ensures.by_index c.products.ensures in
    let small : Bounded 65000000000000 c.settled-w.result =
    (c.settled-w.ensures _ _ (taken _ _ known)).small in
    -- behind d nothing is taken
    let none : (i : ℕ) → c.args.d ≤ i → nth c.settled-w.result i ≡ pos 0 =
    λ i h. let k = known in
    (c.settled-w.ensures _ _ (taken _ _ k)).behind i (omega (arith, k.count, h)) in
    record {
      within = back tt (known.small 3);
      within_2 = back tt (small 3);
      x_value = (λ h. zero-back (known.behind 3 h));
      z_value = λ h. zero-back (none 3 h);
    }

pub returns : goal.returns
returns c =
    -- what the caller knows
    let known : Rest c.args.d c.requires.rests.vectors c.requires.rests.target c.args.g.now c.args.x.now c.args.r.now =
    c.requires.rests.rest in
    let taken : (bs : List Vec) (t : Vec) → (m : Rest c.args.d bs t c.args.g.now c.args.x.now c.args.r.now) → Taken bs (fine c.requires.d_bound m) c.args.g.now c.products.result c.parts-z.result =
    λ bs t m. taken_start c.requires.d_bound m c.products.result c.parts-z.result (search rules) c.parts-z.ensures.bounded c.parts-z.ensures.by_index c.products.ensures in
    let small : Bounded 65000000000000 c.settled-w.result =
    (c.settled-w.ensures _ _ (taken _ _ known)).small in
    let entry : (i : ℕ) (y : ℤ) → mag y < 2 ^ 63 → Between (pos 4096) (pos 10 *ℤ to_z w64 (of_z w64 (nth c.settled-w.result i)) -ℤ pos 8192 *ℤ (y -ℤ pos 10 *ℤ to_z w64 (of_z w64 (nth c.args.x.now i)))) → Between (pos 4096) (pos 10 *ℤ nth c.settled-w.result i -ℤ pos 8192 *ℤ (to_z w64 (of_z w64 y) -ℤ pos 10 *ℤ nth c.args.x.now i))
    = λ i y f. entry-back (nth c.args.x.now i) (nth c.settled-w.result i) y (fits-within (known.small i) tt) (fits-within (small i) tt) (record { sfits = f }) in
    λ bs t m.
    let e = c.settled-w.ensures bs _ (taken bs t m) in
    padded-tenths c.requires.d_bound m _ c.settled-w.result refl e
    (four (λ i y. Between (pos 4096) (pos 10 *ℤ nth c.settled-w.result i -ℤ pos 8192 *ℤ (y -ℤ pos 10 *ℤ nth c.args.x.now i)))
    (entry 0 c.tenth.result c.tenth.type_inv c.tenth.ensures) (entry 1 c.tenth-2.result c.tenth-2.type_inv c.tenth-2.ensures) (entry 2 c.tenth-3.result c.tenth-3.type_inv c.tenth-3.ensures) (entry 3 c.tenth-4.result c.tenth-4.type_inv c.tenth-4.ensures)
    (tenth_behind c.args.x.now c.settled-w.result m.long e.long))
