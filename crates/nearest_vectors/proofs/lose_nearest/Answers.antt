-- The numbers of the search, the linear system, the search, what it leaves of the target, and the tenths.
use mathlib.Core.Path.{◌≡◌, refl, sym, ap, ◌∙◌, subst}
use mathlib.Core.List.{List}
use Prim.Native.Nat.{◌≤◌}
use native.Mathlib.Omega.{arith}
use native.Mathlib.Nat.{le_refl}
use lib.IntN.{ℤ, pos, ◌*ℤ◌}
use lib.ListN.{length, take, length-take}
use lib.Seq.{take-take}
use mir.Facts.{to_z-of_z}
use Rattle.integers.specs.Ring.{pos-one-*ℤ}
use Rattle.integers.specs.Size.{within-le}
use Rattle.lattices.specs.Vector.{Vec, N, comb, ◌⊖◌}
use Rattle.lattices.specs.Nearest.{nearest}
use Rattle.lattices.specs.Answer.{padded}
use Rattle.successive_minima.specs.Laws.Digits.{Bounded}
use Rattle.nearest_steps.specs.Searchable.{rows-bounded}
use Rattle.nearest_steps.specs.Formed.{ProductsOf}
use Rattle.nearest_search.specs.MeantNear.{MeantNear, KnownNear}
use Rattle.nearest_steps.specs.State.{sized}
use Rattle.nearest_steps.specs.End.{left-width}
use Rattle.nearest_search.specs.LayerLaws.{known, nearest-within}
use Rattle.nearest_search.specs.Near.{searchable, near-formed, near-known-formed, coordinates, taken, rest-room}
use Rattle.nearest_vectors.specs.Numbers.{products_of}
use Rattle.nearest_vectors.specs.Left.{left-of}
use Rattle.solution_tenths.specs.Rest.{Rest}
use Rattle.std.proofs.Common.{rules}
use Rattle.nearest_vectors.proofs.lose_nearest.Goals as goal

pub products-r-requires : goal.products-r-requires
products-r-requires c =
    let enough : c.args.d ≤ length c.args.b.now =
    omega (arith, c.told-b, c.requires.d_bound) in
    let t : Vec =
    c.args.t.now in
    let wide : Bounded 100000 t =
    λ i. within-le (omega arith) (coordinates t c.requires.near.target i) in
    record {
      d_bound = c.requires.d_bound;
      by_index = λ i j h. rows-bounded (searchable enough c.requires.near) i h j;
      by_index_2 = wide;
    }

pub solution-y-requires : goal.solution-y-requires
solution-y-requires c =
    let t : Vec =
    c.args.t.now in
    let enough : c.args.d ≤ length c.args.b.now =
    omega (arith, c.told-b, c.requires.d_bound) in
    -- the vectors and the target
    let bs : List Vec =
    take c.args.d c.args.b.now in
    let formed : List ℤ =
    c.products-r.result in
    let products-here : ProductsOf bs t formed =
    products_of bs t (omega (arith, length-take c.args.d c.args.b.now, c.requires.d_bound)) c.products-r.ensures in
    let m = sized (near-formed c.args.d c.args.b.now t enough c.requires.near c.requires.gram_of products-here).meant in record {
      by_index = m.gram;
      bounded = m.products;
    }

pub around-requires : goal.around-requires
around-requires c =
    let t : Vec =
    c.args.t.now in
    let enough : c.args.d ≤ length c.args.b.now =
    omega (arith, c.told-b, c.requires.d_bound) in
    let formed : List ℤ =
    c.products-r.result in
    -- the vectors and the target
    let bs : List Vec =
    take c.args.d c.args.b.now in
    let products-here : ProductsOf bs t formed =
    products_of bs t (omega (arith, length-take c.args.d c.args.b.now, c.requires.d_bound)) c.products-r.ensures in
    simp (to_z-of_z, c.ranges.n) (record {
      d_bound = c.requires.d_bound;
      x_value = refl;
      known_near = subst (λ n. KnownNear c.args.d n c.args.g.now formed) (sym c.requires.n_value)
          (near-known-formed c.args.d c.args.b.now t enough c.requires.near c.requires.gram_of products-here);
    })

pub lose_combination-requires : goal.lose_combination-requires
lose_combination-requires c =
    -- the vectors and the target
    let bs : List Vec =
    take c.args.d c.args.b.now in
    let t : Vec =
    c.args.t.now in
    let enough : c.args.d ≤ length c.args.b.now =
    omega (arith, c.told-b, c.requires.d_bound) in
    let formed : List ℤ =
    c.products-r.result in
    let products-here : ProductsOf bs t formed =
    products_of bs t (omega (arith, length-take c.args.d c.args.b.now, c.requires.d_bound)) c.products-r.ensures in
    let meaning : MeantNear (pos 1) c.args.d bs t c.args.g.now formed =
    near-formed c.args.d c.args.b.now t enough c.requires.near c.requires.gram_of products-here in
    let again : take c.args.d bs ≡ bs =
    take-take c.args.d c.args.d c.args.b.now (le_refl c.args.d) in
    let small : Bounded 30000000 (nearest bs t) =
    subst (λ vs. Bounded 30000000 (nearest vs t)) again (nearest-within c.requires.d_bound meaning.meant) in
    let found-list : List ℤ =
    c.around.new.x in
    let found : found-list ≡ padded 4 (nearest bs t) =
    (simp (to_z-of_z, c.ranges.n) at c.around.ensures.x_after) _ _ _ meaning (ap (λ n. pos 1 *ℤ n) c.requires.n_value ∙ pos-one-*ℤ (N t)) ∙ ap (λ vs. padded 4 (nearest vs t)) again in
    let coefficients-are : take c.args.d found-list ≡ nearest bs t =
    taken c.args.d c.args.b.now t c.requires.d_bound enough found in
    let room = rest-room (nearest bs t) c.requires.d_bound enough c.requires.near small in
    (search rules, (search rules, (c.requires.d_bound, λ i. rw coefficients-are (room i))))

pub tenths-requires : goal.tenths-requires
tenths-requires c =
    -- the vectors and the target
    let bs : List Vec =
    take c.args.d c.args.b.now in
    let t : Vec =
    c.args.t.now in
    let enough : c.args.d ≤ length c.args.b.now =
    omega (arith, c.told-b, c.requires.d_bound) in
    let formed : List ℤ =
    c.products-r.result in
    let products-here : ProductsOf bs t formed =
    products_of bs t (omega (arith, length-take c.args.d c.args.b.now, c.requires.d_bound)) c.products-r.ensures in
    let found-list : List ℤ =
    c.around.new.x in
    let rest-long : length c.around.new.r ≡ 4 =
    ap length c.around.ensures.r_after ∙ left-width found-list (known (near-known-formed c.args.d c.args.b.now t enough c.requires.near c.requires.gram_of products-here)) ∙ products-here.long in
    let meaning : MeantNear (pos 1) c.args.d bs t c.args.g.now formed =
    near-formed c.args.d c.args.b.now t enough c.requires.near c.requires.gram_of products-here in
    let again : take c.args.d bs ≡ bs =
    take-take c.args.d c.args.d c.args.b.now (le_refl c.args.d) in
    let found : found-list ≡ padded 4 (nearest bs t) =
    (simp (to_z-of_z, c.ranges.n) at c.around.ensures.x_after) _ _ _ meaning (ap (λ n. pos 1 *ℤ n) c.requires.n_value ∙ pos-one-*ℤ (N t)) ∙ ap (λ vs. padded 4 (nearest vs t)) again in
    -- what is left for the tenths
    let left_here : Rest c.args.d bs t c.args.g.now found-list c.around.new.r =
    left-of c.args.d c.args.b.now t c.requires.d_bound enough c.requires.near c.requires.gram_of products-here found c.around.ensures.r_after in
    let r = left_here in record {
      d_bound = c.requires.d_bound;
      rests = record { vectors = bs; target = t; rest = r };
    }

pub returns : goal.returns
returns c =
    -- the vectors and the target
    let bs : List Vec =
    take c.args.d c.args.b.now in
    let t : Vec =
    c.args.t.now in
    let found-list : List ℤ =
    c.around.new.x in
    let enough : c.args.d ≤ length c.args.b.now =
    omega (arith, c.told-b, c.requires.d_bound) in
    let formed : List ℤ =
    c.products-r.result in
    let products-here : ProductsOf bs t formed =
    products_of bs t (omega (arith, length-take c.args.d c.args.b.now, c.requires.d_bound)) c.products-r.ensures in
    let meaning : MeantNear (pos 1) c.args.d bs t c.args.g.now formed =
    near-formed c.args.d c.args.b.now t enough c.requires.near c.requires.gram_of products-here in
    let again : take c.args.d bs ≡ bs =
    take-take c.args.d c.args.d c.args.b.now (le_refl c.args.d) in
    let found : found-list ≡ padded 4 (nearest bs t) =
    (simp (to_z-of_z, c.ranges.n) at c.around.ensures.x_after) _ _ _ meaning (ap (λ n. pos 1 *ℤ n) c.requires.n_value ∙ pos-one-*ℤ (N t)) ∙ ap (λ vs. padded 4 (nearest vs t)) again in
    let coefficients-are : take c.args.d found-list ≡ nearest bs t =
    taken c.args.d c.args.b.now t c.requires.d_bound enough found in
    -- what is left for the tenths
    let left_here : Rest c.args.d bs t c.args.g.now found-list c.around.new.r =
    left-of c.args.d c.args.b.now t c.requires.d_bound enough c.requires.near c.requires.gram_of products-here found c.around.ensures.r_after in
    record {
      value = found;
      t_after = c.lose_combination.ensures ∙ ap (λ y. t ⊖ comb y bs) coefficients-are;
      padded_tenths = c.tenths.ensures _ _ left_here;
    }
