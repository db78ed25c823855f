-- `around` starts at the rounded solution, and searches from there.
use mathlib.Core.Path.{◌≡◌, sym, ap, subst}
use mathlib.Core.List.{List}
use Prim.Native.Nat.{ℕ, ◌≤◌}
use native.Mathlib.Omega.{arith}
use lib.IntN.{ℤ, ◌+ℤ◌, ◌*ℤ◌}
use lib.ListN.{length, take}
use mir.Syntax.{w64}
use mir.Val.{SFits}
use mir.Facts.{to_z-of_z}
use Rattle.integers.specs.Size.{fits-within}
use Rattle.lattices.specs.Vector.{Vec, N, comb, ◌⊖◌}
use Rattle.lattices.specs.Nearest.{nearest}
use Rattle.lattices.specs.Answer.{padded}
use Rattle.nearest_steps.specs.End.{left_is, nearest-is as nearest-among}
use Rattle.nearest_search.specs.MeantNear.{MeantNear, KnownNear}
use Rattle.nearest_search.specs.LayerLaws.{known}
use Rattle.nearest_search.specs.Turns.{Jumped, nearest-is}
use Rattle.nearest_search.specs.Descent.{Layered, jumped_known, jumped_within, jumped_small, jumped_layered, jumped_searched}
use Rattle.nearest_search.proofs.around.Goals as goal

-- what is promised, for any d
abbrev Answered : ℕ → ℤ → List (List ℤ) → List ℤ → List ℤ → List ℤ → Type 0
Answered d n g r r' x = (r' ≡ r ⊖ comb (take d x) (take d g)) × ((F : ℤ) (vs : List Vec) (t : Vec) → MeantNear F d vs t g r → F *ℤ n ≡ N t → x ≡ padded 4 (nearest (take d vs) t))

pub jump-v-requires : goal.jump-v-requires
jump-v-requires c = record {
  d_bound = c.requires.d_bound;
  x_value = c.requires.x_value;
  known = known c.requires.known_near;
}

pub overflow_add-n : goal.overflow_add-n
overflow_add-n c =
    let number : SFits w64 c.jump-v.result =
    record { sfits = c.jump-v.type_inv } in
    -- four vectors
    let all : KnownNear 4 c.args.n c.args.g.now c.args.r.now =
    subst (λ d. KnownNear d c.args.n c.args.g.now c.args.r.now) c.if-d-eq4.true c.requires.known_near in
    let jumped : Jumped 4 c.args.g.now c.args.r.now c.args.x.now c.jump-v.new.r c.jump-v.new.x c.jump-v.result =
    subst (λ d. Jumped d c.args.g.now c.args.r.now c.args.x.now c.jump-v.new.r c.jump-v.new.x c.jump-v.result) c.if-d-eq4.true c.jump-v.ensures in
    let sum : SFits w64 (c.args.n +ℤ c.jump-v.result) =
    fits-within (jumped_within all jumped) tt in
    simp (to_z-of_z, c.ranges.n, number) sum

pub through_layers-requires : goal.through_layers-requires
through_layers-requires c =
    let number : SFits w64 c.jump-v.result =
    record { sfits = c.jump-v.type_inv } in
    let small : length c.args.x.now ≡ 4 =
    ap length c.requires.x_value in
    -- four vectors
    let all : KnownNear 4 c.args.n c.args.g.now c.args.r.now =
    subst (λ d. KnownNear d c.args.n c.args.g.now c.args.r.now) c.if-d-eq4.true c.requires.known_near in
    let jumped : Jumped 4 c.args.g.now c.args.r.now c.args.x.now c.jump-v.new.r c.jump-v.new.x c.jump-v.result =
    subst (λ d. Jumped d c.args.g.now c.args.r.now c.args.x.now c.jump-v.new.r c.jump-v.new.x c.jump-v.result) c.if-d-eq4.true c.jump-v.ensures in
    let sum : SFits w64 (c.args.n +ℤ c.jump-v.result) =
    fits-within (jumped_within all jumped) tt in
    simp (to_z-of_z, c.ranges.n, number, sum) (record {
      bounded = jumped_small (omega arith) all c.requires.x_value jumped;
      known_near = jumped_known all jumped;
    })

pub returns-then-d-eq4 : goal.returns-then-d-eq4
returns-then-d-eq4 c =
    let number : SFits w64 c.jump-v.result =
    record { sfits = c.jump-v.type_inv } in
    -- four vectors
    let all : KnownNear 4 c.args.n c.args.g.now c.args.r.now =
    subst (λ d. KnownNear d c.args.n c.args.g.now c.args.r.now) c.if-d-eq4.true c.requires.known_near in
    let jumped : Jumped 4 c.args.g.now c.args.r.now c.args.x.now c.jump-v.new.r c.jump-v.new.x c.jump-v.result =
    subst (λ d. Jumped d c.args.g.now c.args.r.now c.args.x.now c.jump-v.new.r c.jump-v.new.x c.jump-v.result) c.if-d-eq4.true c.jump-v.ensures in
    let sum : SFits w64 (c.args.n +ℤ c.jump-v.result) =
    fits-within (jumped_within all jumped) tt in
    let e : Layered (c.args.n +ℤ c.jump-v.result) c.args.g.now c.jump-v.new.r c.jump-v.new.x c.through_layers.new.r c.through_layers.new.x
    = simp (to_z-of_z, c.ranges.n, number, sum) at c.through_layers.ensures in
    let d = jumped_layered all c.requires.x_value jumped e in
    let parts : Answered c.args.d c.args.n c.args.g.now c.args.r.now c.through_layers.new.r c.through_layers.new.x =
    subst (λ d. Answered d c.args.n c.args.g.now c.args.r.now c.through_layers.new.r c.through_layers.new.x) (sym c.if-d-eq4.true)
    (left_is (known all) d.moves, λ F vs t m q. nearest-is m c.args.n q d.moves d.none) in record {
      r_after = parts.0;
      x_after = parts.1;
    }

pub descend-requires : goal.descend-requires
descend-requires c =
    let small : length c.args.x.now ≡ 4 =
    ap length c.requires.x_value in
    -- fewer
    let few : c.args.d ≤ 3 =
    omega (arith, c.requires.d_bound, c.if-d-eq4.false) in
    record {
      k_bound = few;
      known = known (jumped_known c.requires.known_near c.jump-v.ensures);
      bounded = jumped_small c.requires.d_bound c.requires.known_near c.requires.x_value c.jump-v.ensures;
    }

pub returns : goal.returns
returns c =
    -- fewer
    let few : c.args.d ≤ 3 =
    omega (arith, c.requires.d_bound, c.if-d-eq4.false) in
    let p = jumped_searched c.requires.known_near c.requires.x_value c.jump-v.ensures c.descend.ensures in record {
      r_after = left_is (known c.requires.known_near) p;
      x_after = λ F vs t m q. nearest-among few m.meant p c.descend.ensures.none;
    }
