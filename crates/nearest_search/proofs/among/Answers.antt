-- `among` searches from 0 or around the solution.
use mathlib.Core.Path.{◌≡◌, refl, sym, ap, subst}
use mathlib.Core.List.{List}
use Prim.Native.Nat.{ℕ}
use native.Mathlib.Omega.{arith}
use lib.IntN.{ℤ, pos, ◌*ℤ◌}
use lib.ListN.{length, take, replicate}
use mir.Facts.{to_z-of_z}
use Rattle.integers.specs.Size.{Within}
use Rattle.integers.specs.ListLaws.{nth-replicate}
use Rattle.lattices.specs.Vector.{Vec, N, nth, comb, ◌⊖◌}
use Rattle.lattices.specs.Nearest.{nearest}
use Rattle.lattices.specs.Answer.{padded}
use Rattle.successive_minima.specs.Laws.Digits.{Bounded}
use Rattle.nearest_steps.specs.Numbers.{Sized}
use Rattle.nearest_steps.specs.Meant.{Known}
use Rattle.nearest_steps.specs.Stepped.{Descends}
use Rattle.nearest_steps.specs.State.{sized}
use Rattle.nearest_steps.specs.End.{left_is, nearest-is}
use Rattle.nearest_search.specs.MeantNear.{MeantNear}
use Rattle.nearest_search.specs.LayerLaws.{known}
use Rattle.nearest_search.proofs.among.Goals as goal

pub along-requires : goal.along-requires
along-requires c =
    let four : length c.args.x.now ≡ 4 =
    ap length c.requires.x_value in
    let zeros : Bounded 30000000 c.args.x.now =
    λ i. subst (λ x. Within 30000000 (nth x i)) (sym c.requires.x_value) (subst (Within 30000000) (sym (nth-replicate 4 i)) (record { within = omega arith })) in
    -- one vector
    let one : 1 ≡ c.args.d =
    omega (arith, c.requires.d_nonzero.0, c.if-d-lt2.true) in
    record {
      known = subst (λ d. Known d c.args.g.now c.args.r.now) (sym one) (known c.requires.known_near);
      bounded = zeros;
    }

pub returns-then-d-lt2 : goal.returns-then-d-lt2
returns-then-d-lt2 c =
    -- what a search from zeros gives
    let searched : (d : ℕ) (r' x' : List ℤ) → d ≡ c.args.d → Descends d c.args.g.now c.args.r.now c.args.x.now r' x'
    → (r' ≡ c.args.r.now ⊖ comb (take c.args.d x') (take c.args.d c.args.g.now))
    × ((F : ℤ) (vs : List Vec) (t : Vec) → MeantNear F c.args.d vs t c.args.g.now c.args.r.now → F *ℤ c.args.n ≡ N t → x' ≡ padded 4 (nearest (take c.args.d vs) t)) =
    λ d r' x' e p. let q = subst (λ d. Descends d c.args.g.now c.args.r.now (replicate 4 (pos 0)) r' x') e (subst (λ x. Descends d c.args.g.now c.args.r.now x r' x') c.requires.x_value p) in
    (left_is (known c.requires.known_near) q.moves, λ F vs t m h. nearest-is c.requires.d_nonzero.1 m.meant q.moves q.none) in
    -- one vector
    let one : 1 ≡ c.args.d =
    omega (arith, c.requires.d_nonzero.0, c.if-d-lt2.true) in
    let parts =
    searched _ _ _ one c.along.ensures in record {
      r_after = parts.0;
      x_after = parts.1;
    }

pub level-requires : goal.level-requires
level-requires c =
    let size : Sized c.args.g.now c.args.r.now =
    sized c.requires.known_near.near.meant in
    record {
      by_index = size.gram;
      bounded = size.products;
    }

pub descend-requires : goal.descend-requires
descend-requires c =
    let four : length c.args.x.now ≡ 4 =
    ap length c.requires.x_value in
    let zeros : Bounded 30000000 c.args.x.now =
    λ i. subst (λ x. Within 30000000 (nth x i)) (sym c.requires.x_value) (subst (Within 30000000) (sym (nth-replicate 4 i)) (record { within = omega arith })) in
    record {
      k_bound = c.requires.d_nonzero.1;
      known = known c.requires.known_near;
      bounded = zeros;
    }

pub returns-then-level : goal.returns-then-level
returns-then-level c =
    -- what a search from zeros gives
    let searched : (d : ℕ) (r' x' : List ℤ) → d ≡ c.args.d → Descends d c.args.g.now c.args.r.now c.args.x.now r' x'
    → (r' ≡ c.args.r.now ⊖ comb (take c.args.d x') (take c.args.d c.args.g.now))
    × ((F : ℤ) (vs : List Vec) (t : Vec) → MeantNear F c.args.d vs t c.args.g.now c.args.r.now → F *ℤ c.args.n ≡ N t → x' ≡ padded 4 (nearest (take c.args.d vs) t)) =
    λ d r' x' e p. let q = subst (λ d. Descends d c.args.g.now c.args.r.now (replicate 4 (pos 0)) r' x') e (subst (λ x. Descends d c.args.g.now c.args.r.now x r' x') c.requires.x_value p) in
    (left_is (known c.requires.known_near) q.moves, λ F vs t m h. nearest-is c.requires.d_nonzero.1 m.meant q.moves q.none) in
    let parts =
    searched _ _ _ refl c.descend.ensures in record {
      r_after = parts.0;
      x_after = parts.1;
    }

pub solution-y-requires : goal.solution-y-requires
solution-y-requires c =
    let size : Sized c.args.g.now c.args.r.now =
    sized c.requires.known_near.near.meant in
    record {
      by_index = size.gram;
      bounded = size.products;
    }

pub around-requires : goal.around-requires
around-requires c = simp (to_z-of_z, c.ranges.n) (record {
  d_bound = omega (arith, c.requires.d_nonzero.1);
  x_value = c.requires.x_value;
  known_near = c.requires.known_near;
})

pub returns : goal.returns
returns c =
    simp (to_z-of_z, c.ranges.n) at c.around.ensures
