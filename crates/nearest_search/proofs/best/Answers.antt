-- `best` leaves the layer's numbers to the search.
use mathlib.Core.Path.{◌≡◌, sym, subst}
use mathlib.Core.List.{[], ◌∷◌}
use Prim.Native.Nat.{zero, suc, ◌≤◌}
use lib.IntN.{ℤ, pos, nat_abs}
use lib.ListN.{length, get_or}
use native.Mathlib.Omega.{arith}
use borrow.Author.Rules.{rules}
use mir.Facts.{to_z-of_z}
use Rattle.integers.specs.Size.{within-mul}
use Rattle.nearest_steps.specs.Numbers.{Sized}
use Rattle.nearest_steps.specs.State.{sized}
use Rattle.lattices.specs.Vector.{◌⊖◌, ◌⊙◌}
use Rattle.successive_minima.specs.Laws.Digits.{Bounded}
use Rattle.nearest_search.specs.Best.{layer-searched, best_of}
use Rattle.nearest_search.proofs.best.Goals as goal

pub lose-requires : goal.lose-requires
lose-requires c =
    let size : Sized c.args.g.now c.args.s.now =
    sized c.requires.layer_known.near.meant in
    simp (to_z-of_z, c.ranges.j) (search rules, λ i. omega (arith, (size.products i).within, (within-mul {A = 2} {a = c.args.j} (record { within = c.requires.j_bound }) (size.gram 3 i)).within))

-- the list that is begun with is small
begun : (j : ℤ) → nat_abs j ≤ 2 → Bounded 30000000 (pos 0 ∷ pos 0 ∷ pos 0 ∷ j ∷ [])
begun j h zero = record { within = omega arith }
begun j h (suc zero) = record { within = omega arith }
begun j h (suc (suc zero)) = record { within = omega arith }
begun j h (suc (suc (suc zero))) = record { within = omega arith }
begun j h (suc (suc (suc (suc i)))) = record { within = omega arith }

pub descend-requires : goal.descend-requires
descend-requires c =
    -- the numbers of the layer
    let taken : (c.lose.new.a ≡ c.args.s.now ⊖ c.args.j ⊙ get_or c.args.g.now 3 []) × (length c.lose.new.a ≡ 4) =
    let f : c.lose.new.a ≡ c.args.s.now ⊖ c.args.j ⊙ get_or c.args.g.now 3 [] = simp (to_z-of_z, c.ranges.j) at c.lose.ensures in (f, search rules) in
    record {
      k_bound = omega arith;
      known = layer-searched c.requires.layer_known c.told-g c.told-s c.args.j c.requires.j_bound taken.0 taken.1;
      bounded = begun _ (subst (λ n. nat_abs n ≤ 2) (sym (to_z-of_z c.ranges.j)) c.requires.j_bound);
    }

pub returns : goal.returns
returns c =
    -- the numbers of the layer
    let taken : (c.lose.new.a ≡ c.args.s.now ⊖ c.args.j ⊙ get_or c.args.g.now 3 []) × (length c.lose.new.a ≡ 4) =
    let f : c.lose.new.a ≡ c.args.s.now ⊖ c.args.j ⊙ get_or c.args.g.now 3 [] = simp (to_z-of_z, c.ranges.j) at c.lose.ensures in (f, search rules) in
    best_of c.requires.layer_known c.told-g c.told-s c.args.j c.requires.j_bound taken.0 taken.1 (simp (to_z-of_z, c.ranges.j) at c.descend.ensures)
