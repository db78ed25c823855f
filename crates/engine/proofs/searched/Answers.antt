-- `searched`: the search, and what it leaves of the target.
use Rattle.std.specs.Prelude.{◌≤◌, ◌*◌}
use Rattle.std.proofs.Common.{arith, rules, to_z-of_z, w64}
use Rattle.successive_minima.specs.Laws.Digits.{Bounded}
use Rattle.lattices.specs.Laws.Vector.{≈_of_≡}
use Rattle.nearest_search.specs.Near.{coordinates, left-bounded}
use Rattle.row_operations.specs.Dot.{weight, weight-entries}
use Rattle.engine.specs.Laws.Nearest.{vector-room}
use Rattle.engine.proofs.searched.Goals as goal

pub lose-requires : goal.lose-requires
lose-requires c = (
  search rules,
  vector-room c.args.t.now c.lose_nearest.new.t (coordinates c.args.t.now c.requires.near.target) (left-bounded c.requires.near (≈_of_≡ c.lose_nearest.ensures.t_after)),
)

pub dot-requires : goal.dot-requires
dot-requires c =
    let small : Bounded 100000 c.lose_nearest.new.t = left-bounded c.requires.near (≈_of_≡ c.lose_nearest.ensures.t_after) in
    let h : weight c.lose_nearest.new.t c.lose_nearest.new.t ≤ 8 * (100000 * 100000) = weight-entries 8 c.lose_nearest.new.t c.lose_nearest.new.t (search rules) small small in
    (search rules, omega (arith, h))

pub returns : goal.returns
returns c = record {
  rest = c.lose_nearest.new.t;
  places = c.lose_nearest.array_long;
  left = ≈_of_≡ c.lose_nearest.ensures.t_after;
  vector = c.lose.ensures;
  coefficients = c.lose_nearest.ensures.value;
  solution = c.lose_nearest.ensures.padded_tenths;
  square = rw (to_z-of_z {w = w64} (record { sfits = c.dot.type_inv })) c.dot.ensures;
}
