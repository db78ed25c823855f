-- `through_layers` adds what the steps through the layers take.
use mathlib.Core.Path.{refl, ◌∙◌}
use mir.Facts.{to_z-of_z}
use borrow.Author.Rules.{rules}
use Rattle.nearest_search.specs.Taking.{sum_is, sum_room, list-room}
use Rattle.nearest_search.specs.Turns.{Descended}
use Rattle.nearest_search.specs.Descent.{descended-small}
use Rattle.nearest_search.proofs.through_layers.Goals as goal

pub descend-requires : goal.descend-requires
descend-requires c = simp (to_z-of_z, c.ranges.n) (record {
  x_value = refl;
  known_near = c.requires.known_near;
})

pub lose-requires : goal.lose-requires
lose-requires c =
    let rest : Descended c.args.n c.args.g.now c.args.r.now c.descend.new.r c.descend.new.x =
    simp (to_z-of_z, c.ranges.n) at c.descend.ensures in
    (search rules, sum_room c.args.x.now c.descend.new.x (list-room c.args.x.now c.descend.new.x c.requires.bounded (descended-small c.requires.known_near rest)))

pub returns : goal.returns
returns c =
    let rest : Descended c.args.n c.args.g.now c.args.r.now c.descend.new.r c.descend.new.x =
    simp (to_z-of_z, c.ranges.n) at c.descend.ensures in
    record { list = c.descend.new.x; sum = c.lose.ensures ∙ sum_is _ _; descended = rest }
