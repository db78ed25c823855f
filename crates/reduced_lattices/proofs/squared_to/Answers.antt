-- The Gram matrix of the vectors, the search, and the squared length of what is left.
use Rattle.std.specs.Prelude.{[], ◌≤◌, ◌*◌, pos, ◌≤ℤ◌}
use Rattle.std.proofs.Common.{ap, ◌∙◌, subst, arith, rules, length-take, get_or-take, to_z-of_z, w64, SFits}
use Rattle.lattices.specs.Vector.{Vec, N}
use Rattle.lattices.specs.Laws.Vector.{≈_of_≡}
use Rattle.successive_minima.specs.Laws.Digits.{Bounded}
use Rattle.row_operations.specs.Dot.{weight, weight-entries}
use Rattle.nearest_steps.specs.Searchable.{rows-bounded}
use Rattle.nearest_search.specs.Near.{Near, searchable, coordinates, left-bounded}
use Rattle.nearest_vectors.specs.Numbers.{gram-of}
use Rattle.lattice_membership.specs.declared.Lattice.{Lattice}
use Rattle.lattice_membership.specs.Known.{Known}
use Rattle.reduced_lattices.proofs.squared_to.Goals as goal

near-here : (l : Lattice) (t : Vec) → Known l → N t ≤ℤ pos 400000000 → Near l.d l.vectors t
near-here l t k h = record {
  reduced = k.reduced;
  short = λ i g. subst (λ v. N v ≤ℤ pos 400000000) (get_or-take l.d l.vectors i [] g) (k.short i);
  target = h;
}

pub formed-g-requires : goal.formed-g-requires
formed-g-requires c =
    let k = c.requires.known in record {
      d_bound = k.few;
      by_index = λ i j h. rows-bounded (searchable (omega (arith, k.four.0, k.few)) (near-here c.args.l.now c.args.t.now k c.requires.t_bound)) i h j;
    }

pub dot-requires : goal.dot-requires
dot-requires c =
    let small : Bounded 20000 c.args.t.now = coordinates c.args.t.now c.requires.t_bound in
    let h : weight c.args.t.now c.args.t.now ≤ 8 * (20000 * 20000) = weight-entries 8 c.args.t.now c.args.t.now (search rules) small small in
    (search rules, omega (arith, h))

pub lose_nearest-requires : goal.lose_nearest-requires
lose_nearest-requires c =
    let k = c.requires.known in
    let fits : SFits w64 c.dot.result = record { sfits = c.dot.type_inv } in
    simp (to_z-of_z, fits) (record {
      d_bound = k.few;
      n_value = c.dot.ensures;
      near = near-here c.args.l.now c.args.t.now k c.requires.t_bound;
      gram_of = gram-of _ (omega (arith, length-take c.args.l.now.d c.args.l.now.vectors, k.four.0)) c.formed-g.ensures;
    })

pub dot-requires-2 : goal.dot-requires-2
dot-requires-2 c =
    let small : Bounded 100000 c.lose_nearest.new.t = left-bounded (near-here c.args.l.now c.args.t.now c.requires.known c.requires.t_bound) (≈_of_≡ c.lose_nearest.ensures.t_after) in
    let h : weight c.lose_nearest.new.t c.lose_nearest.new.t ≤ 8 * (100000 * 100000) = weight-entries 8 c.lose_nearest.new.t c.lose_nearest.new.t (search rules) small small in
    (search rules, omega (arith, h))

pub returns : goal.returns
returns c = to_z-of_z {w = w64} (record { sfits = c.dot-2.type_inv }) ∙ c.dot-2.ensures ∙ ap N c.lose_nearest.ensures.t_after
