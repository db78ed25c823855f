-- `lattice` is the greedy steps on the vectors, and the lattice made of what they leave.
use Rattle.std.specs.Prelude.{◌≡◌, refl, []}
use Rattle.std.proofs.Common.{sym, ap, ◌∙◌, subst}
use Rattle.lattices.specs.Refusal.{Input}
use Rattle.lattices.specs.Answer.{reduction_of}
use Rattle.greedy_reduction.specs.Accepted.{accepted}
use Rattle.lattice_membership.specs.Known.{ReducedBasis}
use Rattle.lattice_membership.specs.Laws.Accepted.{accepted-basis}
use Rattle.engine.specs.Laws.Answer.{finished, begins, outcome_of, begun_small, basis-is, accepted-answer}
use Rattle.reduced_lattices.proofs.lattice.Goals as goal

pub basis-vectors-requires : goal.basis-vectors-requires
basis-vectors-requires c =
    let i : Input = record { numbers = c.args.numbers.now; d = c.args.d; m = c.args.m; target = [] } in
    let a = accepted i c.requires in record {
      d_le_most_vectors = a.most;
      m_le_most_coordinates = a.few;
      numbers_len = a.count;
    }

pub formed-g-requires : goal.formed-g-requires
formed-g-requires c =
    let i : Input = record { numbers = c.args.numbers.now; d = c.args.d; m = c.args.m; target = [] } in
    record { d_bound = (accepted i c.requires).most; by_index = λ j k l. rw c.basis-vectors.ensures (begun_small i c.requires j k) }

pub unit_table-e-requires : goal.unit_table-e-requires
unit_table-e-requires c =
    let i : Input = record { numbers = c.args.numbers.now; d = c.args.d; m = c.args.m; target = [] } in
    (accepted i c.requires).most

pub reduce_first-w-requires : goal.reduce_first-w-requires
reduce_first-w-requires c =
    let i : Input = record { numbers = c.args.numbers.now; d = c.args.d; m = c.args.m; target = [] } in record {
      n_bound = (accepted i c.requires).most;
      reducible = begins i c.requires (record { count = refl; rows = c.basis-vectors.ensures }) c.formed-g.ensures c.unit_table-e.ensures;
    }

pub lattice_of-requires : goal.lattice_of-requires
lattice_of-requires c =
    let i : Input = record { numbers = c.args.numbers.now; d = c.args.d; m = c.args.m; target = [] } in
    let o = outcome_of i c.requires (record { count = refl; rows = c.basis-vectors.ensures }) c.formed-g.ensures c.unit_table-e.ensures c.reduce_first-w.ensures in
    subst (ReducedBasis c.args.d) (sym (basis-is i c.requires _ _ o)) (accepted-basis i c.requires)

pub returns : goal.returns
unfolding finished
returns c =
    let i : Input = record { numbers = c.args.numbers.now; d = c.args.d; m = c.args.m; target = [] } in
    let o = outcome_of i c.requires (record { count = refl; rows = c.basis-vectors.ensures }) c.formed-g.ensures c.unit_table-e.ensures c.reduce_first-w.ensures in
    -- the answer of the reduction
    let answer : finished c.reduce_first-w.new.g c.reduce_first-w.result ≡ reduction_of i = accepted-answer i c.requires _ _ o in record {
      known = c.lattice_of.ensures.known;
      chosen = c.lattice_of.ensures.chosen;
      result_value = c.lattice_of.ensures.result_value ∙ (λ k. record {
        d = c.args.d;
        m = c.args.m;
        vectors = (answer k).basis;
        squares = (c.diagonal.ensures ∙ ap (λ r. r.squares) answer) k;
        passes = (answer k).passes;
      });
    }
