-- The array holds the vectors, filled up with zeros.
use mathlib.Core.Path.{ap, ◌∙◌}
use lib.ListN.{take}
use Rattle.integers.specs.Every.{every}
use Rattle.lattices.specs.Refusal.{vectors_of}
use Rattle.lattices.specs.Laws.Answer.{length-vectors_of}
use Rattle.successive_minima.specs.Member.{is_member}
use Rattle.greedy_reduction.specs.Accepted.{vectors_of-full}
use Rattle.lattice_membership.specs.Known.{vectors_in}
use Rattle.lattice_membership.specs.Laws.Accepted.{rows_short, table-first}
use Rattle.lattice_membership.proofs.holds_numbers.Goals as goal

pub holds_all-requires : goal.holds_all-requires
holds_all-requires c =
    let a = c.args in
    let vs = vectors_of a.d a.m a.numbers.now in
    let p = c.requires in
    let full = vectors_of-full a.d a.m a.numbers.now p.numbers_len in
    let count = length-vectors_of a.d a.m a.numbers.now in record {
      known = p.known;
      count_le_most_vectors = p.shape.0;
      by_index = rows_short a.m p.shape.1 vs full a.d count _ (ap (take a.d) c.basis.ensures ∙ table-first a.m p.shape.1 vs full a.d count p.shape.0) p.short;
    }

pub returns : goal.returns
returns c =
    let a = c.args in
    let n = a.numbers.now in
    c.holds_all.ensures ∙ ap (every (is_member (vectors_in a.l.now)))
    (ap (take a.d) c.basis.ensures ∙ table-first a.m c.requires.shape.1 (vectors_of a.d a.m n) (vectors_of-full a.d a.m n c.requires.numbers_len) a.d (length-vectors_of a.d a.m n) c.requires.shape.0)
