-- The vectors of the other lattice are short.
use Rattle.std.specs.Prelude.{[], pos, ◌≤ℤ◌}
use Rattle.std.proofs.Common.{subst, get_or-take}
use Rattle.lattices.specs.Vector.{N}
use Rattle.lattice_membership.proofs.holds_lattice.Goals as goal

pub holds_all-requires : goal.holds_all-requires
holds_all-requires c =
    let k = c.requires.1 in record {
      known = c.requires.0;
      count_le_most_vectors = k.few;
      by_index = λ i h. subst (λ v. N v ≤ℤ pos 400000000) (get_or-take c.args.other.now.d c.args.other.now.vectors i [] h) (k.short i);
    }
