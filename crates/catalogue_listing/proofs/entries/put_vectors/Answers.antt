use Rattle.std.proofs.Common.{◌≡◌, ap, subst, [], take, length, arith}
use Rattle.fold_rules.specs.Listing.{vector_lines}
use Rattle.lattice_membership.specs.declared.Lattice.{Lattice}
use Rattle.lattice_membership.specs.Known.{left_in, vectors_in}
use Rattle.text_output.specs.Puts.{Puts, puts_none}
use Rattle.text_output.specs.Joined.{joined, joined-room, puts-next, puts-all}
use Rattle.catalogue_listing.specs.Lines.{vector_line, vectors-joined}
use Rattle.catalogue_listing.specs.Entries.{vectors_of}
use Rattle.catalogue_listing.proofs.entries.put_vectors.Goals as goal

lines : (k : Lattice) → joined (vector_line k.m) (take k.d k.vectors) ≡ vector_lines (vectors_of (left_in k))
lines k = vectors-joined k.m (vectors_in k)

pub loop-v-init : goal.loop-v-init
loop-v-init c = puts_none _ _

pub put_vector-n-requires-clause-v_in_bounds : goal.put_vector-n-requires-clause-v_in_bounds
put_vector-n-requires-clause-v_in_bounds c =
    let k = c.args.l.now in
    omega (
      arith,
      c.loop-v.auto.out,
      c.requires.l_in_bounds,
      ap length (lines c.args.l.now),
      c.loop-v.invariant.place,
      joined-room (vector_line c.args.l.now.m) (take c.args.l.now.d c.args.l.now.vectors) c.loop-v.v-index [] c.loop-v-test.true,
    )

pub loop-v-preserved : goal.loop-v-preserved
loop-v-preserved c =
    puts-next (vector_line c.args.l.now.m) (take c.args.l.now.d c.args.l.now.vectors) c.loop-v.v-index [] c.loop-v-test.true c.loop-v.invariant c.put_vector-n.ensures

pub returns : goal.returns
returns c =
    subst (λ t. Puts t c.args.out.now c.args.at c.loop-v.out c.loop-v.n) (lines c.args.l.now)
    (puts-all (vector_line c.args.l.now.m) (take c.args.l.now.d c.args.l.now.vectors) c.loop-v.v-index c.loop-v-test.false c.loop-v.invariant)
