-- With vectors.
use Rattle.std.proofs.Common.{◌≡◌, subst}
use Rattle.text_output.specs.Puts.{Puts, puts_then}
use Rattle.lattice_membership.specs.Known.{left_in}
use Rattle.catalogue_listing.specs.Entries.{vectors_of, the_line, standing-text}
use Rattle.catalogue_listing.proofs.entries.put_entry.Goals as goal

pub returns : goal.returns
returns c =
    let a = c.args in
    let same : the_line c.from.result c.from-2.result c.from-3.result c.args.l.now.passes (vectors_of (left_in c.args.l.now)) ≡ the_line a.number a.standing a.lead c.args.l.now.passes (vectors_of (left_in c.args.l.now)) =
    λ i. the_line (c.from.ensures i) (c.from-2.ensures i) (c.from-3.ensures i) c.args.l.now.passes (vectors_of (left_in c.args.l.now)) in
    subst (λ t. Puts t a.out.now a.at c.put_vectors.new.out c.put_vectors.result) (standing-text a.number a.standing a.lead a.l.now.passes (vectors_of (left_in a.l.now)) c.if-number-standing.false)
    (puts_then (subst (λ t. Puts t a.out.now a.at c.put_entry_line-n.new.out c.put_entry_line-n.result) same c.put_entry_line-n.ensures) c.put_vectors.ensures)
