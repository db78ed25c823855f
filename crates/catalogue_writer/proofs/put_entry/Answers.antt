-- Head and coordinates, then the mark, then the see word.
use Rattle.std.proofs.Common.{◌≡◌, subst, ◌++◌, ◌+◌, arith, length, length-append}
use Rattle.catalogue_rules.specs.Write.{draft_words, see_words, entry_words}
use Rattle.catalogue_records.specs.EntriesIn.{entry_in}
use Rattle.catalogue_writer.specs.Puts.{Puts, puts_both}
use Rattle.catalogue_writer.specs.Loads.{basis_words, length-parts, entry-parts}
use Rattle.catalogue_writer.proofs.put_entry.Goals as goal

pub returns : goal.returns
returns c =
    let e = entry_in c.args.e.now in
    let ws = basis_words e in
    let ds = draft_words e.draft in
    let split : length (entry_words e) ≡ length ws + length ds + length (see_words e.see) = length-parts e in
    subst (λ ws. Puts c.args.out.now c.args.k ws c.put_see.new.out c.put_see.result) (entry-parts e)
    (puts_both (ws ++ ds) (see_words e.see) (omega (arith, split, c.requires.room, length-append ws ds))
    (puts_both ws ds (omega (arith, split, c.requires.room)) c.put_basis-n.ensures c.put_draft-s.ensures) c.put_see.ensures)
