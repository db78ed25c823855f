-- An entry of another mark, or of another lattice.
use Rattle.std.proofs.Common.{◌≡◌, false, sym, ◌∙◌}
use Rattle.catalogue_records.specs.EntriesIn.{entry_in}
use Rattle.catalogue_records.specs.Entries.{entry_at}
use Rattle.catalogue_standing.specs.Places.{before_more}
use Rattle.catalogue_standing.specs.OneEntry.{marked_of, marked-test}
use Rattle.catalogue_standing.proofs.standing_entry.first_marked.Goals as goal
use Rattle.catalogue_standing.proofs.standing_entry.first_marked.Goals.{else-f-draft-via-then-f-draft+else-same_entry, else-f-draft-via-else-f-draft}

pub loop-j-preserved : goal.loop-j-preserved
loop-j-preserved c =
    let e = entry_in c.args.e.now in
    let f = entry_in (entry_at c.args.entries.now c.loop-j.j) in
    let here : marked_of c.args.draft e f ≡ false = elim c.else-f-draft.branch [
      | else-f-draft-via-then-f-draft+else-same_entry w ↦ marked-test c.args.draft e f w.if-f-draft.true ∙ sym w.same_entry.ensures ∙ w.if-same_entry.false
      | else-f-draft-via-else-f-draft w ↦ marked-test c.args.draft e f w.if-f-draft.false
    ] in
    before_more (λ j. marked_of c.args.draft e (entry_in (entry_at c.args.entries.now j))) c.loop-j.j c.loop-j.invariant here
