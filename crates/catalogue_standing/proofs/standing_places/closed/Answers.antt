-- One step after the other.
use Rattle.std.proofs.Common.{◌≡◌, take, length, arith, subst, length-take-le}
use Rattle.catalogue_standing.specs.Places.{Firsts}
use Rattle.catalogue_standing.specs.SameLattice.{lefts_in}
use Rattle.catalogue_standing.specs.ReducedEntries.{keeps-fair, keeps-firsts, keeps-cut}
use Rattle.catalogue_standing.specs.Standers.{standers_cut}
use Rattle.catalogue_standing.proofs.standing_places.closed.Goals as goal

pub firsts-places-requires-clause-by_index : goal.firsts-places-requires-clause-by_index
firsts-places-requires-clause-by_index c =
    let l = c.args.entries.now in
    let n : length (take (length l) c.args.list.now) ≡ length l = length-take-le (length l) c.args.list.now c.requires.hold_reduced.room in
    λ j h. keeps-fair l c.requires.was_read (keeps-cut c.requires.hold_reduced) j (omega (arith, n, h))

pub returns-clause-standing_places : goal.returns-clause-standing_places
returns-clause-standing_places c =
    let l = c.args.entries.now in
    let list = take (length l) c.args.list.now in
    let n : length list ≡ length l = length-take-le (length l) c.args.list.now c.requires.hold_reduced.room in
    let firsts : Firsts (lefts_in list) (length l) c.firsts-places.result = subst (λ n. Firsts (lefts_in list) n c.firsts-places.result) n c.firsts-places.ensures in
    standers_cut l c.requires.was_read (keeps-firsts l c.requires.was_read (keeps-cut c.requires.hold_reduced) firsts) firsts.long c.marks-marks.ensures c.standers.ensures
