-- A checked entry was found, or all are drafts.
use Rattle.std.proofs.Common.{length}
use Rattle.catalogue_standing.specs.Standers.{stander_found}
use Rattle.catalogue_standing.proofs.standing_places.stander.Goals as goal

pub returns : goal.returns
returns c =
    let found = stander_found c.args.firsts.now c.args.marks.now (length c.args.firsts.now) c.args.f c.requires.f_lt_len c.requires.f_value c.checked_place.result c.checked_place.ensures in
    rw c.unwrap_or.ensures found
