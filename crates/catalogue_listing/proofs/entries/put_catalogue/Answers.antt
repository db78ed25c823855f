-- The list is closed, then written.
use Rattle.std.proofs.Common.{ap, subst, map, length, length-append, arith}
use Rattle.fold_rules.specs.Fold.{standing_in, closed_list}
use Rattle.fold_rules.specs.Listing.{entry_lines}
use Rattle.catalogue_records.specs.EntriesIn.{entry_in}
use Rattle.text_output.specs.Puts.{Puts, puts_then}
use Rattle.catalogue_listing.specs.Counts.{counts_line, counts-text}
use Rattle.catalogue_listing.proofs.entries.put_catalogue.Goals as goal

pub put_counts-n-requires : goal.put_counts-n-requires
put_counts-n-requires c =
    let l = c.args.entries.now in
    let ss = closed_list (map entry_in l) in
    let first = counts-text l c.requires.was_read c.closed-standing.ensures.standing_places (omega (arith, c.requires.was_read.few, c.closed-standing.ensures.result_len)) c.count_standing-own.ensures in
    omega (arith, c.requires.entries_in_bounds, ap length first, length-append (counts_line (length ss) (length (standing_in ss))) (entry_lines ss ss))

pub put_entries-requires-clause-entries_in_bounds : goal.put_entries-requires-clause-entries_in_bounds
put_entries-requires-clause-entries_in_bounds c =
    let l = c.args.entries.now in
    let ss = closed_list (map entry_in l) in
    let first = counts-text l c.requires.was_read c.closed-standing.ensures.standing_places (omega (arith, c.requires.was_read.few, c.closed-standing.ensures.result_len)) c.count_standing-own.ensures in
    omega (
      arith,
      c.requires.entries_in_bounds,
      ap length first,
      length-append (counts_line (length ss) (length (standing_in ss))) (entry_lines ss ss),
      c.put_counts-n.ensures.place,
      c.put_counts-n.auto.out,
    )

pub returns : goal.returns
returns c =
    let l = c.args.entries.now in
    let first = counts-text l c.requires.was_read c.closed-standing.ensures.standing_places (omega (arith, c.requires.was_read.few, c.closed-standing.ensures.result_len)) c.count_standing-own.ensures in
    puts_then (subst (λ t. Puts t c.args.out.now 0 c.put_counts-n.new.out c.put_counts-n.result) first c.put_counts-n.ensures) c.put_entries.ensures
