use Rattle.std.proofs.Common.{◌≡◌, ap, ◌∙◌, subst, List, map, length, arith}
use Rattle.std.proofs.lemmas.List.{length-map}
use Rattle.fold_rules.specs.Fold.{stood_of, closed_list}
use Rattle.catalogue_records.specs.declared.Entry.{Entry}
use Rattle.catalogue_records.specs.EntriesIn.{entry_in}
use Rattle.catalogue_records.specs.Entries.{beyond}
use Rattle.catalogue_standing.specs.ReducedEntries.{WasRead, ready-length, filled-cut}
use Rattle.text_output.specs.Puts.{Puts}
use Rattle.text_output.specs.Joined.{joined-room, puts-next, puts-all}
use Rattle.catalogue_listing.specs.Entries.{shown, entries-joined, kept_entry, entry-shown}
use Rattle.catalogue_listing.proofs.entries.put_entries.Goals as goal

count : (l : List Entry) → WasRead l → length (closed_list (map entry_in l)) ≡ length l
count l r = length-map (map entry_in l) (stood_of (map entry_in l)) ∙ ready-length l r

pub put_entry-n-requires-clause-full : goal.put_entry-n-requires-clause-full
put_entry-n-requires-clause-full c =
    let l = c.args.entries.now in
    let named = filled-cut 0 (λ e. e.number) l c.requires.was_read.few c.numbers-numbers.ensures in
    kept_entry l c.requires.was_read c.requires.hold_reduced c.requires.standing_places named c.loop-k.k c.loop-k-test.true

pub put_entry-n-requires-clause-l_in_bounds : goal.put_entry-n-requires-clause-l_in_bounds
put_entry-n-requires-clause-l_in_bounds c =
    let l = c.args.entries.now in
    let es = map entry_in l in
    let ss = closed_list es in
    let named = filled-cut 0 (λ e. e.number) l c.requires.was_read.few c.numbers-numbers.ensures in
    let text = entry-shown l c.requires.was_read c.requires.hold_reduced c.requires.standing_places named c.loop-k.k c.loop-k-test.true c.way_of-w.ensures c.lead.ensures in
    omega (
      arith,
      c.loop-k.auto.out,
      c.requires.entries_in_bounds,
      ap length (entries-joined ss ss),
      c.loop-k.invariant.place,
      joined-room (shown ss) ss c.loop-k.k (stood_of es (entry_in beyond)) (omega (arith, count l c.requires.was_read)),
      ap length text,
    )

pub loop-k-preserved : goal.loop-k-preserved
loop-k-preserved c =
    let l = c.args.entries.now in
    let es = map entry_in l in
    let ss = closed_list es in
    let named = filled-cut 0 (λ e. e.number) l c.requires.was_read.few c.numbers-numbers.ensures in
    let text = entry-shown l c.requires.was_read c.requires.hold_reduced c.requires.standing_places named c.loop-k.k c.loop-k-test.true c.way_of-w.ensures c.lead.ensures in
    puts-next (shown ss) ss c.loop-k.k (stood_of es (entry_in beyond)) (omega (arith, count l c.requires.was_read)) c.loop-k.invariant
    (subst (λ t. Puts t c.loop-k.out c.loop-k.n c.put_entry-n.new.out c.put_entry-n.result) text c.put_entry-n.ensures)

pub returns : goal.returns
returns c =
    let ss = closed_list (map entry_in c.args.entries.now) in
    subst (λ t. Puts t c.args.out.now c.args.at c.loop-k.out c.loop-k.n) (entries-joined ss ss)
    (puts-all (shown ss) ss c.loop-k.k (omega (arith, count c.args.entries.now c.requires.was_read)) c.loop-k.invariant)
