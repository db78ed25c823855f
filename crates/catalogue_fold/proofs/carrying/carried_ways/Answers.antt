use Rattle.std.proofs.Common.{◌≡◌, ◌∙◌, ap, subst, length, get_or, map, arith}
use Rattle.std.proofs.lemmas.List.{length-map}
use Rattle.catalogue_records.specs.EntriesIn.{entry_in}
use Rattle.catalogue_records.specs.Entries.{beyond, entry_at}
use Rattle.catalogue_fold.specs.Printing.{Led}
use Rattle.catalogue_fold.specs.Carrying.{carrying_none, carrying_step}
use Rattle.catalogue_fold.proofs.carrying.carried_ways.Goals as goal

pub loop-k-init : goal.loop-k-init
loop-k-init c = carrying_none (map entry_in c.args.entries.now) (entry_in beyond) c.args.standing.now c.requires.was_read.formed.entered.few

pub loop-k-preserved : goal.loop-k-preserved
loop-k-preserved c =
    let l = c.args.entries.now in
    let ns = c.args.numbers.now in
    let places = c.args.standing.now in
    let k = c.loop-k.k in
    let n : length ns ≡ length l = ap length c.requires.numbers_value ∙ length-map l (λ e. e.number) in
    let led = subst (λ n. Led (entry_at l k) (get_or ns (get_or places k 0) 0) ns places n c.way_of-w.result) n c.way_of-w.ensures in
    carrying_step l c.requires.was_read c.requires.standing_places c.requires.numbers_value k (omega arith) c.loop-k.invariant led c.considered.ensures
