use Rattle.std.proofs.Common.{◌≡◌, Bool, false, ap, ◌∙◌, arith, List, ℕ, ◌+◌, ◌<◌, ◌≤◌, length, map, take, set, get_or}
use Rattle.integers.specs.Filled.{filled}
use Rattle.integers.specs.FilledLaws.{filled_more}
use Rattle.catalogue_rules.specs.Catalogue.{most_entries}
use Rattle.catalogue_records.specs.declared.Entry.{Entry}
use Rattle.catalogue_standing.proofs.standing_places.marks.Goals as goal

-- one mark more
more : (l : List Entry) (ms : List Bool) (k : ℕ) (d : Entry) → ms ≡ filled false most_entries (map (λ e. e.draft) (take k l)) → k < length l → length l ≤ most_entries
    → set ms k (get_or l k d).draft ≡ filled false most_entries (map (λ e. e.draft) (take (k + 1) l))
more l ms k d e here few =
    ap (λ ms. set ms k (get_or l k d).draft) e ∙ filled_more false most_entries (λ e. e.draft) l k d (omega arith) here

pub loop-k-preserved : goal.loop-k-preserved
loop-k-preserved c = more c.args.entries.now _ c.loop-k.k _ c.loop-k.invariant (omega arith) (omega arith)
