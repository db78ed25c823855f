use Rattle.std.proofs.Common.{◌≡◌, ap, ◌∙◌, arith, List, ℕ, ◌+◌, ◌<◌, ◌≤◌, length, map, take, set, get_or}
use Rattle.integers.specs.Filled.{filled}
use Rattle.integers.specs.FilledLaws.{filled_more}
use Rattle.catalogue_rules.specs.Catalogue.{most_entries}
use Rattle.merges.specs.declared.Item.{Item}
use Rattle.merges.proofs.rows.numbers.Goals as goal

-- one number more
more : (l : List Item) (ns : List ℕ) (k : ℕ) (d : Item) → ns ≡ filled 0 most_entries (map (λ i. i.number) (take k l)) → k < length l → length l ≤ most_entries
    → set ns k (get_or l k d).number ≡ filled 0 most_entries (map (λ i. i.number) (take (k + 1) l))
more l ns k d e here few =
    ap (λ ns. set ns k (get_or l k d).number) e ∙ filled_more 0 most_entries (λ i. i.number) l k d (omega arith) here

pub loop-k-preserved : goal.loop-k-preserved
loop-k-preserved c = more c.args.items.now _ c.loop-k.k _ c.loop-k.invariant (omega arith) (omega arith)
