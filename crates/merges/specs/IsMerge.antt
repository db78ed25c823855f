-- Which values are merges: those that calls made, with what is kept beside the entries.
use Rattle.std.specs.Prelude.{◌≡◌, List, map, ℕ, ◌≤◌, ◌<◌, ℤ, pos, length, get_or}
use Rattle.integers.specs.Filled.{filled}
use Rattle.catalogue_rules.specs.Catalogue.{coordinates, most_entries, most_numbers}
use Rattle.lattice_membership.specs.Known.{Left}
use Rattle.catalogue_standing.specs.ReducedEntry.{reduced_entry}
use Rattle.catalogue_standing.specs.Places.{Firsts}
use Rattle.merge_rules.specs.Merge.{Made}
use Rattle.merges.specs.declared.Item.{Item}
use Rattle.merges.specs.declared.Merge.{Merge}
use Rattle.merges.specs.Stored.{no_item, vectors_in, item_in, items_in, merge_in}

-- the squared length of a shortest vector, of what a reduction leaves
abbrev pub shortest_of : Left → ℤ
shortest_of l = get_or l.squares 0 (pos 0)

-- what is kept of entry k
abbrev pub item_at : Merge → ℕ → Item
item_at s k = get_or s.items k no_item

-- what the reduction of each entry leaves
abbrev pub lefts_in : Merge → List Left
lefts_in s = map reduced_entry (items_in s)

-- a merge made by calls: of each entry zeros stand after its coordinates; beside it there are kept the first of its lattice and how short a vector that has
pub record IsMerge (s : Merge) : Type 0 where
  pub made : Made (merge_in s)
  pub few : s.count ≤ most_entries
  pub long : length s.items ≡ most_entries
  pub zeros : (k : ℕ) → k < s.count → (item_at s k).vectors.coordinates ≡ filled (pos 0) most_numbers (coordinates (vectors_in (item_at s k).vectors))
  pub shortest : (k : ℕ) → k < s.count → (item_at s k).shortest ≡ shortest_of (reduced_entry (item_in (item_at s k)))
  pub firsts : Firsts (lefts_in s) s.count (map (λ i. i.first) s.items)
