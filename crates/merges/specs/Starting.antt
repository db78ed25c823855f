-- The empty merge.
use Rattle.std.specs.Prelude.{false, pos, replicate, None}
use Rattle.std.proofs.Common.{arith, ◌∙◌}
use Rattle.std.proofs.lemmas.List.{length-map, length-replicate}
use Rattle.catalogue_rules.specs.Catalogue.{most_entries, most_numbers}
use Rattle.catalogue_standing.specs.Places.{firsts-none}
use Rattle.merge_rules.proofs.Laws.Kept.{made-start}
use Rattle.merges.specs.declared.Item.{Item}
use Rattle.merges.specs.declared.Merge.{Merge}
use Rattle.merges.specs.IsMerge.{IsMerge}

abbrev pub empty_item : Item
empty_item = record { number = 0; draft = false; see = None; vectors = record { d = 0; m = 0; coordinates = replicate most_numbers (pos 0) }; shortest = pos 0; first = 0 }

abbrev pub empty_merge : Merge
empty_merge = record { closed = false; count = 0; items = replicate most_entries empty_item }

pub starts : IsMerge empty_merge
starts = record {
  made = made-start;
  few = omega arith;
  long = length-replicate {A = Item} most_entries empty_item;
  zeros = λ k h. absurd (omega arith);
  shortest = λ k h. absurd (omega arith);
  firsts = firsts-none _ _ (length-map (replicate most_entries empty_item) (λ i. i.first) ∙ length-replicate {A = Item} most_entries empty_item);
}
