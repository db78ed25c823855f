-- The entries of a merge by their index, and what is known of each.
use Rattle.std.specs.Prelude.{◌≡◌, map, ℕ, ◌≤◌, ◌<◌, length, get_or, take}
use Rattle.std.proofs.Common.{ap, ◌∙◌, subst, arith, get_or-take, length-take-le}
use Rattle.std.proofs.lemmas.List.{length-map}
use Rattle.integers.specs.AllLaws.{all-at, get_d_map}
use Rattle.catalogue_rules.specs.Catalogue.{Entry}
use Rattle.catalogue_rules.specs.Form.{EntryFits, EntryIndependent, entry_at}
use Rattle.catalogue_rules.proofs.Laws.Placed.{length-placed}
use Rattle.fold_rules.proofs.Laws.SameLattice.{Sound}
use Rattle.catalogue_standing.specs.ReducedEntry.{no_reduced, reduced_entry}
use Rattle.merge_rules.proofs.Laws.Placing.{At, placed_at}
use Rattle.merge_rules.proofs.Laws.Kept.{Kept, every_merge}
use Rattle.merges.specs.declared.Item.{Item}
use Rattle.merges.specs.declared.Merge.{Merge}
use Rattle.merges.specs.Stored.{no_item, item_in, items_in, merge_in}
use Rattle.merges.specs.IsMerge.{item_at, lefts_in, IsMerge}

module _ (s : Merge) (room : s.count ≤ length s.items) where
  pub length_taken : length (take s.count s.items) ≡ s.count
  length_taken = length-take-le s.count s.items room

  pub length_items : length (items_in s) ≡ s.count
  length_items = length-map (take s.count s.items) item_in ∙ length_taken

  -- what is kept of entry k of each
  pub taken_at : {A : Type 0} (f : Item → A) (z : A) (k : ℕ) → k < s.count → get_or (map f (take s.count s.items)) k z ≡ f (item_at s k)
  taken_at f z k h = get_d_map f (take s.count s.items) no_item z k (omega (arith, length_taken)) ∙ ap f (get_or-take s.count s.items k no_item h)

  -- what the reduction of entry k leaves
  pub left_by : (k : ℕ) → k < s.count → get_or (lefts_in s) k no_reduced ≡ reduced_entry (item_in (item_at s k))
  left_by k h = get_d_map reduced_entry (items_in s) (item_in (item_at s k)) no_reduced k (omega (arith, length_items)) ∙ ap reduced_entry (taken_at item_in (item_in (item_at s k)) k h)

module _ (s : Merge) (p : IsMerge s) where
  pub room : s.count ≤ length s.items
  room = omega (arith, p.few, p.long)

  pub kept : Kept (merge_in s)
  kept = every_merge p.made

  pub length_in : length (merge_in s).entries ≡ s.count
  length_in = length-placed 0 (items_in s) ∙ length_items s room

  -- entry k in the file of the merge
  pub in_file : (o : Entry) (k : ℕ) → k < s.count → At (item_in (item_at s k)) (get_or (merge_in s).entries k o)
  in_file o k h =
      let a = placed_at 0 (items_in s) o k (omega (arith, length_items s room)) in
      record { place = a.place; is = a.is ∙ ap (entry_at a.place) (taken_at s room item_in o k h) }

  pub sound-at : (k : ℕ) → k < s.count → Sound (item_in (item_at s k))
  sound-at k h =
      let o = item_in (item_at s k) in
      let a = in_file o k h in
      let inside : k < length (merge_in s).entries = omega (arith, length_in) in
      let f : EntryFits (entry_at a.place o) = subst EntryFits a.is (all-at EntryFits (merge_in s).entries o kept.entered.fits k inside) in
      let d : EntryIndependent (entry_at a.place o) = subst EntryIndependent a.is (all-at EntryIndependent (merge_in s).entries o kept.independent k inside) in
      record {
        fits = record { head = record { number = f.head.number; d = f.head.d; m = f.head.m }; count = f.count; vectors = f.vectors };
        independent = d;
      }

  pub left_at : (k : ℕ) → k < s.count → get_or (lefts_in s) k no_reduced ≡ reduced_entry (item_in (item_at s k))
  left_at = left_by s room
