use Rattle.std.proofs.Common.{◌≡◌, ◌<◌, ◌≤◌, ap, ap₂, ◌∙◌, sym, subst, ℕ, pos, map, take, length, get_or, arith, get_or-take, take_all}
use Rattle.integers.specs.Filled.{filled}
use Rattle.catalogue_rules.specs.Catalogue.{coordinates, most_entries, most_numbers}
use Rattle.catalogue_rules.specs.Form.{EntryFits, placed}
use Rattle.catalogue_records.specs.Catalogues.{stored, holding}
use Rattle.merges.specs.declared.Item.{Item}
use Rattle.merges.specs.declared.Merge.{Merge}
use Rattle.merges.specs.Stored.{no_item, vectors_in, item_in}
use Rattle.merges.specs.IsMerge.{item_at, IsMerge}
use Rattle.merges.specs.Entries.{room, length_taken, length_in, sound-at}
use Rattle.merges.specs.Filed.{small-place, d-most, m-most, past-most, filed-more}
use Rattle.merges.proofs.Merge.catalogue.Goals as goal

-- entry k
module _ (s : Merge) (p : IsMerge s) (k : ℕ) (h : k < length (take s.count s.items)) where
  below : k < s.count
  below = omega (arith, length_taken s (room s p), h)

  same : item_at s k ≡ get_or (take s.count s.items) k no_item
  same = sym (get_or-take s.count s.items k no_item below)

  few : length (take s.count s.items) ≤ most_entries
  few = omega (arith, length_taken s (room s p), p.few)

  fits : EntryFits (item_in (get_or (take s.count s.items) k no_item))
  fits = subst (λ (i : Item). EntryFits (item_in i)) same (sound-at s p k below).fits

  zeros : (get_or (take s.count s.items) k no_item).vectors.coordinates ≡ filled (pos 0) most_numbers (coordinates (vectors_in (get_or (take s.count s.items) k no_item).vectors))
  zeros = subst (λ (i : Item). i.vectors.coordinates ≡ filled (pos 0) most_numbers (coordinates (vectors_in i.vectors))) same (p.zeros k below)

pub see_place-past-requires : goal.see_place-past-requires
see_place-past-requires c =
    let s = c.args.self.now in
    let k = c.loop-k.k in
    let h = c.loop-k-test.true in
    let l = take c.args.self.now.count c.args.self.now.items in
    let p = c.requires in
    let f = fits s p k h in
    let z = zeros s p k h in
    (small-place l k h (few s p k h) f z c.loop-k.invariant, (d-most l k h (few s p k h) f z c.loop-k.invariant, m-most l k h (few s p k h) f z c.loop-k.invariant))

pub after-place-requires : goal.after-place-requires
after-place-requires c =
    let s = c.args.self.now in
    let k = c.loop-k.k in
    let h = c.loop-k-test.true in
    let p = c.requires in
    subst (λ n. n ≤ 9600) (sym c.see_place-past.ensures) (past-most (take c.args.self.now.count c.args.self.now.items) k h (few s p k h) (fits s p k h) (zeros s p k h) c.loop-k.invariant)

pub loop-k-preserved : goal.loop-k-preserved
loop-k-preserved c =
    let s = c.args.self.now in
    let k = c.loop-k.k in
    let h = c.loop-k-test.true in
    let p = c.requires in
    filed-more (take c.args.self.now.count c.args.self.now.items) k h (few s p k h) (fits s p k h) (zeros s p k h) c.loop-k.invariant c.see_place-past.ensures c.entry.ensures c.after-place.ensures

pub returns : goal.returns
returns c =
    ap₂ holding (sym (length_in c.args.self.now c.requires))
    (c.loop-k.invariant.are ∙ ap (λ l. stored (placed 0 (map item_in l))) (take_all c.loop-k.k (take c.args.self.now.count c.args.self.now.items) c.loop-k-test.false))
