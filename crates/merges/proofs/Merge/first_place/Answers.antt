use Rattle.std.proofs.Common.{◌≡◌, ◌<◌, false, true, ◌&&◌, sym, ap, ap₂, ◌∙◌, subst, ℕ, take, length, get_or, eqb, eq-eqb, ne_eqb, arith, get_or-take}
use mir.Syntax.{w64}
use mir.Val.{of_z}
use Rattle.catalogue_records.specs.EntriesIn.{entry_in}
use Rattle.catalogue_standing.specs.Places.{before_more}
use Rattle.fold_rules.specs.Fold.{same_lattice}
use Rattle.fold_rules.proofs.Laws.SameLattice.{Sound}
use Rattle.merges.specs.declared.Item.{Item}
use Rattle.merges.specs.declared.Merge.{Merge}
use Rattle.merges.specs.Stored.{no_item, item_in}
use Rattle.merges.specs.IsMerge.{item_at, IsMerge}
use Rattle.merges.specs.Entries.{room, length_taken, sound-at}
use Rattle.merges.specs.Growing.{is_first_of, other-square}
use Rattle.merges.proofs.Merge.first_place.Goals.{else-i-j-via-then-i-j+then-i-square+else-same, else-i-j-via-then-i-j+else-i-square, else-i-j-via-else-i-j}
use Rattle.merges.proofs.Merge.first_place.Goals as goal

-- entry j
module _ (s : Merge) (p : IsMerge s) (j : ℕ) (h : j < length (take s.count s.items)) where
  below : j < s.count
  below = omega (arith, length_taken s (room s p), h)

  item_is : item_at s j ≡ get_or (take s.count s.items) j no_item
  item_is = sym (get_or-take s.count s.items j no_item below)

pub same-requires-clause-sound : goal.same-requires-clause-sound
same-requires-clause-sound c =
    let s = c.args.self.now in
    let p = c.requires.merge in
    let j = c.loop-j.j in
    let h = c.loop-j-test.true in
    (subst (λ (i : Item). Sound (item_in i)) (item_is s p j h) (sound-at s p j (below s p j h)), c.requires.sound)

pub returns-then-same : goal.returns-then-same
returns-then-same c =
    let s = c.args.self.now in
    let p = c.requires.merge in
    let j = c.loop-j.j in
    let x = entry_in c.args.e.now in
    let h = c.loop-j-test.true in
    let here : is_first_of c.args.self.now (entry_in c.args.e.now) c.loop-j.j ≡ true =
    subst (λ (i : Item). (eqb i.first j && same_lattice (item_in i) x) ≡ true) (sym (item_is s p j h)) (ap₂ ◌&&◌ (eq-eqb _ _ c.if-i-j.true) (sym c.same.ensures ∙ c.if-same.true)) in
    record { within = omega (arith, below s p j h); before = c.loop-j.invariant; here = λ _. here }

pub loop-j-preserved : goal.loop-j-preserved
loop-j-preserved c =
    let s = c.args.self.now in
    let p = c.requires.merge in
    let j = c.loop-j.j in
    let x = entry_in c.args.e.now in
    let h = c.loop-j-test.true in
    let i = item_is s p j h in
    let other : is_first_of c.args.self.now (entry_in c.args.e.now) c.loop-j.j ≡ false = elim c.else-i-j.branch [
      | else-i-j-via-then-i-j+then-i-square+else-same w ↦
          subst (λ (i : Item). (eqb i.first j && same_lattice (item_in i) x) ≡ false) (sym i) (ap₂ ◌&&◌ (eq-eqb _ _ w.if-i-j.true) (sym w.same.ensures ∙ w.if-same.false))
      | else-i-j-via-then-i-j+else-i-square w ↦
          ap₂ ◌&&◌ (ap (λ i. eqb i.first j) i ∙ eq-eqb _ _ w.if-i-j.true)
          (other-square s p j (below s p j h) x c.requires.sound (λ q. w.if-i-square.false (ap (of_z w64) (ap (λ i. i.shortest) (sym i) ∙ q ∙ sym c.requires.square_value))))
      | else-i-j-via-else-i-j w ↦ ap (λ b. b && same_lattice (item_in (item_at s j)) x) (ap (λ i. eqb i.first j) i ∙ ne_eqb _ _ w.if-i-j.false)
    ] in
    before_more (is_first_of s x) j c.loop-j.invariant other
