-- A checked entry was found, or all are drafts.
use Rattle.std.proofs.Common.{◌≡◌, ap, ap₂, ◌∙◌, false, not, ◌&&◌, eqb, List, ℕ, ◌<◌, map, length, get_or, eq-eqb, ne_eqb, Some, None}
use Rattle.integers.specs.AllLaws.{get_d_map}
use Rattle.catalogue_standing.specs.Places.{before_more, none_found, place_found}
use Rattle.catalogue_standing.specs.Standers.{checked_at, stander_found}
use Rattle.merges.specs.declared.Item.{Item}
use Rattle.merges.specs.Stored.{no_item}
use Rattle.merges.proofs.looking.stander.Goals.{else-items-j-via-then-items-j+else-not-items-j, else-items-j-via-else-items-j}
use Rattle.merges.proofs.looking.stander.Goals as goal

checked-is : (l : List Item) (f j : ℕ) → j < length l → checked_at (map (λ i. i.first) l) (map (λ i. i.draft) l) f j ≡ (eqb (get_or l j no_item).first f && not (get_or l j no_item).draft)
checked-is l f j h = ap₂ (λ a d. eqb a f && not d) (get_d_map (λ i. i.first) l no_item 0 j h) (get_d_map (λ i. i.draft) l no_item false j h)

pub returns-then-not-items-j : goal.returns-then-not-items-j
returns-then-not-items-j c =
    let l = c.args.items.now in
    let f = c.args.f in
    let j = c.loop-j.j in
    stander_found (map (λ i. i.first) l) (map (λ i. i.draft) l) (length l) f c.requires.f_lt_len c.requires.f_value (Some j)
    (place_found c.loop-j.invariant (checked-is l f j c.loop-j-test.true ∙ ap₂ ◌&&◌ (eq-eqb _ _ c.if-items-j.true) (ap not c.if-not-items-j.true)) c.loop-j-test.true)

pub loop-j-preserved : goal.loop-j-preserved
loop-j-preserved c =
    let l = c.args.items.now in
    let f = c.args.f in
    let j = c.loop-j.j in
    let here : checked_at (map (λ i. i.first) l) (map (λ i. i.draft) l) f j ≡ false = elim c.else-items-j.branch [
      | else-items-j-via-then-items-j+else-not-items-j w ↦ checked-is l f j c.loop-j-test.true ∙ ap₂ ◌&&◌ (eq-eqb _ _ w.if-items-j.true) (ap not w.if-not-items-j.false)
      | else-items-j-via-else-items-j w ↦ checked-is l f j c.loop-j-test.true ∙ ap (λ b. b && not (get_or l j no_item).draft) (ne_eqb _ _ w.if-items-j.false)
    ] in
    before_more (checked_at (map (λ i. i.first) l) (map (λ i. i.draft) l) f) j c.loop-j.invariant here

pub returns : goal.returns
returns c =
    let l = c.args.items.now in
    stander_found (map (λ i. i.first) l) (map (λ i. i.draft) l) (length l) c.args.f c.requires.f_lt_len c.requires.f_value None (none_found c.loop-j.invariant c.loop-j-test.false)
