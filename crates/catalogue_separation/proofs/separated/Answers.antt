-- Each test decides what is left.
use mathlib.Core.Path.{◌≡◌, sym, ap, ◌∙◌}
use mathlib.Core.List.{map}
use Prim.Native.Nat.{◌+◌}
use borrow.Author.Rules.{rules}
use mir.Syntax.{w64}
use mir.Val.{SFits}
use mir.Facts.{to_z-of_z}
use Rattle.lattice_membership.specs.declared.Lattice.{Lattice}
use Rattle.lattice_membership.specs.Known.{vectors_in}
use Rattle.lattices.specs.Answer.{padded}
use Rattle.lattices.specs.Refusal.{most_coordinates}
use Rattle.catalogue_rules.specs.Catalogue.{Entry}
use Rattle.catalogue_records.specs.EntriesIn.{entry_in}
use Rattle.catalogue_standing.specs.ReducedEntry.{reduced_entry}
use Rattle.catalogue_standing.specs.SameLattice.{LatticeOf}
use Rattle.fold_rules.specs.Fold.{reduced_of}
use Rattle.fold_rules.proofs.Laws.SameLattice.{Sound}
use Rattle.separation_rules.specs.Separation.{Separation, same, first_outside, second_outside, outside_from, separation}
use Rattle.separation_rules.proofs.Laws.Deciding.{says-m, says-d, says_first, says_second, says_same}
use Rattle.catalogue_separation.specs.declared.Outside.{Outside}
use Rattle.catalogue_separation.specs.Outsides.{FirstOutside, AllInside, outside-held, outside-is, inside-held, inside_is}
use Rattle.catalogue_separation.proofs.separated.Goals as goal

pub returns-then-e-f : goal.returns-then-e-f
returns-then-e-f c = sym (says-m (entry_in c.args.e.now) (entry_in c.args.f.now) c.requires.0 c.requires.1 c.if-e-f.true)

pub returns-then-e-f-2 : goal.returns-then-e-f-2
returns-then-e-f-2 c = sym (says-d (entry_in c.args.e.now) (entry_in c.args.f.now) c.requires.0 c.requires.1 c.if-e-f.false c.if-e-f-2.true)

-- what is left of two with one m and one d, of which the vectors of the first were searched
module _ (e f : Entry) (s : Sound e) (t : Sound f) (m : e.head.m ≡ f.head.m) (d : e.head.d ≡ f.head.d) {l : Lattice} (p : LatticeOf (reduced_entry f) l) where
  rest : Separation
  rest = outside_from second_outside 1 (reduced_of e) f.vectors same

  -- a vector of the first
  first-told : {r : Outside} → FirstOutside (vectors_in l) (map (padded most_coordinates) e.vectors) r → separation e f ≡ first_outside (r.place + 1) r.square
  unfolding rest
  first-told o = says_first e f m d (outside-held e f s t m p o) ∙ outside-is e f s t m p o first_outside rest

  -- none of the first, and those of the second were searched
  module _ (none : AllInside (vectors_in l) (map (padded most_coordinates) e.vectors)) {l₂ : Lattice} (p₂ : LatticeOf (reduced_entry e) l₂) where
    second-told : {r₂ : Outside} → FirstOutside (vectors_in l₂) (map (padded most_coordinates) f.vectors) r₂ → separation e f ≡ second_outside (r₂.place + 1) r₂.square
    unfolding rest
    second-told o₂ =
        says_second e f m d (outside-held f e t s (sym m) p₂ o₂) ∙ inside_is e f s t m p none first_outside rest
        ∙ outside-is f e t s (sym m) p₂ o₂ second_outside same

    same-told : AllInside (vectors_in l₂) (map (padded most_coordinates) f.vectors) → separation e f ≡ same
    same-told o₂ = says_same e f m d (inside-held f e t s (sym m) p₂ o₂) (inside-held e f s t m p none)

pub returns-in-Some : goal.returns-in-Some
returns-in-Some c =
    let fits : SFits w64 c.in-Some.first.square = record { sfits = search rules } in
    ap (first_outside (c.in-Some.first.place + 1)) (to_z-of_z {w = w64} fits)
    ∙ sym (first-told (entry_in c.args.e.now) (entry_in c.args.f.now) c.requires.0 c.requires.1 c.if-e-f.false c.if-e-f-2.false c.lattice_of.ensures.lattice c.in-Some.ensures)

pub returns-in-Some-outside_of : goal.returns-in-Some-outside_of
returns-in-Some-outside_of c =
    let fits : SFits w64 c.in-Some-outside_of.second.square = record { sfits = search rules } in
    ap (second_outside (c.in-Some-outside_of.second.place + 1)) (to_z-of_z {w = w64} fits)
    ∙ sym (second-told (entry_in c.args.e.now) (entry_in c.args.f.now) c.requires.0 c.requires.1 c.if-e-f.false c.if-e-f-2.false c.lattice_of.ensures.lattice c.in_default.ensures c.lattice_of-2.ensures.lattice c.in-Some-outside_of.ensures)

pub returns : goal.returns
returns c =
    sym (same-told (entry_in c.args.e.now) (entry_in c.args.f.now) c.requires.0 c.requires.1 c.if-e-f.false c.if-e-f-2.false c.lattice_of.ensures.lattice c.in_default.ensures c.lattice_of-2.ensures.lattice c.in_default-outside_of.ensures)
