-- The minor there is the volume at every index whose places are the choice.
use mathlib.Core.Path.{◌≡◌, sym, ap₂, ◌∙◌, subst}
use mir.Facts.{to_z-of_z}
use mir.Syntax.{w64}
use mir.Val.{of_z, to_z}
use Rattle.integers.specs.Size.{Within, fits-within}
use Rattle.lattice_membership.specs.Known.{same_size}
use Rattle.lattice_membership.specs.Laws.Members.{minor-within}
use Rattle.lattice_membership.proofs.same_minor.Goals as goal

pub same_size-requires : goal.same_size-requires
same_size-requires c =
    let minor-plain : to_z w64 (of_z w64 c.args.l.now.minor) ≡ c.args.l.now.minor =
    to_z-of_z {w = w64} (fits-within (minor-within c.args.l.now c.requires.chosen.known) tt) in
    let s = c in subst (Within 160000000000000000) (sym (minor-plain)) (minor-within s.args.l.now s.requires.chosen.known)

pub returns : goal.returns
returns c k =
    let minor-plain : to_z w64 (of_z w64 c.args.l.now.minor) ≡ c.args.l.now.minor =
    to_z-of_z {w = w64} (fits-within (minor-within c.args.l.now c.requires.chosen.known) tt) in
    let m = c in
    let s = m in
    c.same_size.ensures ∙ ap₂ same_size (to_z-of_z {w = w64} (record { sfits = m.minor_of.type_inv }) ∙ m.minor_of.ensures k.known.index k.count k.taken) (minor-plain)
