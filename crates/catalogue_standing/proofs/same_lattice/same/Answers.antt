-- Each test decides what is left.
use Rattle.std.proofs.Common.{refl, sym, ap, ap₂, ◌∙◌, ◌&&◌}
use Rattle.std.proofs.lemmas.Bool.Decides.{Decides-int_eq, Decides-not}
use Rattle.std.proofs.lemmas.Slice.Eq.{slice_eq-Decides}
use Rattle.integers.specs.Every.{every}
use Rattle.successive_minima.specs.Member.{is_member}
use Rattle.lattice_membership.specs.Known.{vectors_in}
use Rattle.catalogue_standing.specs.ReducedEntry.{other-m, other-d, other-squares}
use Rattle.catalogue_standing.specs.SameLattice.{by_lattices}
use Rattle.catalogue_standing.proofs.same_lattice.same.Goals as goal

pub returns-then-left-right : goal.returns-then-left-right
returns-then-left-right c = other-m _ _ c.if-left-right.true

pub returns-then-left-right-2 : goal.returns-then-left-right-2
returns-then-left-right-2 c = other-d _ _ c.if-left-right.false c.if-left-right-2.true

pub returns-then-ne : goal.returns-then-ne
returns-then-ne c = other-squares c.requires.0.fair c.requires.1.fair ((Decides-not _ (slice_eq-Decides Decides-int_eq c.args.left.now.squares c.args.right.now.squares _ refl)).0 (sym c.if-ne.ensures))

pub returns-then-holds_lattice : goal.returns-then-holds_lattice
returns-then-holds_lattice c =
    sym (ap₂ ◌&&◌ (sym c.holds_lattice.ensures ∙ c.if-holds_lattice.true) (sym c.holds_lattice-then-holds_lattice.ensures))
    ∙ by_lattices c.args.left.now c.args.right.now c.if-left-right.false c.if-left-right-2.false

pub returns-else-holds_lattice : goal.returns-else-holds_lattice
returns-else-holds_lattice c =
    c.if-holds_lattice.false ∙ sym (ap (λ t. t && every (is_member (vectors_in c.args.right.now)) (vectors_in c.args.left.now)) (sym c.holds_lattice.ensures ∙ c.if-holds_lattice.false))
    ∙ by_lattices c.args.left.now c.args.right.now c.if-left-right.false c.if-left-right-2.false
