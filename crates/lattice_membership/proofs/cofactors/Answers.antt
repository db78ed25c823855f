-- The others, two of them in exchanged places where the sign changes.
use mathlib.Core.Path.{refl, sym, ap, ap₂, ◌∙◌, subst}
use mathlib.Core.List.{List, [], ◌∷◌}
use Prim.Native.Nat.{ℕ, ◌-◌, ◌%◌}
use native.Mathlib.Omega.{arith}
use lib.IntN.{ℤ}
use lib.ListN.{get_or}
use mir.Facts.{to_z-of_z}
use mir.Syntax.{w64}
use Rattle.lattices.specs.Vector.{Vec}
use Rattle.input_checks.specs.Determinant.{Small, without, three_of}
use Rattle.lattice_membership.specs.Laws.Cofactors.{without-small}
use Rattle.lattice_membership.proofs.cofactors.Goals as goal

pub three-requires : goal.three-requires
three-requires c =
    let small : (Small c.other-p.result) × ((Small c.other-q.result) × (Small c.other-r.result)) =
    let s = c in
    let row : (r : ℕ) → Small (get_or (without s.args.j s.args.t.now) r []) = without-small s.args.j s.args.t.now s.requires.by_index in (
      subst Small (sym c.other-p.ensures) (row _),
      (subst Small (sym c.other-q.ensures) (row _), subst Small (sym c.other-r.ensures) (row _)),
    ) in
    record {
      i_bound = (omega arith, (omega arith, omega arith));
      small = small;
    }

pub three-requires-2 : goal.three-requires-2
three-requires-2 c =
    let small : (Small c.other-p.result) × ((Small c.other-q.result) × (Small c.other-r.result)) =
    let s = c in
    let row : (r : ℕ) → Small (get_or (without s.args.j s.args.t.now) r []) = without-small s.args.j s.args.t.now s.requires.by_index in (
      subst Small (sym c.other-p.ensures) (row _),
      (subst Small (sym c.other-q.ensures) (row _), subst Small (sym c.other-r.ensures) (row _)),
    ) in
    record {
      i_bound = (omega arith, (omega arith, omega arith));
      small = small;
    }

pub three-requires-3 : goal.three-requires-3
three-requires-3 c =
    let small : (Small c.other-p.result) × ((Small c.other-q.result) × (Small c.other-r.result)) =
    let s = c in
    let row : (r : ℕ) → Small (get_or (without s.args.j s.args.t.now) r []) = without-small s.args.j s.args.t.now s.requires.by_index in (
      subst Small (sym c.other-p.ensures) (row _),
      (subst Small (sym c.other-q.ensures) (row _), subst Small (sym c.other-r.ensures) (row _)),
    ) in
    record {
      i_bound = (omega arith, (omega arith, omega arith));
      small = small;
    }

pub three-requires-4 : goal.three-requires-4
three-requires-4 c =
    let small : (Small c.other-p.result) × ((Small c.other-q.result) × (Small c.other-r.result)) =
    let s = c in
    let row : (r : ℕ) → Small (get_or (without s.args.j s.args.t.now) r []) = without-small s.args.j s.args.t.now s.requires.by_index in (
      subst Small (sym c.other-p.ensures) (row _),
      (subst Small (sym c.other-q.ensures) (row _), subst Small (sym c.other-r.ensures) (row _)),
    ) in
    record {
      i_bound = (omega arith, (omega arith, omega arith));
      small = small;
    }

-- the row of cofactors by three rows
abbrev row : Vec → Vec → Vec → List ℤ
row p q r = three_of p q r 1 2 3 ∷ three_of p q r 0 3 2 ∷ three_of p q r 0 1 3 ∷ three_of p q r 0 2 1 ∷ []

pub returns : goal.returns
returns c =
    let others : List Vec =
    without c.args.j c.args.t.now in
    let c3 = c in
    let c2 = c3 in
    let c1 = c2 in
    let o = c1 in
    ap₂ ◌∷◌ (to_z-of_z {w = w64} (record { sfits = c1.three.type_inv }) ∙ c1.three.ensures.0)
    (ap₂ ◌∷◌ (to_z-of_z {w = w64} (record { sfits = c2.three-2.type_inv }) ∙ c2.three-2.ensures.0)
    (ap₂ ◌∷◌ (to_z-of_z {w = w64} (record { sfits = c3.three-3.type_inv }) ∙ c3.three-3.ensures.0)
    (ap₂ ◌∷◌ (to_z-of_z {w = w64} (record { sfits = c.three-4.type_inv }) ∙ c.three-4.ensures.0) refl)))
    ∙ ap₂ (λ p q. row p q o.other-r.result) o.other-p.ensures o.other-q.ensures
    ∙ ap (row (get_or (others) (c.args.j % 2) []) (get_or (others) (1 - c.args.j % 2) [])) o.other-r.ensures
