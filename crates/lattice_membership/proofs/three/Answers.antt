-- Every number on the way is small.
use mathlib.Core.Path.{sym, ap, ap₂, ◌∙◌, subst}
use Prim.Native.Nat.{ℕ}
use lib.IntN.{◌+ℤ◌, ◌-ℤ◌, ◌*ℤ◌}
use Rattle.integers.specs.Size.{Within, fits-within}
use Rattle.lattices.specs.Vector.{nth}
use Rattle.input_checks.specs.Determinant.{Comes, comes, fits-product, product, fits-difference, difference, fits_sum, sum}
use Rattle.lattice_membership.proofs.three.Goals as goal

pub overflow_mul-result : goal.overflow_mul-result
overflow_mul-result c =
    let at : (c₁ : ℕ) → Comes 20000 (nth c.args.p.now c₁) (nth c.args.p.now c₁) =
    λ c₁. let h = c.requires.small.0 c₁ in comes (fits-within h tt) h in
    let s = c in fits-product (at s.args.i) (comes (record { sfits = c.pair.type_inv }) c.pair.ensures.1) tt

pub overflow_mul-result-2 : goal.overflow_mul-result-2
overflow_mul-result-2 c =
    let at : (c₁ : ℕ) → Comes 20000 (nth c.args.p.now c₁) (nth c.args.p.now c₁) =
    λ c₁. let h = c.requires.small.0 c₁ in comes (fits-within h tt) h in
    let s = c in fits-product (at s.args.j) (comes (record { sfits = c.pair-2.type_inv }) c.pair-2.ensures.1) tt

pub overflow_sub-result : goal.overflow_sub-result
overflow_sub-result c =
    let at : (c₁ : ℕ) → Comes 20000 (nth c.args.p.now c₁) (nth c.args.p.now c₁) =
    λ c₁. let h = c.requires.small.0 c₁ in comes (fits-within h tt) h in
    let s = c in
    let p = c.pair in
    fits-difference (product (at s.args.i) (comes (record { sfits = p.type_inv }) p.ensures.1) tt) (product (at s.args.j) (comes (record { sfits = c.pair-2.type_inv }) c.pair-2.ensures.1) tt) tt

pub overflow_mul-result-3 : goal.overflow_mul-result-3
overflow_mul-result-3 c =
    let at : (c₁ : ℕ) → Comes 20000 (nth c.args.p.now c₁) (nth c.args.p.now c₁) =
    λ c₁. let h = c.requires.small.0 c₁ in comes (fits-within h tt) h in
    let s = c in fits-product (at s.args.k) (comes (record { sfits = c.pair-3.type_inv }) c.pair-3.ensures.1) tt

pub overflow_add-result : goal.overflow_add-result
overflow_add-result c =
    let at : (c₁ : ℕ) → Comes 20000 (nth c.args.p.now c₁) (nth c.args.p.now c₁) =
    λ c₁. let h = c.requires.small.0 c₁ in comes (fits-within h tt) h in
    let s = c in
    let p = c.pair in
    let q = c.pair-2 in
    fits_sum (difference (product (at s.args.i) (comes (record { sfits = p.type_inv }) p.ensures.1) tt) (product (at s.args.j) (comes (record { sfits = q.type_inv }) q.ensures.1) tt) tt) (product (at s.args.k) (comes (record { sfits = c.pair-3.type_inv }) c.pair-3.ensures.1) tt) tt

pub returns : goal.returns
returns c =
    let at : (c₁ : ℕ) → Comes 20000 (nth c.args.p.now c₁) (nth c.args.p.now c₁) =
    λ c₁. let h = c.requires.small.0 c₁ in comes (fits-within h tt) h in
    let s = c in
    let p = c.pair in
    let q = c.pair-2 in
    let r = sum (difference (product (at s.args.i) (comes (record { sfits = p.type_inv }) p.ensures.1) tt) (product (at s.args.j) (comes (record { sfits = q.type_inv }) q.ensures.1) tt) tt) (product (at s.args.k) (comes (record { sfits = c.pair-3.type_inv }) c.pair-3.ensures.1) tt) tt in (
      r.is ∙ ap₂ ◌+ℤ◌ (ap₂ (λ x y. nth s.args.p.now s.args.i *ℤ x -ℤ nth s.args.p.now s.args.j *ℤ y) p.ensures.0 q.ensures.0) (ap (λ z. nth s.args.p.now s.args.k *ℤ z) c.pair-3.ensures.0),
      subst (Within 48000000000000) (sym r.is) r.within,
    )
