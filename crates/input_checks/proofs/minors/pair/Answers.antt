-- Every number on the way is small.
use mathlib.Core.Path.{sym, subst}
use Prim.Native.Nat.{ℕ}
use Rattle.integers.specs.Size.{Within, fits-within}
use Rattle.lattices.specs.Vector.{nth}
use Rattle.input_checks.specs.Determinant.{Comes, comes, fits-product, product, fits-difference, difference}
use Rattle.input_checks.proofs.minors.pair.Goals as goal

pub overflow_mul-result : goal.overflow_mul-result
overflow_mul-result c =
    let left : (c₁ : ℕ) → Comes 20000 (nth c.args.p.now c₁) (nth c.args.p.now c₁) =
    λ c₁. let h = c.requires.by_index c₁ in comes (fits-within h tt) h in
    let right : (c₁ : ℕ) → Comes 20000 (nth c.args.q.now c₁) (nth c.args.q.now c₁) =
    λ c₁. let h = c.requires.by_index_2 c₁ in comes (fits-within h tt) h in
    let s = c in fits-product (left s.args.i) (right s.args.j) tt

pub overflow_mul-result-2 : goal.overflow_mul-result-2
overflow_mul-result-2 c =
    let left : (c₁ : ℕ) → Comes 20000 (nth c.args.p.now c₁) (nth c.args.p.now c₁) =
    λ c₁. let h = c.requires.by_index c₁ in comes (fits-within h tt) h in
    let right : (c₁ : ℕ) → Comes 20000 (nth c.args.q.now c₁) (nth c.args.q.now c₁) =
    λ c₁. let h = c.requires.by_index_2 c₁ in comes (fits-within h tt) h in
    let s = c in fits-product (left s.args.j) (right s.args.i) tt

pub overflow_sub-result : goal.overflow_sub-result
overflow_sub-result c =
    let left : (c₁ : ℕ) → Comes 20000 (nth c.args.p.now c₁) (nth c.args.p.now c₁) =
    λ c₁. let h = c.requires.by_index c₁ in comes (fits-within h tt) h in
    let right : (c₁ : ℕ) → Comes 20000 (nth c.args.q.now c₁) (nth c.args.q.now c₁) =
    λ c₁. let h = c.requires.by_index_2 c₁ in comes (fits-within h tt) h in
    let s = c in
    fits-difference (product (left s.args.i) (right s.args.j) tt) (product (left s.args.j) (right s.args.i) tt) tt

pub returns : goal.returns
returns c =
    let left : (c₁ : ℕ) → Comes 20000 (nth c.args.p.now c₁) (nth c.args.p.now c₁) =
    λ c₁. let h = c.requires.by_index c₁ in comes (fits-within h tt) h in
    let right : (c₁ : ℕ) → Comes 20000 (nth c.args.q.now c₁) (nth c.args.q.now c₁) =
    λ c₁. let h = c.requires.by_index_2 c₁ in comes (fits-within h tt) h in
    let s = c in
    let r = difference (product (left s.args.i) (right s.args.j) tt) (product (left s.args.j) (right s.args.i) tt) tt in
    (r.is, subst (Within 800000000) (sym r.is) r.within)
