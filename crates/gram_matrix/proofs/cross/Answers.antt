-- The column is stored, then the row, then its entry k.
use mathlib.Core.Path.{◌≡◌, sym, ap₂, ◌∙◌}
use mathlib.Core.List.{List}
use Prim.Native.Nat.{ℕ, ◌<◌, ◌≤◌}
use native.Mathlib.Omega.{arith}
use lib.IntN.{ℤ, ◌-ℤ◌, ◌*ℤ◌}
use lib.ListN.{length, set, take}
use lib.Seq.{take_all}
use mir.Syntax.{w64}
use mir.Val.{SFits}
use mir.Facts.{to_z-of_z}
use borrow.Author.Rules.{rules}
use Rattle.integers.specs.Size.{Within, within-sub, fits-within}
use Rattle.lattices.specs.Vector.{nth, dot}
use Rattle.row_operations.specs.Dot.{weight, weight-most, dot-weight}
use Rattle.gram_matrix.specs.Cross.{dot-behind, stored}
use Rattle.gram_matrix.proofs.cross.Goals as goal

-- the products of the coefficients are light
light : (x r : List ℤ) → length x ≤ 4 → ((i : ℕ) → Within 2000000000000000000 (nth x i *ℤ nth r i)) → weight x r ≤ 8000000000000000000
light x r l f = omega (arith, weight-most 4 x r l f)

sum-within : (x r : List ℤ) → length x ≤ 4 → ((i : ℕ) → Within 2000000000000000000 (nth x i *ℤ nth r i)) → {n : ℤ} → n ≡ dot x r → Within 8000000000000000000 n
sum-within x r l f e = rw e (record { within = omega (arith, dot-weight x r, light x r l f) })

pub dot-requires : goal.dot-requires
dot-requires c =
    let few : length c.args.x.now ≤ 4 = search rules in
    (search rules, omega (arith, light c.args.x.now c.args.r.now few c.requires.by_index))

pub overflow_sub-g : goal.overflow_sub-g
overflow_sub-g c =
    let few : length c.args.x.now ≤ 4 = search rules in
    let entry : SFits w64 (nth c.args.r.now c.args.k) = fits-within c.requires.within tt in
    let sum : SFits w64 c.dot.result = record { sfits = c.dot.type_inv } in
    let left : SFits w64 (nth c.args.r.now c.args.k -ℤ c.dot.result) = fits-within (within-sub c.requires.within (sum-within c.args.x.now c.args.r.now few c.requires.by_index c.dot.ensures)) tt in
    simp (to_z-of_z, entry, sum) left

pub returns : goal.returns
returns c =
    let few : length c.args.x.now ≤ 4 = search rules in
    let few-r : length c.args.r.now ≤ 4 = search rules in
    let entry : SFits w64 (nth c.args.r.now c.args.k) = fits-within c.requires.within tt in
    let sum : SFits w64 c.dot.result = record { sfits = c.dot.type_inv } in
    let left : SFits w64 (nth c.args.r.now c.args.k -ℤ c.dot.result) = fits-within (within-sub c.requires.within (sum-within c.args.x.now c.args.r.now few c.requires.by_index c.dot.ensures)) tt in
    let four : length c.enter.new.g ≡ 4 = search rules in
    let h : c.args.k < length c.enter.new.g = omega (arith, four, c.requires.k_bound) in
    let all : dot c.args.x.now c.args.r.now ≡ dot (take 4 c.args.x.now) (take 4 c.args.r.now) = sym (ap₂ dot (take_all 4 c.args.x.now few) (take_all 4 c.args.r.now few-r)) in
    simp (to_z-of_z, entry, sum, left)
    (stored c.enter.new.g c.args.k c.args.r.now (nth c.args.r.now c.args.k -ℤ c.dot.result) h
    ∙ ap₂ (λ t₂ z. set t₂ c.args.k (set c.args.r.now c.args.k (nth c.args.r.now c.args.k -ℤ z))) c.enter.ensures (c.dot.ensures ∙ all ∙ dot-behind 4 c.args.k c.args.x.now c.args.r.now c.requires.by_index_2 (omega (arith, c.requires.k_bound))))
