-- `gain` is the inner product of the step with the sum of what was and what is left.
use mathlib.Core.Path.{◌≡◌, sym, ap, ◌∙◌, subst}
use Prim.Native.Nat.{ℕ, ◌≤◌}
use lib.ListN.{length}
use native.Mathlib.Omega.{arith}
use Rattle.row_operations.specs.Dot.{weight, weight-most, dot-weight}
use Rattle.row_operations.specs.Minus.{room}
use mathlib.Core.List.{List}
use lib.IntN.{ℤ, neg_ℤ, ◌+ℤ◌, ◌*ℤ◌, +ℤ_idl}
use mir.Syntax.{w64}
use mir.Val.{SFits}
use mir.Facts.{to_z-of_z}
use Rattle.integers.specs.Size.{Within, fits-within, within-neg}
use Rattle.integers.specs.ListLaws.{nth-⊕}
use Rattle.lattices.specs.Vector.{nth, dot, ◌⊕◌}
use Rattle.lattices.specs.Laws.Vector.{dot_comm, dot-⊕}
use Rattle.nearest_search.specs.Taking.{sum_is, sum_room}
use borrow.Author.Rules.{rules}
use Rattle.nearest_search.proofs.start.gain.Goals as goal

pub lose-requires : goal.lose-requires
lose-requires c = (search rules, sum_room c.args.r.now c.args.s.now c.requires.by_index)

-- the inner product with a sum
split : (e r s : List ℤ) → dot e (r ⊕ s) ≡ dot e r +ℤ dot e s
split e r s = dot_comm e (r ⊕ s) ∙ dot-⊕ r s e ∙ ap (λ n. n +ℤ dot s e) (dot_comm r e) ∙ ap (λ n. dot e r +ℤ n) (dot_comm s e)

-- its products are no more than fits
light : (e r s w : List ℤ) → w ≡ r ⊕ s → length e ≤ 4 → ((i : ℕ) → Within 2000000000000000000 (nth e i *ℤ (nth r i +ℤ nth s i))) → weight e w ≤ 8000000000000000000
light e r s w q l f = rw q (omega (arith, weight-most 4 e (r ⊕ s) l (λ i. subst (λ n. Within 2000000000000000000 (nth e i *ℤ n)) (sym (nth-⊕ r s i)) (f i))))

pub dot-requires : goal.dot-requires
dot-requires c =
    let few : length c.args.e.now ≤ 4 = search rules in
    (search rules, omega (arith, light c.args.e.now c.args.r.now c.args.s.now c.lose.new.a (c.lose.ensures ∙ sum_is _ _) few c.requires.by_index_2))

pub overflow_sub-result : goal.overflow_sub-result
overflow_sub-result c =
    let few : length c.args.e.now ≤ 4 = search rules in
    let number : SFits w64 c.dot.result = record { sfits = c.dot.type_inv } in
    let small : Within room c.dot.result = record { within = rw c.dot.ensures (omega (arith, dot-weight c.args.e.now c.lose.new.a, light c.args.e.now c.args.r.now c.args.s.now c.lose.new.a (c.lose.ensures ∙ sum_is _ _) few c.requires.by_index_2)) } in
    let opposite : SFits w64 (neg_ℤ c.dot.result) = fits-within (within-neg small) tt in
    simp (to_z-of_z, number, +ℤ_idl) opposite

pub returns : goal.returns
returns c =
    let few : length c.args.e.now ≤ 4 = search rules in
    let both : c.lose.new.a ≡ c.args.r.now ⊕ c.args.s.now = c.lose.ensures ∙ sum_is _ _ in
    let number : SFits w64 c.dot.result = record { sfits = c.dot.type_inv } in
    let small : Within room c.dot.result = record { within = rw c.dot.ensures (omega (arith, dot-weight c.args.e.now c.lose.new.a, light c.args.e.now c.args.r.now c.args.s.now c.lose.new.a both few c.requires.by_index_2)) } in
    let opposite : SFits w64 (neg_ℤ c.dot.result) = fits-within (within-neg small) tt in
    simp (to_z-of_z, number, +ℤ_idl, opposite) (ap neg_ℤ (c.dot.ensures ∙ ap (dot c.args.e.now) both ∙ split c.args.e.now c.args.r.now c.args.s.now))
