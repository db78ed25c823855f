-- Six products, none of them large.
use mathlib.Core.Path.{ap₂, ◌∙◌}
use lib.IntN.{ℤ, ◌+ℤ◌, ◌-ℤ◌}
use mir.Syntax.{w64}
use mir.Val.{to_z, of_z}
use Rattle.input_checks.specs.Determinant.{Comes, comes, fits_sum, sum, fits-difference, difference}
use Rattle.input_checks.proofs.minors.determinant.Goals as goal

-- the sums on the way, as code holds them
abbrev held : ℤ → ℤ
held x = to_z w64 (of_z w64 x)

pub overflow_sub-result : goal.overflow_sub-result
overflow_sub-result c = let p = c.term in fits-difference (comes (record { sfits = p.type_inv }) p.ensures.1) (comes (record { sfits = c.term-2.type_inv }) c.term-2.ensures.1) tt

pub overflow_add-result : goal.overflow_add-result
overflow_add-result c =
    let at-two : ℤ =
    held c.term.result -ℤ held c.term-2.result in
    let to-two : Comes 1280000000000000000 (at-two) (c.term.result -ℤ c.term-2.result) =
    let p = c.term in difference (comes (record { sfits = p.type_inv }) p.ensures.1) (comes (record { sfits = c.term-2.type_inv }) c.term-2.ensures.1) tt in
    fits_sum (to-two) (comes (record { sfits = c.term-3.type_inv }) c.term-3.ensures.1) tt

pub overflow_add-result-2 : goal.overflow_add-result-2
overflow_add-result-2 c =
    let at-two : ℤ =
    held c.term.result -ℤ held c.term-2.result in
    let at-three : ℤ =
    held (at-two) +ℤ held c.term-3.result in
    let to-two : Comes 1280000000000000000 (at-two) (c.term.result -ℤ c.term-2.result) =
    let p = c.term in difference (comes (record { sfits = p.type_inv }) p.ensures.1) (comes (record { sfits = c.term-2.type_inv }) c.term-2.ensures.1) tt in
    let to-three : Comes 1920000000000000000 (at-three) (c.term.result -ℤ c.term-2.result +ℤ c.term-3.result) =
    sum (to-two) (comes (record { sfits = c.term-3.type_inv }) c.term-3.ensures.1) tt in
    fits_sum (to-three) (comes (record { sfits = c.term-4.type_inv }) c.term-4.ensures.1) tt

pub overflow_sub-result-2 : goal.overflow_sub-result-2
overflow_sub-result-2 c =
    let at-two : ℤ =
    held c.term.result -ℤ held c.term-2.result in
    let at-three : ℤ =
    held (at-two) +ℤ held c.term-3.result in
    let at-four : ℤ =
    held (at-three) +ℤ held c.term-4.result in
    let to-two : Comes 1280000000000000000 (at-two) (c.term.result -ℤ c.term-2.result) =
    let p = c.term in difference (comes (record { sfits = p.type_inv }) p.ensures.1) (comes (record { sfits = c.term-2.type_inv }) c.term-2.ensures.1) tt in
    let to-three : Comes 1920000000000000000 (at-three) (c.term.result -ℤ c.term-2.result +ℤ c.term-3.result) =
    sum (to-two) (comes (record { sfits = c.term-3.type_inv }) c.term-3.ensures.1) tt in
    let to-four : Comes 2560000000000000000 (at-four) (c.term.result -ℤ c.term-2.result +ℤ c.term-3.result +ℤ c.term-4.result) =
    sum (to-three) (comes (record { sfits = c.term-4.type_inv }) c.term-4.ensures.1) tt in
    fits-difference (to-four) (comes (record { sfits = c.term-5.type_inv }) c.term-5.ensures.1) tt

pub overflow_add-result-3 : goal.overflow_add-result-3
overflow_add-result-3 c =
    let at-two : ℤ =
    held c.term.result -ℤ held c.term-2.result in
    let at-three : ℤ =
    held (at-two) +ℤ held c.term-3.result in
    let at-four : ℤ =
    held (at-three) +ℤ held c.term-4.result in
    let at_five : ℤ =
    held (at-four) -ℤ held c.term-5.result in
    let to-two : Comes 1280000000000000000 (at-two) (c.term.result -ℤ c.term-2.result) =
    let p = c.term in difference (comes (record { sfits = p.type_inv }) p.ensures.1) (comes (record { sfits = c.term-2.type_inv }) c.term-2.ensures.1) tt in
    let to-three : Comes 1920000000000000000 (at-three) (c.term.result -ℤ c.term-2.result +ℤ c.term-3.result) =
    sum (to-two) (comes (record { sfits = c.term-3.type_inv }) c.term-3.ensures.1) tt in
    let to-four : Comes 2560000000000000000 (at-four) (c.term.result -ℤ c.term-2.result +ℤ c.term-3.result +ℤ c.term-4.result) =
    sum (to-three) (comes (record { sfits = c.term-4.type_inv }) c.term-4.ensures.1) tt in
    let to-five : Comes 3200000000000000000 (at_five) (c.term.result -ℤ c.term-2.result +ℤ c.term-3.result +ℤ c.term-4.result -ℤ c.term-5.result) =
    difference (to-four) (comes (record { sfits = c.term-5.type_inv }) c.term-5.ensures.1) tt in
    fits_sum (to-five) (comes (record { sfits = c.term-6.type_inv }) c.term-6.ensures.1) tt

pub returns : goal.returns
returns c =
    let at-two : ℤ =
    held c.term.result -ℤ held c.term-2.result in
    let at-three : ℤ =
    held (at-two) +ℤ held c.term-3.result in
    let at-four : ℤ =
    held (at-three) +ℤ held c.term-4.result in
    let at_five : ℤ =
    held (at-four) -ℤ held c.term-5.result in
    let to-two : Comes 1280000000000000000 (at-two) (c.term.result -ℤ c.term-2.result) =
    let p = c.term in difference (comes (record { sfits = p.type_inv }) p.ensures.1) (comes (record { sfits = c.term-2.type_inv }) c.term-2.ensures.1) tt in
    let to-three : Comes 1920000000000000000 (at-three) (c.term.result -ℤ c.term-2.result +ℤ c.term-3.result) =
    sum (to-two) (comes (record { sfits = c.term-3.type_inv }) c.term-3.ensures.1) tt in
    let to-four : Comes 2560000000000000000 (at-four) (c.term.result -ℤ c.term-2.result +ℤ c.term-3.result +ℤ c.term-4.result) =
    sum (to-three) (comes (record { sfits = c.term-4.type_inv }) c.term-4.ensures.1) tt in
    let to-five : Comes 3200000000000000000 (at_five) (c.term.result -ℤ c.term-2.result +ℤ c.term-3.result +ℤ c.term-4.result -ℤ c.term-5.result) =
    difference (to-four) (comes (record { sfits = c.term-5.type_inv }) c.term-5.ensures.1) tt in
    let e = c in
    let d = e in
    let f = d in
    let b = f in
    (sum (to-five) (comes (record { sfits = c.term-6.type_inv }) c.term-6.ensures.1) tt).is
    ∙ ap₂ (λ x y. x +ℤ y)
    (ap₂ (λ x y. x -ℤ y)
    (ap₂ (λ x y. x +ℤ y) (ap₂ (λ x y. x +ℤ y) (ap₂ (λ x y. x -ℤ y) b.term.ensures.0 b.term-2.ensures.0) f.term-3.ensures.0) d.term-4.ensures.0) e.term-5.ensures.0)
    c.term-6.ensures.0
