use mathlib.Core.Path.{◌≡◌, refl, sym, ap, ap₂, ◌∙◌}
use Prim.Native.Nat.{◌≤◌, ◌/◌, ◌%◌, ◌+◌}
use native.Mathlib.Omega.{arith}
use native.Mathlib.Numerals.{add-one}
use lib.ListN.{set}
use Rattle.integers.specs.Filled.{filled}
use Rattle.exterior_algebra.specs.Minors.{marks, marks-≤}
use Rattle.lattices.specs.Refusal.{most_coordinates}
use Rattle.input_checks.specs.Choice.{choice, places, halves}
use Rattle.input_checks.specs.Choices.{length-choice, marks-taken, places-taken, marks-left, places-left}
use borrow.Author.Rules.{rules}
use Rattle.input_checks.proofs.minors.choice_of.Goals as goal
use Rattle.input_checks.proofs.minors.choice_of.Goals.{then-rest-eq1, else-rest-eq1}

pub loop-k-init : goal.loop-k-init
loop-k-init c = (search rules, (refl, (refl, refl)))

pub offset_bounds-at-count : goal.offset_bounds-at-count
offset_bounds-at-count c =
    let small : c.loop-k.count ≤ c.loop-k.k =
    let l = c.loop-k in let n = c.args.number in omega (arith, l.invariant.1.1.0, marks-≤ (choice l.k n), length-choice l.k n) in
    let h = small in omega (arith, h)

pub bounds-at-count : goal.bounds-at-count
bounds-at-count c =
    let small : c.loop-k.count ≤ c.loop-k.k =
    let l = c.loop-k in let n = c.args.number in omega (arith, l.invariant.1.1.0, marks-≤ (choice l.k n), length-choice l.k n) in
    let h = small in omega (arith, h)

pub overflow_add-count : goal.overflow_add-count
overflow_add-count c =
    let small : c.loop-k.count ≤ c.loop-k.k =
    let l = c.loop-k in let n = c.args.number in omega (arith, l.invariant.1.1.0, marks-≤ (choice l.k n), length-choice l.k n) in
    record { fits = let h = small in omega (arith, h) }

pub loop-k-preserved : goal.loop-k-preserved
loop-k-preserved c =
    let n = c.args.number in
    let l = c.loop-k in
    let same : l.rest % 2 ≡ halves l.k n % 2 = ap (λ r. r % 2) l.invariant.1.1.1 in (
      search rules,
      (
        elim c.if-rest-eq1.branch [
          | then-rest-eq1 w ↦ w.at-is ∙ ap₂ (λ a i. set a i l.k) l.invariant.1.0 l.invariant.1.1.0 ∙ places-taken l.k n (sym same ∙ w.if-rest-eq1.true) most_coordinates (search rules)
          | else-rest-eq1 w ↦ w.at-is ∙ l.invariant.1.0 ∙ ap (filled 0 most_coordinates) (places-left l.k n (λ e. w.if-rest-eq1.false (same ∙ e)))
        ],
        (
          elim c.if-rest-eq1.branch [
            | then-rest-eq1 w ↦ w.count-is ∙ ap (λ i. i + 1) l.invariant.1.1.0 ∙ marks-taken l.k n (sym same ∙ w.if-rest-eq1.true)
            | else-rest-eq1 w ↦ w.count-is ∙ l.invariant.1.1.0 ∙ marks-left l.k n (λ e. w.if-rest-eq1.false (same ∙ e))
          ],
          ap (λ r. r / 2) l.invariant.1.1.1 ∙ ap (λ k. halves k n) (sym (add-one l.k)),
        ),
      ),
    )

pub returns : goal.returns
returns c =
    let n = c.args.number in
    let l = c.loop-k in
    let end : l.k ≡ most_coordinates = omega arith in
    (l.invariant.1.1.0 ∙ ap (λ k. marks (choice k n)) end, l.invariant.1.0 ∙ ap (λ k. filled 0 most_coordinates (places 0 (choice k n))) end)
