use mathlib.Core.Path.{◌≡◌, refl, ap, ◌∙◌}
use mathlib.Core.List.{[]}
use Prim.Native.Nat.{ℕ, zero, suc, ◌<◌}
use native.Mathlib.Numerals.{add-one}
use native.Mathlib.Omega.{arith}
use borrow.Author.Rules.{rules}
use lib.IntN.{pos}
use lib.ListN.{get_or, set}
use Rattle.lattices.specs.Greedy.{units}
use Rattle.lattices.specs.Answer.{table}
use Rattle.row_operations.proofs.unit_table.Goals as goal

units-next : (i : ℕ) → i < 4 → let t = table 4 4 (units i) in set t i (set (get_or t i []) i (pos 1)) ≡ table 4 4 (units (suc i))
units-next zero h = refl
units-next (suc zero) h = refl
units-next (suc (suc zero)) h = refl
units-next (suc (suc (suc zero))) h = refl
units-next (suc (suc (suc (suc i)))) h = absurd (omega arith)

pub loop-i-init : goal.loop-i-init
loop-i-init c = (search rules, refl)

pub loop-i-preserved : goal.loop-i-preserved
loop-i-preserved c =
    let i = c.before.loop-i.i in
    (search rules, rw add-one (ap (λ t. set t i (set (get_or t i []) i (pos 1))) c.before.loop-i.invariant.1 ∙ units-next i (search rules)))

pub returns : goal.returns
returns c =
    let a = c.before in
    let e : a.loop-i.i ≡ a.before.args.d = search rules in
    a.loop-i.invariant.1 ∙ ap (λ i. table 4 4 (units i)) e
