-- No coordinate is beyond the limit: then the inner product cannot overflow.
use mathlib.Core.Path.{◌≡◌, sym, ◌∙◌}
use mathlib.Core.Bool.{false}
use Prim.Native.Nat.{ℕ}
use native.Mathlib.Omega.{arith}
use borrow.Author.Rules.{rules}
use Rattle.integers.specs.Size.{Within}
use Rattle.lattices.specs.Vector.{nth}
use Rattle.integers.specs.Every.{any}
use Rattle.row_operations.specs.Dot.{weight-entries}
use Rattle.input_checks.specs.Any.{beyond, within-limit}
use Rattle.input_checks.proofs.long.Goals as goal

pub dot-requires : goal.dot-requires
dot-requires c =
    let v = c.args.v.now in
    let e : any beyond v ≡ false = sym c.any_beyond.ensures ∙ c.if-any_beyond.false in
    let small : (i : ℕ) → Within 20000 (nth v i) = λ i. within-limit v e i in
    (search rules, omega (arith, weight-entries 8 v v (omega arith) small small))
