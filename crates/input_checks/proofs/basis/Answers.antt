use mathlib.Core.Path.{◌≡◌, sym, ap}
use Prim.Native.Nat.{◌≤◌, ◌*◌, ◌+◌, ◌-◌}
use lib.ListN.{take, drop}
use native.Mathlib.Nat.{mul-le-mul_right}
use native.Mathlib.Omega.{arith}
use borrow.Author.Rules.{rules}
use Rattle.lattices.specs.Refusal.{most_vectors, most_coordinates}
use Rattle.input_checks.specs.Padded.{table_more}
use Rattle.input_checks.proofs.basis.Goals as goal

pub loop-i-preserved : goal.loop-i-preserved
loop-i-preserved c =
    let ends : (c.loop-i.i + 1) * c.args.m ≤ c.args.d * c.args.m = mul-le-mul_right c.args.m (omega arith) in
    let cut : c.args.m ≡ c.loop-i.i * c.args.m + c.args.m - c.loop-i.i * c.args.m = omega arith in
    (search rules, table_more most_vectors most_coordinates c.loop-i.i c.args.m c.args.numbers.now (search rules) c.loop-i.invariant.1 c.requires.m_le_most_coordinates (omega (arith, ends)) (ap (λ n. take n (drop (c.loop-i.i * c.args.m) c.args.numbers.now)) (sym cut)) c.begin_with.ensures)
