-- The passes of a reduction are few enough to be counted in 64 bits.
use Rattle.std.proofs.Common.{sym, subst, arith, take-append-drop}
use Rattle.std.specs.Prelude.{List, ℕ, ◌≤◌, pos, ◌≤ℤ◌, take, drop}
use Rattle.lattices.specs.Vector.{N}
use Rattle.lattices.specs.Greedy.{Row}
use Rattle.integers.specs.AllLaws.{all_left}
use Rattle.greedy_reduction.specs.Lengths.{NoLonger}
use Rattle.greedy_reduction.specs.Passes.{passes-most}
use Rattle.gram_matrix.specs.Tied.{whole}
use Rattle.greedy_steps.specs.State.{greedy_passes}
use Rattle.greedy_steps.specs.Fine.{Fine, fine-length, fine-short}

pub few-passes : {n : ℕ} {rows : List Row} → n ≤ 4 → Fine whole n rows → greedy_passes n rows ≤ 1000000000000
few-passes {n} {rows} h f = omega (arith, passes-most n (take n rows) h (fine-length f) short)
  where
    short : NoLonger (pos 400000000) (take n rows)
    short = all_left (λ r. N r.vector ≤ℤ pos 400000000) (take n rows) (drop n rows) (subst (NoLonger (pos 400000000)) (sym (take-append-drop n rows)) (fine-short f))
