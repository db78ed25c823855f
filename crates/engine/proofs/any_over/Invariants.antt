-- None of the numbers before is over the limit, so the rest decides.
use Rattle.std.specs.Prelude.{◌≡◌, pos, drop}
use Rattle.std.specs.Int.Signed.{lt_z}
use Rattle.integers.specs.Every.{any}
use Rattle.lattices.specs.Refusal.{most_square}
use Rattle.engine.proofs.any_over.Given as goal

abbrev pub invariant-loop-n : goal.invariant-loop-n
invariant-loop-n l = any (lt_z (pos most_square)) l.squares ≡ any (lt_z (pos most_square)) (drop l.n-index l.squares)
