-- The array holds the vectors read so far, then zeros.
use mathlib.Core.Path.{◌≡◌}
use Prim.Native.Nat.{◌≤◌}
use Rattle.lattices.specs.Refusal.{vectors_of, most_vectors, most_coordinates}
use Rattle.lattices.specs.Answer.{table}
use Rattle.input_checks.proofs.basis.Given as goal

abbrev pub invariant-loop-i : goal.invariant-loop-i
invariant-loop-i l = (l.i ≤ l.d) × (l.b ≡ table most_vectors most_coordinates (vectors_of l.i l.m l.numbers))
