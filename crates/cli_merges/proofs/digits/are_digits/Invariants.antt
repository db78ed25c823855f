-- The bytes that are left are to be tested.
use Rattle.std.proofs.Common.{◌≡◌, drop}
use Rattle.integers.specs.Every.{every}
use Rattle.cli_merges.specs.Digits.{is_digit}
use Rattle.cli_merges.proofs.digits.are_digits.Given as goal

abbrev pub invariant-loop-b : goal.invariant-loop-b
invariant-loop-b l = every is_digit l.s ≡ every is_digit (drop l.b-index l.s)
