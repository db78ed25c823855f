-- A number of bytes that are there counts them, as `&xs[..n]` asks for it.
use Rattle.std.proofs.Common.{sym, length-take-le}
use Rattle.std.specs.Prelude.{List, ℕ, ◌≤◌, length}
use Rattle.text_output.specs.Counts.{IsPrefixLen}

pub counts-within : (n : ℕ) (xs : List ℕ) → n ≤ length xs → IsPrefixLen n xs
counts-within n xs h = (h, sym (length-take-le n xs h))
