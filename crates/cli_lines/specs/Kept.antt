-- Cutting a line while it comes changes nothing.
use Rattle.std.specs.Prelude.{◌≡◌, List, ◌++◌, ℕ, ◌<◌, length}
use Rattle.std.proofs.Common.{sym, ap, ◌∙◌, arith, take_all, length-take-le}
use Rattle.std.proofs.Math.Decide.{dec_lt}
use Rattle.std.proofs.lemmas.List.{take-append-le}
use Rattle.cli_lines.specs.Lines.{kept}

-- more of the line comes after it was cut
pub kept_more : (s more : List ℕ) → kept (kept s ++ more) ≡ kept (s ++ more)
kept_more s more = go (dec_lt (length s) 4097)
  where
    go : Dec (length s < 4097) → kept (kept s ++ more) ≡ kept (s ++ more)
    go (yes h) = ap (λ l. kept (l ++ more)) (take_all 4097 s (omega arith))
    go (no h) =
        take-append-le 4097 (kept s) more (omega (arith, length-take-le 4097 s (omega arith)))
        ∙ take_all 4097 (kept s) (omega (arith, length-take-le 4097 s (omega arith)))
        ∙ sym (take-append-le 4097 s more (omega arith))
