-- Bytes moved to the start are those that are kept.
use Rattle.std.specs.Prelude.{◌≡◌, List, ℕ, ◌+◌, ◌-◌, ◌≤◌, ◌<◌, min, length, take, drop}
use Rattle.std.specs.List.{copy_within}
use Rattle.std.proofs.Common.{sym, ap, ◌∙◌, arith, length-drop, take_all, take-take, length-take-le}
use Rattle.std.proofs.Math.Decide.{dec_lt}
use Rattle.std.proofs.lemmas.List.Edits.{take-paste}
use Rattle.cli_lines.specs.Lines.{kept}

-- all that is kept is moved
pub moved-kept : (from end : ℕ) (before now : List ℕ) (n : ℕ) → from ≤ end → end ≤ length before → n ≡ min (end - from) 4097 → now ≡ copy_within before from (from + n) 0
    → take n now ≡ kept (take (end - from) (drop from before))
moved-kept from end before now n h k e m =
    let some : from + n - from ≡ n = omega arith in
    let start : n ≡ 0 + (from + n - from) = omega arith in
    ap (take n) m
    ∙ ap (λ j. take j (copy_within before from (from + n) 0)) start
    ∙ take-paste before 0 l (from + n - from) (omega arith) (omega (arith, length-drop from before))
    ∙ ap (λ j. take j l) some
    ∙ go (dec_lt (end - from) 4097)
  where
    l : List ℕ
    l = drop from before

    go : Dec (end - from < 4097) → take n l ≡ kept (take (end - from) l)
    go (yes p) =
        let all : n ≡ end - from = omega (arith, e) in
        ap (λ n. take n l) all ∙ sym (take_all 4097 (take (end - from) l) (omega (arith, length-take-le (end - from) l (omega (arith, length-drop from before)))))
    go (no p) =
        let some : n ≡ 4097 = omega (arith, e) in
        ap (λ n. take n l) some ∙ sym (take-take 4097 (end - from) l (omega arith))
