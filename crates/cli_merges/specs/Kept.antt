-- What is kept of a line is answered as the whole line is.
use Rattle.std.specs.Prelude.{◌≡◌, cond, List, ℕ, ◌<◌, length}
use Rattle.std.proofs.Common.{sym, ap, ◌∙◌, arith, take_all, length-take-le, lt-ltb}
use Rattle.std.proofs.Math.Decide.{dec_lt}
use Rattle.merge_rules.specs.Merge.{Merge}
use Rattle.text_rules.specs.Encoding.{content}
use Rattle.cli_lines.specs.Lines.{kept}
use Rattle.cli_answers.specs.Answers.{error_text}
use Rattle.cli_merges.specs.Replies.{only, too_long, content_reply, answer}

module _ (M : Merge) (line : ℕ) where
  long-answer : (s : List ℕ) → 4096 < length s → answer M line s ≡ only M (error_text line too_long)
  long-answer s h = ap (λ b. cond b (only M (error_text line too_long)) (content_reply M line (content s))) (lt-ltb _ _ h)

  pub kept-alike : (s : List ℕ) → answer M line (kept s) ≡ answer M line s
  kept-alike s = go (dec_lt 4097 (length s))
    where
      go : Dec (4097 < length s) → answer M line (kept s) ≡ answer M line s
      go (yes h) = long-answer (kept s) (omega (arith, length-take-le 4097 s (omega arith))) ∙ sym (long-answer s (omega arith))
      go (no h) = ap (answer M line) (take_all 4097 s (omega arith))
