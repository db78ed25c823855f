-- What is kept of a line is answered as the whole line is.
use Rattle.std.specs.Prelude.{◌≡◌, Bool, cond, List, [], ◌++◌, ℕ, ◌<◌, eqb, length}
use Rattle.std.proofs.Common.{sym, ap, ◌∙◌, arith, take_all, length-take-le, lt-ltb}
use Rattle.std.proofs.Math.Decide.{dec_lt}
use Rattle.text_parts.specs.Numbers.{leading}
use Rattle.text_parts.specs.Tokens.{is_blank}
use Rattle.cli_replies.specs.declared.Command.{Command}
use Rattle.cli_lines.specs.Lines.{kept}
use Rattle.cli_replies.specs.Reply.{always, headed}
use Rattle.cli_replies.specs.Replies.{reply, number_text, too_long, answer}
use Rattle.cli_answers.specs.Answers.{error_text}

module _ (command : Command) (numbered : Bool) (line : ℕ) where
  long-answer : (s : List ℕ) → 4096 < length s → answer command numbered line s ≡ always (number_text numbered line ++ error_text line too_long)
  long-answer s h =
      ap
      (λ b. cond b (always (number_text numbered line ++ error_text line too_long)) (cond (eqb (leading is_blank s) (length s)) (always []) (headed (number_text numbered line) (reply command line s))))
      (lt-ltb _ _ h)

  pub kept-alike : (s : List ℕ) → answer command numbered line (kept s) ≡ answer command numbered line s
  kept-alike s = go (dec_lt 4097 (length s))
    where
      go : Dec (4097 < length s) → answer command numbered line (kept s) ≡ answer command numbered line s
      go (yes h) = long-answer (kept s) (omega (arith, length-take-le 4097 s (omega arith))) ∙ sym (long-answer s (omega arith))
      go (no h) = ap (answer command numbered line) (take_all 4097 s (omega arith))
