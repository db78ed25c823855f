-- The word, with nothing but blanks behind it.
use Rattle.std.proofs.Common.{◌≡◌, sym, ap, ap₂, ◌∙◌, arith, Bool, cond, take, drop, ◌-◌}
use Rattle.text_parts.specs.Numbers.{leading}
use Rattle.text_parts.specs.Tokens.{is_blank}
use Rattle.text_rules.specs.Encoding.{is_empty}
use Rattle.text_lines.specs.Fields.{to_end}
use Rattle.merges.specs.Stored.{merge_in}
use Rattle.cli_answers.specs.Answers.{error_text}
use Rattle.cli_merges.specs.Commands.{word_length, word_end, first_word}
use Rattle.cli_merges.specs.Replies.{Answered, only, no_digit, add_digits}
use Rattle.cli_merges.specs.Gives.{gives_as, gives-only}
use Rattle.cli_merges.proofs.replies.add_hexadecimal.Goals as goal

pub returns-then-not-is_blank : goal.returns-then-not-is_blank
returns-then-not-is_blank c =
    let t = c.args.s.now in
    let M = merge_in c.args.merge in
    let tested : Bool → Answered = λ b. cond b (add_digits M c.args.line (first_word t)) (only M (error_text c.args.line no_digit)) in
    let w = c.first_word-word in
    let behind : c.is_blank.result ≡ is_empty (drop (word_end t) t) = c.is_blank.ensures ∙ ap is_empty (to_end w.result.end t) ∙ ap (λ k. is_empty (drop k t)) w.ensures.end_value in
    gives_as (sym (ap tested (sym behind ∙ c.if-not-is_blank.true))) (gives-only c.requires.merge c.put_error.ensures.puts (omega (arith, c.put_error.ensures.upper_bound)))

pub returns : goal.returns
returns c =
    let t = c.args.s.now in
    let M = merge_in c.args.merge in
    let tested : Bool → Answered = λ b. cond b (add_digits M c.args.line (first_word t)) (only M (error_text c.args.line no_digit)) in
    let w = c.first_word-word in
    let behind : c.is_blank.result ≡ is_empty (drop (word_end t) t) = c.is_blank.ensures ∙ ap is_empty (to_end w.result.end t) ∙ ap (λ k. is_empty (drop k t)) w.ensures.end_value in
    let n = leading is_blank t in
    let long : w.result.end - w.result.from ≡ word_length (drop n t) = omega (arith, w.ensures.from_value, w.ensures.end_value) in
    let word = ap₂ (λ k m. take k (drop m t)) long w.ensures.from_value in
    gives_as (ap (add_digits M c.args.line) word ∙ sym (ap tested (sym behind ∙ c.if-not-is_blank.false))) c.add_digits.ensures
