-- Nothing but blanks stands behind `new`.
use Rattle.std.proofs.Common.{ap, ◌∙◌, sym, ◌+◌, ◌&&◌, length, drop, eqb}
use Rattle.text_parts.specs.Numbers.{leading}
use Rattle.text_parts.specs.Tokens.{is_blank}
use Rattle.text_rules.specs.Text.{new_word}
use Rattle.text_rules.specs.Encoding.{is_empty}
use Rattle.text_lines.specs.Begins.{behind-word}
use Rattle.text_lines.proofs.is_new_text.Goals as goal

pub returns-in-Some : goal.returns-in-Some
returns-in-Some c =
    let s = c.args.s.now in
    let e = behind-word new_word s c.blanks.result c.blanks.ensures.value c.in-Some.ensures.cases.0 c.in-Some.ensures.cases.1 in
    ap (λ n. eqb n (length c.in-Some.rest.now)) c.blanks-in-Some.ensures.value ∙ ap is_empty e.1
    ∙ sym (ap (λ b. b && is_empty (drop (leading is_blank s + length new_word) s)) e.0)
