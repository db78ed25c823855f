-- What stands behind `draft` follows the mark.
use Rattle.std.proofs.Common.{sym, ap, ◌∙◌, cond, false}
use Rattle.text_parts.specs.Parts.{taken_at}
use Rattle.text_rules.specs.Text.{draft_word}
use Rattle.text_rules.specs.Encoding.{past_draft}
use Rattle.text_lines.specs.Told.{last_see, last_rest, see_rest}
use Rattle.text_lines.specs.Begins.{behind-word}
use Rattle.text_lines.proofs.marked.Goals as goal

pub returns-in-Some : goal.returns-in-Some
returns-in-Some c =
    let s = c.args.s.now in
    let e = behind-word draft_word s c.blanks.result c.blanks.ensures.value c.in-Some.ensures.cases.0 c.in-Some.ensures.cases.1 in
    c.after_draft.ensures ∙ ap last_rest e.1 ∙ sym (ap (λ b. cond b (last_rest (past_draft s)) (see_rest false (last_see (taken_at 1 s)))) e.0)
