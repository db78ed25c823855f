-- Among the lines of a text, or those behind the line `new`, which counts.
use Rattle.std.proofs.Common.{◌≡◌, true, sym, ap, ◌∙◌, List, ℕ, drop, take, length, ◌-◌}
use Rattle.catalogue_rules.specs.Catalogue.{new}
use Rattle.text_rules.specs.Encoding.{lines_of, further, line_holding, told_holding}
use Rattle.text_lines.specs.Fields.{to_end}
use Rattle.text_encoding.specs.Splits.{opens_new, second_line, holding-old, holding-new}
use Rattle.text_encoding.specs.Counts.{further-one}
use Rattle.text_encoding.proofs.line_of_word.Goals as goal

-- the line behind `new`, one further down than among the lines there
behind-new : (text : List ℕ) (k at n : ℕ) → opens_new text ≡ true → at ≡ second_line text → n ≡ line_holding new (lines_of (take (length text - at) (drop at text))) k
    → further n ≡ told_holding (lines_of text) k
behind-new text k at n e i h =
    ap further (h ∙ ap (λ s. line_holding new (lines_of s) k) (to_end at text ∙ ap (λ i. drop i text) i)) ∙ sym (holding-new text k e)

pub returns-then-not-opens_new-clause-value : goal.returns-then-not-opens_new-clause-value
returns-then-not-opens_new-clause-value c = c.line_among.ensures.value ∙ sym (holding-old c.args.text.now c.args.k (sym c.opens_new.ensures ∙ c.if-not-opens_new.true))

pub returns-in_err-line-clause-value : goal.returns-in_err-line-clause-value
returns-in_err-line-clause-value c =
    rw c.from_residual.ensures (behind-new c.args.text.now c.args.k c.second_line.result 0 (sym c.opens_new.ensures ∙ c.if-not-opens_new.false) c.second_line.ensures.value c.in_err-line.ensures.value)

pub returns-clause-value : goal.returns-clause-value
returns-clause-value c =
    further-one c.in_ok-line.line c.in_ok-line.ensures.bounds.0
    ∙ behind-new c.args.text.now c.args.k c.second_line.result c.in_ok-line.line (sym c.opens_new.ensures ∙ c.if-not-opens_new.false) c.second_line.ensures.value c.in_ok-line.ensures.value
