-- The lines of a text, or those behind the line `new`.
use mathlib.Core.Path.{◌≡◌, sym, ap, ◌∙◌}
use mathlib.Core.Bool.{true, false}
use Prim.Native.Nat.{◌-◌}
use lib.ListN.{length, take, drop}
use Rattle.catalogue_rules.specs.Catalogue.{new}
use Rattle.text_rules.specs.Encoding.{lines_of, any_wrong, entries_from}
use Rattle.text_lines.specs.Fields.{to_end}
use Rattle.text_encoding.specs.Splits.{opens_new, second_line, wrong-old, entries-old, wrong-new, entries-new}
use Rattle.text_encoding.specs.Tells.{text_tells}
use Rattle.text_encoding.proofs.tell_text.Goals as goal

pub returns-then-not-opens_new : goal.returns-then-not-opens_new
returns-then-not-opens_new c =
    let text = c.args.text.now in
    let no : opens_new text ≡ false = sym c.opens_new.ensures ∙ c.if-not-opens_new.true in record {
      tells = text_tells text c.requires (entries-old text no) (wrong-old text no) c.tell_lines.ensures.lines_tell;
      words_in_bounds = c.tell_lines.ensures.words_in_bounds;
    }

pub returns : goal.returns
returns c =
    let opened : opens_new c.args.text.now ≡ true = sym c.opens_new.ensures ∙ c.if-not-opens_new.false in
    let rest : let text = c.args.text.now in let at = c.second_line.result in drop (second_line text) text ≡ take (length text - at) (drop at text) = let text = c.args.text.now in
    let at = c.second_line.result in
    ap (λ n. drop n text) (sym c.second_line.ensures.value) ∙ sym (to_end at text) in
    let text = c.args.text.now in
    let entries = entries-new text opened ∙ ap (λ ls. entries_from new (lines_of ls)) rest in
    let wrong = wrong-new text opened ∙ ap (λ ls. any_wrong new (lines_of ls)) rest in record {
      tells = text_tells text c.requires entries wrong c.tell_lines-2.ensures.lines_tell;
      words_in_bounds = c.tell_lines-2.ensures.words_in_bounds;
    }
