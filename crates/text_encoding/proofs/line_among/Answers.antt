use mathlib.Core.Path.{◌≡◌, ap, ◌∙◌}
use Prim.Native.Nat.{◌+◌, ◌-◌, ◌≤◌}
use native.Mathlib.Omega.{arith}
use lib.ListN.{length, take, drop, length-drop}
use Rattle.catalogue_records.specs.EntriesIn.{form_in}
use Rattle.text_rules.specs.Encoding.{line_words}
use Rattle.text_lines.specs.Fields.{to_end}
use Rattle.text_encoding.specs.Splits.{line_length}
use Rattle.text_encoding.specs.Counts.{passing-found, passing-on, passing-ends}
use Rattle.text_encoding.proofs.line_among.Goals as goal

-- NO GOAL for slice-bounds-words-in-start
-- part-words-in-start c = omega arith

-- NO GOAL for slice-bounds-words-in-end
-- part-words-in-end c = omega (arith, within c)

pub returns-then-left-here : goal.returns-then-left-here
returns-then-left-here c =
    let n-is : c.length_before-n.result ≡ line_length (drop c.loop-from.from c.args.text.now) = c.length_before-n.ensures.value ∙ ap line_length (to_end c.loop-from.from c.args.text.now) in
    let here-is : c.words_in-here.result ≡ line_words (form_in c.args.form) (take c.length_before-n.result (drop c.loop-from.from c.args.text.now)) = let from = c.loop-from.from in
    let cut : from + c.length_before-n.result - from ≡ c.length_before-n.result = omega arith in
    c.words_in-here.ensures ∙ ap (λ k. line_words (form_in c.args.form) (take k (drop from c.args.text.now))) cut in
    let few : c.loop-from.passed + 1 ≤ length c.args.text.now = omega (arith, c.loop-from.invariant.1.few, c.loop-from-test.true) in record {
      value = passing-found c.loop-from.invariant.1 n-is here-is c.if-left-here.true;
      bounds = (omega arith, few);
    }

pub returns-then-end-text : goal.returns-then-end-text
returns-then-end-text c =
    let n-is : c.length_before-n.result ≡ line_length (drop c.loop-from.from c.args.text.now) = c.length_before-n.ensures.value ∙ ap line_length (to_end c.loop-from.from c.args.text.now) in
    let here-is : c.words_in-here.result ≡ line_words (form_in c.args.form) (take c.length_before-n.result (drop c.loop-from.from c.args.text.now)) = let from = c.loop-from.from in
    let cut : from + c.length_before-n.result - from ≡ c.length_before-n.result = omega arith in
    c.words_in-here.ensures ∙ ap (λ k. line_words (form_in c.args.form) (take k (drop from c.args.text.now))) cut in record {
      value = passing-ends c.loop-from.invariant.1 n-is here-is c.if-left-here.false (omega (arith, c.if-end-text.true));
      bounds = tt;
    }

pub loop-from-preserved : goal.loop-from-preserved
loop-from-preserved c =
    let n-is : c.length_before-n.result ≡ line_length (drop c.loop-from.from c.args.text.now) = c.length_before-n.ensures.value ∙ ap line_length (to_end c.loop-from.from c.args.text.now) in
    let within : c.loop-from.from + c.length_before-n.result ≤ length c.args.text.now = let from = c.loop-from.from in
    let text = c.args.text.now in
    omega (arith, c.length_before-n.ensures.upper_bound, ap length (to_end from text), length-drop from text, c.loop-from-test.true) in
    let here-is : c.words_in-here.result ≡ line_words (form_in c.args.form) (take c.length_before-n.result (drop c.loop-from.from c.args.text.now)) = let from = c.loop-from.from in
    let cut : from + c.length_before-n.result - from ≡ c.length_before-n.result = omega arith in
    c.words_in-here.ensures ∙ ap (λ k. line_words (form_in c.args.form) (take k (drop from c.args.text.now))) cut in
    (omega (arith, within, c.if-end-text.false), passing-on c.loop-from.invariant.1 n-is here-is c.if-left-here.false)
