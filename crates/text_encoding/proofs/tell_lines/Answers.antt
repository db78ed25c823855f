use mathlib.Core.Path.{◌≡◌, ap, ◌∙◌, subst}
use Prim.Native.Nat.{◌+◌, ◌-◌, ◌≤◌}
use native.Mathlib.Omega.{arith}
use lib.ListN.{length, take, drop, length-drop}
use Rattle.catalogue_records.specs.EntriesIn.{form_in}
use Rattle.text_lines.specs.Fields.{to_end}
use Rattle.text_encoding.specs.Stores.{Room, stores-length, stores-room}
use Rattle.text_encoding.specs.Splits.{line_length}
use Rattle.text_encoding.specs.Tells.{Adds, going-room, going_on, going-ends}
use Rattle.text_encoding.proofs.tell_lines.Goals as goal

-- NO GOAL for slice-bounds-with-line-start
-- part-with-line-start c = omega arith

-- NO GOAL for slice-bounds-with-line-end
-- part-with-line-end c = omega (arith, within c)

pub loop-from-preserved : goal.loop-from-preserved
loop-from-preserved c =
    let begins : Room c.args.out.now 0 = record { few = omega arith } in
    let n-is : c.length_before-n.result ≡ line_length (drop c.loop-from.from c.args.text.now) = c.length_before-n.ensures.value ∙ ap line_length (to_end c.loop-from.from c.args.text.now) in
    let within : c.loop-from.from + c.length_before-n.result ≤ length c.args.text.now = let from = c.loop-from.from in
    let text = c.args.text.now in
    omega (arith, c.length_before-n.ensures.upper_bound, ap length (to_end from text), length-drop from text, c.loop-from-test.true) in
    let from = c.loop-from.from in
    let text = c.args.text.now in
    let cut : from + c.length_before-n.result - from ≡ c.length_before-n.result = omega arith in
    let adds = subst (λ m. Adds (form_in c.args.form) (take m (drop from text)) c.loop-from.out c.loop-from.e c.with_line-e.new.out c.with_line-e.result) cut c.with_line-e.ensures in
    (omega (arith, within), going_on begins c.loop-from.invariant.1 n-is adds)

pub returns : goal.returns
returns c =
    let begins : Room c.args.out.now 0 = record { few = omega arith } in
    let room : Room c.loop-from.out c.loop-from.e.words = going-room begins c.loop-from.invariant.1 in record {
      lines_tell = going-ends begins c.loop-from.invariant.1 c.loop-from-test.false c.end_word.ensures c.put.ensures;
      words_in_bounds = omega (arith, (stores-room room c.put.ensures).few, stores-length room c.put.ensures, stores-length begins c.loop-from.invariant.1.stored);
    }
