-- Digits, an even number of them, and the call.
use Rattle.std.proofs.Common.{◌≡◌, sym, ap, ◌∙◌, arith, Bool, true, cond, length, take, length-take-le, ◌≤◌, ◌%◌, eqb, eq-eqb}
use Rattle.integers.specs.Every.{every}
use Rattle.merges.specs.Stored.{merge_in}
use Rattle.cli_answers.specs.Answers.{error_text}
use Rattle.cli_merges.specs.Digits.{is_digit, bytes_in}
use Rattle.cli_merges.specs.DigitLaws.{length-bytes}
use Rattle.cli_merges.specs.Replies.{Answered, only, odd_digits, no_digit, add_bytes}
use Rattle.cli_merges.specs.Prefix.{take-sets}
use Rattle.cli_merges.specs.Gives.{gives_as}
use Rattle.cli_merges.proofs.replies.add_digits.Goals as goal

pub slice_bounds-bytes-end : goal.slice_bounds-bytes-end
slice_bounds-bytes-end c = omega (arith, c.put_bytes-n.ensures.value, length-bytes c.args.s.now, c.requires.s_len_bound, c.put_bytes-n.auto.out)

pub slice_bounds-add_bytes-end : goal.slice_bounds-add_bytes-end
slice_bounds-add_bytes-end c =
    sym (length-take-le _ _ (omega (arith, c.put_bytes-n.ensures.value, length-bytes c.args.s.now, c.requires.s_len_bound, c.put_bytes-n.auto.out)))

pub returns : goal.returns
returns c =
    let s = c.args.s.now in
    let M = merge_in c.args.merge in
    let paired : Bool → Answered = λ b. cond b (add_bytes M (bytes_in s)) (only M (error_text c.args.line odd_digits)) in
    let tested : Bool → Answered = λ b. cond b (paired (eqb (length s % 2) 0)) (only M (error_text c.args.line no_digit)) in
    let all_digits : every is_digit s ≡ true = sym c.are_digits.ensures ∙ c.if-not-are_digits.false in
    let small : c.put_bytes-n.result ≤ 2048 = omega (arith, c.put_bytes-n.ensures.value, length-bytes s, c.requires.s_len_bound) in
    let even : eqb (length s % 2) 0 ≡ true = eq-eqb _ 0 c.if-s-ne0.false in
    let bytes : take c.put_bytes-n.result c.put_bytes-n.new.out ≡ bytes_in s =
    ap (take c.put_bytes-n.result) c.put_bytes-n.ensures.out_after ∙ take-sets _ (bytes_in s) (omega (arith, small, c.put_bytes-n.ensures.value)) c.put_bytes-n.ensures.value in
    gives_as (ap (add_bytes M) bytes ∙ sym (ap tested all_digits ∙ ap paired even)) c.add_bytes.ensures
