-- All words of the line are stored.
use Rattle.std.proofs.Common.{refl, sym, ap, arith, length, length-take-le, ◌≤◌}
use Rattle.merges.specs.Stored.{merge_in}
use Rattle.text_lines.specs.Told.{words_in}
use Rattle.cli_merges.specs.Replies.{add_bytes}
use Rattle.cli_merges.specs.Prefix.{few_words, all-count, all-bytes}
use Rattle.cli_merges.specs.Gives.{gives_as}
use Rattle.cli_merges.proofs.replies.add_told.Goals as goal

pub overflow_mul-n : goal.overflow_mul-n
overflow_mul-n c =
    let few : length (words_in c.args.l.now) ≤ 229 = few_words c.args.l.now c.requires.count_bound in
    omega (arith, all-count few refl c.put_line-n.ensures, few)

pub slice_bounds-bytes-end : goal.slice_bounds-bytes-end
slice_bounds-bytes-end c =
    let few : length (words_in c.args.l.now) ≤ 229 = few_words c.args.l.now c.requires.count_bound in
    omega (arith, all-count few refl c.put_line-n.ensures, few, c.put_line-n.auto.out)

pub slice_bounds-add_bytes-end : goal.slice_bounds-add_bytes-end
slice_bounds-add_bytes-end c =
    let few : length (words_in c.args.l.now) ≤ 229 = few_words c.args.l.now c.requires.count_bound in
    sym (length-take-le _ _ (omega (arith, all-count few refl c.put_line-n.ensures, few, c.put_line-n.auto.out)))

pub returns : goal.returns
returns c =
    let few : length (words_in c.args.l.now) ≤ 229 = few_words c.args.l.now c.requires.count_bound in
    gives_as (ap (add_bytes (merge_in c.args.merge)) (all-bytes few refl c.put_line-n.ensures)) c.add_bytes.ensures
