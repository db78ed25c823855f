-- The place of the number, then that of its standing entry; or whether a see word names it.
use Rattle.std.proofs.Common.{ap, ◌∙◌, ◌<◌, take, length, arith, Some, None, Ok}
use Rattle.integers.specs.AllLaws.{get_d_map}
use Rattle.merges.specs.Stored.{no_item, answer_in}
use Rattle.merges.specs.Entries.{room, length_taken}
use Rattle.merges.specs.Found.{found_by, first_below, first-own, place-within, standing-within, found-answer, missing-answer}
use Rattle.merges.proofs.Merge.looked.Goals as goal

pub stander-s-requires-clause-by_index : goal.stander-s-requires-clause-by_index
stander-s-requires-clause-by_index c = first_below c.args.self c.requires

pub stander-s-requires-clause-f_lt_len : goal.stander-s-requires-clause-f_lt_len
stander-s-requires-clause-f_lt_len c =
    let s = c.args.self in
    let k = c.in-Some.k in
    let l = take c.args.self.count c.args.self.items in
    let h : k < length (take c.args.self.count c.args.self.items) = place-within s c.requires c.args.number (found_by s c.requires c.args.number (Some k) c.in-Some.ensures) in
    omega (arith, get_d_map (λ i. i.first) l no_item 0 k h, first_below s c.requires k h, h)

pub stander-s-requires-clause-f_value : goal.stander-s-requires-clause-f_value
stander-s-requires-clause-f_value c =
    let s = c.args.self in
    let first = found_by s c.requires c.args.number (Some c.in-Some.k) c.in-Some.ensures in
    first-own s c.requires c.in-Some.k (place-within s c.requires c.args.number first)

pub offset_bounds-items-s : goal.offset_bounds-items-s
offset_bounds-items-s c =
    let s = c.args.self in
    let first = found_by s c.requires c.args.number (Some c.in-Some.k) c.in-Some.ensures in
    omega (arith, standing-within s c.requires c.args.number first c.stander-s.ensures, length_taken s (room s c.requires), c.requires.few)

pub bounds-items-s : goal.bounds-items-s
bounds-items-s c =
    let s = c.args.self in
    let first = found_by s c.requires c.args.number (Some c.in-Some.k) c.in-Some.ensures in
    standing-within s c.requires c.args.number first c.stander-s.ensures

pub returns-in-Some : goal.returns-in-Some
returns-in-Some c =
    let s = c.args.self in
    let first = found_by s c.requires c.args.number (Some c.in-Some.k) c.in-Some.ensures in
    ap (λ a. answer_in (Ok a)) c.found.ensures ∙ found-answer s c.requires c.args.number first c.stander-s.ensures

-- no entry has the number
pub returns-in-None : goal.returns-in-None
returns-in-None c =
    let s = c.args.self in
    ap answer_in c.missing.ensures ∙ missing-answer s c.requires c.args.number (found_by s c.requires c.args.number None c.in-None.ensures)
