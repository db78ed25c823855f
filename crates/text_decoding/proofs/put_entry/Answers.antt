-- The head, the coordinates, the mark, the see word, and the end of the line.
use Rattle.std.proofs.Common.{◌≡◌, arith, rules, length, subst, ap, ℕ}
use Rattle.catalogue_rules.specs.Catalogue.{most_numbers}
use Rattle.text_output.specs.Puts.{Puts, puts_then}
use Rattle.text_decoding.specs.Parts.{head_text, entry-text, entry_length}
use Rattle.text_decoding.proofs.put_entry.Goals as goal

head-long : (d m : ℕ) {n k : ℕ} → n ≡ k → length (head_text n d m) ≡ length (head_text k d m)
head-long d m e = ap (λ n. length (head_text n d m)) e

pub put_coordinates-second-requires : goal.put_coordinates-second-requires
put_coordinates-second-requires c =
    let long : length c.args.e.now.coordinates ≡ most_numbers = search rules in
    omega (arith, head-long c.args.e.now.d c.args.e.now.m c.from.ensures, entry_length c.args.e.now c.requires.entry_fits long, c.requires.e_in_bounds, c.put_head-first.ensures.place, c.put_head-first.auto.out)

pub put_draft-third-requires : goal.put_draft-third-requires
put_draft-third-requires c =
    let long : length c.args.e.now.coordinates ≡ most_numbers = search rules in
    omega (
      arith,
      head-long c.args.e.now.d c.args.e.now.m c.from.ensures,
      entry_length c.args.e.now c.requires.entry_fits long,
      c.requires.e_in_bounds,
      c.put_head-first.ensures.place,
      c.put_head-first.auto.out,
      c.put_coordinates-second.ensures.place,
      c.put_coordinates-second.auto.out,
    )

pub put_see-fourth-requires : goal.put_see-fourth-requires
put_see-fourth-requires c =
    let long : length c.args.e.now.coordinates ≡ most_numbers = search rules in
    omega (
      arith,
      head-long c.args.e.now.d c.args.e.now.m c.from.ensures,
      entry_length c.args.e.now c.requires.entry_fits long,
      c.requires.e_in_bounds,
      c.put_head-first.ensures.place,
      c.put_head-first.auto.out,
      c.put_coordinates-second.ensures.place,
      c.put_coordinates-second.auto.out,
      c.put_draft-third.ensures.place,
      c.put_draft-third.auto.out,
    )

pub put_byte-requires : goal.put_byte-requires
put_byte-requires c =
    let long : length c.args.e.now.coordinates ≡ most_numbers = search rules in
    omega (
      arith,
      head-long c.args.e.now.d c.args.e.now.m c.from.ensures,
      entry_length c.args.e.now c.requires.entry_fits long,
      c.requires.e_in_bounds,
      c.put_head-first.ensures.place,
      c.put_head-first.auto.out,
      c.put_coordinates-second.ensures.place,
      c.put_coordinates-second.auto.out,
      c.put_draft-third.ensures.place,
      c.put_draft-third.auto.out,
      c.put_see-fourth.ensures.place,
      c.put_see-fourth.auto.out,
    )

pub returns : goal.returns
returns c =
    let long : length c.args.e.now.coordinates ≡ most_numbers = search rules in
    let e = c.args.e.now in
    let head = subst (λ n. Puts (head_text n e.d e.m) c.args.out.now c.args.at c.put_head-first.new.out c.put_head-first.result) c.from.ensures c.put_head-first.ensures in
    subst (λ text. Puts text c.args.out.now c.args.at c.put_byte.new.out c.put_byte.result) (entry-text c.args.e.now c.requires.entry_fits long)
    (puts_then (puts_then (puts_then (puts_then head c.put_coordinates-second.ensures) c.put_draft-third.ensures) c.put_see-fourth.ensures) c.put_byte.ensures)
