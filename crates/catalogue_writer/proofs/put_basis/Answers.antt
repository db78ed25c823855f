-- A head, then the words of d times m coordinates.
use Rattle.std.proofs.Common.{◌≡◌, arith, rules, subst, map, length, take, ◌*◌}
use Rattle.std.proofs.lemmas.List.{length-map}
use Rattle.catalogue_rules.specs.Catalogue.{most_numbers}
use Rattle.catalogue_rules.specs.Write.{head_words, coordinate_word}
use Rattle.catalogue_records.specs.EntriesIn.{entry_in}
use Rattle.catalogue_records.specs.Coordinates.{cut}
use Rattle.catalogue_writer.specs.Puts.{Puts, puts_both}
use Rattle.catalogue_writer.specs.Loads.{near, length-basis, basis-parts}
use Rattle.catalogue_writer.proofs.put_basis.Goals as goal

pub put_coordinates-requires : goal.put_coordinates-requires
put_coordinates-requires c =
    let e = c.args.e.now in
    let fits = c.requires.entry_fits in
    let long : length e.coordinates ≡ most_numbers = search rules in record {
      near = near e fits long;
      room = omega (arith, c.requires.room, length-basis e fits long, length-map (take (e.d * e.m) e.coordinates) coordinate_word, cut e fits long, c.put_head-at.auto.out, c.put_head-at.ensures.next);
    }

pub returns : goal.returns
returns c =
    let e = c.args.e.now in
    let fits = c.requires.entry_fits in
    let long : length e.coordinates ≡ most_numbers = search rules in
    subst (λ ws. Puts c.args.out.now c.args.k ws c.put_coordinates.new.out c.put_coordinates.result) (basis-parts e fits long)
    (puts_both (head_words (entry_in e).head) (map coordinate_word (take (e.d * e.m) e.coordinates)) (omega (arith, c.requires.room, length-basis e fits long)) c.put_head-at.ensures c.put_coordinates.ensures)
