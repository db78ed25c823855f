use Rattle.std.proofs.Common.{◌≡◌, [], ◌∷◌, ap, ◌∙◌, subst, arith, ◌+◌, map, length, take, get_or, pos, SFits, to_z-of_z}
use Rattle.std.proofs.lemmas.List.{length-map}
use Rattle.std.specs.Int.{w64}
use Rattle.integers.specs.Size.{fits-within}
use Rattle.input_checks.specs.Any.{within-limit}
use Rattle.catalogue_rules.specs.Word.{encode}
use Rattle.catalogue_rules.specs.Write.{coordinate_word}
use Rattle.catalogue_writer.specs.Puts.{Puts, puts_one, puts_both}
use Rattle.catalogue_writer.specs.Loads.{length-first, first-more}
use Rattle.catalogue_writer.proofs.put_coordinates.Goals as goal

pub loop-j-preserved : goal.loop-j-preserved
loop-j-preserved c =
    let cs = c.args.coordinates.now in
    let j = c.loop-j.j in
    let x = get_or cs j (pos 0) in
    let n : length (map coordinate_word (take j cs)) ≡ j = length-first cs j (omega arith) in
    let fits : SFits w64 x = fits-within {B = 20000} (within-limit cs c.requires.near j) tt in
    let word = c.coordinate_word.ensures ∙ ap (λ x. encode (coordinate_word x)) (to_z-of_z {w = w64} fits) in
    subst (λ ws. Puts c.args.out.now c.args.k ws c.put_word.new.out (c.args.k + (j + 1))) (first-more cs j c.loop-j-test.true)
    (puts_both (map coordinate_word (take j cs)) (coordinate_word x ∷ []) (omega (arith, n, length-map cs coordinate_word, c.requires.room)) c.loop-j.invariant (puts_one (coordinate_word x) word c.put_word.ensures (omega arith)))
