use mathlib.Core.Path.{◌≡◌, sym, ap, ap₂, ◌∙◌}
use mathlib.Core.Bool.{false}
use mathlib.Core.List.{[], ◌∷◌, ◌++◌}
use Prim.Native.Nat.{suc}
use native.Mathlib.Numerals.{add-one}
use native.Mathlib.Omega.{arith}
use lib.IntN.{pos}
use lib.ListN.{set, take, drop, length-set}
use lib.Seq.{take-suc-set, drop-set-lt, drop-drop}
use mir.Syntax.{w64}
use mir.Val.{to_z, of_z}
use mir.Facts.{to_z-of_z}
use borrow.Author.Rules.{rules}
use Rattle.lattices.specs.Vector.{nth}
use Rattle.catalogue_rules.specs.Word.{encode}
use Rattle.catalogue_rules.specs.Write.{coordinate_word}
use Rattle.input_checks.specs.Any.{beyond, any-later}
use Rattle.catalogue_writer.specs.Loads.{encoded-more}
use Rattle.text_lines.specs.Fields.{zeros-next}
use Rattle.text_lines.proofs.coordinate_words.Goals as goal

pub loop-i-preserved : goal.loop-i-preserved
loop-i-preserved c =
    let tested : c.beyond.result ≡ beyond (nth c.args.z.now c.loop-i.i) = c.beyond.ensures ∙ ap beyond (to_z-of_z {w = w64} {z = nth c.args.z.now c.loop-i.i} (search rules)) in
    let near : beyond (nth c.args.z.now c.loop-i.i) ≡ false = sym tested ∙ c.if-beyond.false in
    let same : let x = nth c.args.z.now c.loop-i.i in to_z w64 (of_z w64 x) ≡ x = to_z-of_z {w = w64} {z = nth c.args.z.now c.loop-i.i} (search rules) in
    let z = c.args.z.now in
    let i = c.loop-i.i in
    let here = c.loop-i-test.true in
    let w = c.coordinate_word.result in
    let word : w ≡ encode (coordinate_word (nth z i)) = c.coordinate_word.ensures ∙ ap (λ x. encode (coordinate_word x)) same in (
      search rules,
      (
        length-set c.loop-i.words i w ∙ c.loop-i.invariant.1.0,
        (
          c.loop-i.invariant.1.1.0 ∙ any-later beyond z i (pos 0) here near,
          (
            ap (λ k. take k (set c.loop-i.words i w)) (add-one i)
                ∙ take-suc-set c.loop-i.words i w (omega (arith, c.requires, here, c.loop-i.invariant.1.0))
                ∙ ap₂ (λ ws w. ws ++ (w ∷ [])) c.loop-i.invariant.1.1.1.0 word
                ∙ encoded-more z i here,
            ap (λ k. drop k (set c.loop-i.words i w)) (add-one i)
                ∙ drop-set-lt (suc i) c.loop-i.words i w (omega arith)
                ∙ ap (λ k. drop k c.loop-i.words) (sym (add-one i))
                ∙ sym (drop-drop 1 i c.loop-i.words)
                ∙ ap (drop 1) c.loop-i.invariant.1.1.1.1
                ∙ zeros-next 225 i (omega (arith, c.requires, here)),
          ),
        ),
      ),
    )
