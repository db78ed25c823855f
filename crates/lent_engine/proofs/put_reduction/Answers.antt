-- The parts are stored one after another.
use Rattle.std.proofs.Common.{ap, ◌∙◌, arith, w64}
use mir.Facts.{to_z_pos}
use Rattle.std.proofs.lemmas.List.Edits.{sets}
use Rattle.lent_numbers.specs.Layout.{head}
use Rattle.lent_engine.specs.Shape.{answer-stored}
use Rattle.lent_engine.proofs.put_reduction.Goals as goal

pub returns : goal.returns
returns c =
    answer-stored c.requires.shape c.args.out.now
    (c.put_head.ensures ∙ ap (λ n. sets c.args.out.now 0 (head 0 0 n)) (to_z_pos w64 (omega (arith, c.requires.shape.passes))))
    c.put_run.ensures
    c.put_rows.ensures
    c.put_rows-2.ensures
    c.put_rows-3.ensures
