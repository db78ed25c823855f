-- The parts are stored one after another.
use Rattle.std.specs.Prelude.{◌≡◌, length}
use Rattle.std.proofs.Common.{ap, ◌∙◌, rules, to_z-of_z, w64, SFits}
use Rattle.std.proofs.lemmas.List.Edits.{sets}
use Rattle.lattices.specs.Refusal.{most_vectors}
use Rattle.lent_numbers.specs.Layout.{head}
use Rattle.lent_engine.specs.NearestShape.{nearest-stored}
use Rattle.lent_engine.proofs.put_nearest.Goals as goal

pub returns : goal.returns
returns c =
    let few : length c.args.a.tenths ≡ most_vectors = search rules in
    let fits : SFits w64 c.args.a.square = search rules in
    nearest-stored c.requires.shape c.args.a.tenths few c.args.out.now
    (c.put_head.ensures ∙ ap (λ n. sets c.args.out.now 0 (head 0 0 n)) (to_z-of_z fits))
    c.put_run.ensures c.put_run-2.ensures c.put_run-3.ensures
