-- The head, then zeros.
use Rattle.std.specs.Prelude.{◌≡◌, pos, ◌-◌, replicate, length, take, drop}
use Rattle.std.proofs.Common.{ap, ◌∙◌, arith, refl, length-take-le, length-drop}
use Rattle.std.proofs.lemmas.List.{length-replicate}
use Rattle.std.proofs.Math.Seq.{length-sets}
use Rattle.std.proofs.lemmas.List.Edits.{sets}
use Rattle.lent_numbers.specs.Layout.{head}
use Rattle.integers.specs.Runs.{part-sets}
use Rattle.lent_numbers.specs.Runs.{sets_then}
use Rattle.refusals.specs.Number.{number_of}
use Rattle.lent_engine.proofs.put_refusal.Goals as goal

pub returns : goal.returns
returns c =
    let zeros = replicate (c.args.count - 3) (pos 0) in
    let e = c.put_head.ensures ∙ ap (λ n. sets c.args.out.now 0 (head n 0 (pos 0))) c.number.ensures in
    let long : length c.put_head.new.out ≡ length c.args.out.now = ap length e ∙ length-sets c.args.out.now 0 (head (number_of c.args.e) 0 (pos 0)) in
    let part : length (take (c.args.count - 3) (drop 3 c.put_head.new.out)) ≡ c.args.count - 3 = length-take-le (c.args.count - 3) (drop 3 c.put_head.new.out) (omega (arith, length-drop 3 c.put_head.new.out, long, c.requires)) in
    part-sets 3 (c.args.count - 3) c.put_head.new.out c.fill.new.self zeros (c.fill.ensures.after (λ y q. q) ∙ ap (λ n. replicate n (pos 0)) part) (length-replicate (c.args.count - 3) (pos 0)) (omega (arith, long, c.requires))
    ∙ sets_then c.args.out.now 0 3 (head (number_of c.args.e) 0 (pos 0)) zeros e refl
