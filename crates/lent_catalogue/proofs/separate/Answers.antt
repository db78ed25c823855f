-- Too few numbers stay; the others hold the answer.
use Rattle.std.proofs.Common.{◌≤◌, ◌<◌, ◌∙◌, ap, subst, length, sym, le-leb, rules}
use Rattle.std.proofs.lemmas.Bool.{lt-leb}
use Rattle.std.proofs.lemmas.List.Edits.{sets}
use Rattle.separation_rules.specs.Separation.{Separated, separate_of}
use Rattle.lent_numbers.specs.Layout.{layout_separation}
use Rattle.lent_numbers.specs.Runs.{written-short, written-long}
use Rattle.lent_numbers.specs.Small.{Small}
use Rattle.lent_catalogue.specs.CatalogueShape.{separate_small, five_numbers}
use Rattle.lent_catalogue.proofs.separate.Goals as goal

pub returns-then-answer-lt-SEPARATION : goal.returns-then-answer-lt-SEPARATION
returns-then-answer-lt-SEPARATION c =
    let given : Separated = separate_of c.args.bytes.now c.args.first c.args.second in
    let l = c.args.answer.now in
    let h : length l < 5 = search rules in
    record {
      value = sym (lt-leb 5 (length l) h);
      answer_after = written-short l 5 (layout_separation given) h;
    }

pub put_separation-requires-clause-small : goal.put_separation-requires-clause-small
put_separation-requires-clause-small c = subst Small (sym c.separate-s.ensures) (separate_small _ _ _)

pub returns : goal.returns
returns c =
    let given : Separated = separate_of c.args.bytes.now c.args.first c.args.second in
    let l = c.args.answer.now in
    let h : 5 ≤ length l = search rules in
    record {
      value = sym (le-leb 5 (length l) h);
      answer_after = c.put_separation.ensures ∙ ap (λ a. sets l 0 (layout_separation a)) c.separate-s.ensures ∙ written-long l 5 (layout_separation given) (five_numbers given) h;
    }
