-- The answer is stored where there is room for it, and nothing is done where there is not.
use Rattle.std.proofs.Common.{◌≤◌, ◌<◌, ◌∙◌, ap, length, sym, le-leb, rules}
use Rattle.std.proofs.lemmas.Bool.{lt-leb}
use Rattle.fold_rules.specs.Services.{Lookup, lookup_of}
use Rattle.catalogue.specs.Finding.{looked_by}
use Rattle.lent_numbers.specs.Layout.{layout_lookup}
use Rattle.lent_numbers.specs.Runs.{written-short}
use Rattle.lent_catalogue.specs.CatalogueShape.{lookup-few, lookup_small, lookup-stored}
use Rattle.lent_catalogue.proofs.lookup.Goals as goal

pub returns-then-answer-lt-LOOKUP : goal.returns-then-answer-lt-LOOKUP
returns-then-answer-lt-LOOKUP c =
    let given : Lookup = lookup_of c.args.bytes.now c.args.number in
    let l = c.args.answer.now in
    let h : length l < 3 = c.if-answer-lt-LOOKUP.true in
    record {
      value = sym (lt-leb 3 (length l) h);
      answer_after = written-short l 3 (layout_lookup given) h;
    }

pub put_writing-requires-clause-small : goal.put_writing-requires-clause-small
put_writing-requires-clause-small c =
    lookup_small c.counted.result (ap looked_by c.counted.ensures.value ∙ c.lookup-s.ensures) (lookup-few c.args.bytes.now c.args.number).1 c.counted.ensures.small

pub returns : goal.returns
returns c =
    let l = c.args.answer.now in
    let h : 3 ≤ length l = search rules in
    record {
      value = sym (le-leb 3 (length l) h);
      answer_after = lookup-stored c.counted.result (ap looked_by c.counted.ensures.value ∙ c.lookup-s.ensures) l h c.put_writing.ensures;
    }
