-- The answer is stored where there is room for it, and nothing is done where there is not.
use Rattle.std.proofs.Common.{◌≤◌, ◌<◌, length, sym, le-leb, rules}
use Rattle.std.proofs.lemmas.Bool.{lt-leb}
use Rattle.catalogue_rules.specs.Output.{Output}
use Rattle.fold_rules.specs.Services.{fold_of}
use Rattle.lent_numbers.specs.Layout.{layout_output}
use Rattle.lent_numbers.specs.Runs.{written-short}
use Rattle.lent_catalogue.specs.CatalogueShape.{fold-few, beside-short, writing_small, writing-stored, writing-beside}
use Rattle.lent_catalogue.proofs.fold.Goals as goal

pub returns-then-answer-lt-WRITING : goal.returns-then-answer-lt-WRITING
returns-then-answer-lt-WRITING c =
    let given : Output = fold_of c.args.bytes.now c.args.out.now in
    let l = c.args.answer.now in
    let h : length l < 3 = c.if-answer-lt-WRITING.true in
    record {
      value = sym (lt-leb 3 (length l) h);
      answer_after = written-short l 3 (layout_output given) h;
      out_after = beside-short l c.args.out.now given.lent h;
    }

pub put_writing-requires-clause-small : goal.put_writing-requires-clause-small
put_writing-requires-clause-small c = writing_small c.fold-f.result c.fold-f.new.out c.fold-f.ensures (fold-few c.args.bytes.now c.args.out.now)

pub returns : goal.returns
returns c =
    let l = c.args.answer.now in
    let h : 3 ≤ length l = search rules in
    record {
      value = sym (le-leb 3 (length l) h);
      answer_after = writing-stored c.fold-f.result c.fold-f.new.out c.fold-f.ensures l h c.put_writing.ensures;
      out_after = writing-beside c.fold-f.result c.fold-f.new.out c.fold-f.ensures l h c.args.out.now;
    }
