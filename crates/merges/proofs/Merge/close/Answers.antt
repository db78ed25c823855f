-- 21 first, then 12; otherwise the same entries, closed.
use Rattle.std.proofs.Common.{sym, ap, ◌∙◌, subst}
use Rattle.merge_rules.specs.Merge.{said, done}
use Rattle.merges.specs.Stored.{merge_in}
use Rattle.merges.specs.IsMerge.{IsMerge}
use Rattle.merges.specs.Closing.{closed_already, closing_as, few-filed, lost-filed, shut_said, shut_is}
use Rattle.merges.proofs.Merge.close.Goals as goal

pub returns-then-self-clause-result_value : goal.returns-then-self-clause-result_value
returns-then-self-clause-result_value c = closed_already (merge_in c.args.self) c.if-self.true

pub list-requires : goal.list-requires
list-requires c = few-filed c.args.self c.requires c.catalogue-c.ensures

pub returns-in-Some-clause-result_value : goal.returns-in-Some-clause-result_value
returns-in-Some-clause-result_value c =
    closing_as (merge_in c.args.self) c.if-self.false (sym (lost-filed c.args.self c.requires c.catalogue-c.ensures c.list.ensures) ∙ sym c.in-Some.ensures)

pub returns-clause-merge : goal.returns-clause-merge
returns-clause-merge c =
    let gone = sym (lost-filed c.args.self c.requires c.catalogue-c.ensures c.list.ensures) ∙ sym c.in_default.ensures in
    subst IsMerge (sym c.shut.ensures) (shut_is c.args.self c.requires c.if-self.false gone)

pub returns-clause-result_value : goal.returns-clause-result_value
returns-clause-result_value c =
    let gone = sym (lost-filed c.args.self c.requires c.catalogue-c.ensures c.list.ensures) ∙ sym c.in_default.ensures in
    ap (λ r. said (merge_in r) done) c.shut.ensures ∙ shut_said c.args.self c.requires c.if-self.false gone
