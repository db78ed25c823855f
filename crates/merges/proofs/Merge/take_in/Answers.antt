-- 21 first; then what was read is refused, or it is one entry more.
use Rattle.std.proofs.Common.{Ok, Err}
use Rattle.merges.specs.Stored.{merge_in}
use Rattle.merges.specs.Added.{earlier, as_added, added-closed, refused-said, more, readable, added-said, added_is}
use Rattle.merges.proofs.Merge.take_in.Goals as goal

pub returns-then-self-clause-value : goal.returns-then-self-clause-value
returns-then-self-clause-value c = added-closed (merge_in c.args.self.now) c.args.bytes.now c.if-self.true

pub read_addition-requires : goal.read_addition-requires
read_addition-requires c = earlier c.args.self.now c.requires c.numbers-numbers.ensures

pub put-requires-clause-count_lt_most_entries : goal.put-requires-clause-count_lt_most_entries
put-requires-clause-count_lt_most_entries c =
    more c.args.self.now c.requires c.args.bytes.now c.in-Ok.e (as_added c.args.self.now c.requires c.numbers-numbers.ensures c.args.bytes.now (Ok c.in-Ok.e) c.in-Ok.ensures.outcome) c.in-Ok.ensures.stored

pub put-requires-clause-readable : goal.put-requires-clause-readable
put-requires-clause-readable c =
    readable c.args.self.now c.requires c.args.bytes.now c.in-Ok.e (as_added c.args.self.now c.requires c.numbers-numbers.ensures c.args.bytes.now (Ok c.in-Ok.e) c.in-Ok.ensures.outcome) c.in-Ok.ensures.stored

pub returns-in-Ok-clause-merge : goal.returns-in-Ok-clause-merge
returns-in-Ok-clause-merge c =
    added_is c.args.self.now c.requires c.args.bytes.now c.in-Ok.e (as_added c.args.self.now c.requires c.numbers-numbers.ensures c.args.bytes.now (Ok c.in-Ok.e) c.in-Ok.ensures.outcome) c.in-Ok.ensures.stored c.if-self.false c.put.ensures

pub returns-in-Ok-clause-value : goal.returns-in-Ok-clause-value
returns-in-Ok-clause-value c =
    added-said c.args.self.now c.requires c.args.bytes.now c.in-Ok.e (as_added c.args.self.now c.requires c.numbers-numbers.ensures c.args.bytes.now (Ok c.in-Ok.e) c.in-Ok.ensures.outcome) c.in-Ok.ensures.stored c.if-self.false c.put.ensures

pub returns-in-Err-clause-value : goal.returns-in-Err-clause-value
returns-in-Err-clause-value c =
    refused-said c.args.self.now c.requires c.args.bytes.now c.in-Err.refused (as_added c.args.self.now c.requires c.numbers-numbers.ensures c.args.bytes.now (Err c.in-Err.refused) c.in-Err.ensures.outcome) c.if-self.false
