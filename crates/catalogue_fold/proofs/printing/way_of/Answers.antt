-- A number that no entry has, the own number, another: each case says where the word leads.
use Rattle.std.proofs.Common.{◌≡◌, refl, length, rules, None}
use Rattle.catalogue_fold.specs.Printing.{sought, word-lost, word-own, word-other}
use Rattle.catalogue_fold.proofs.printing.way_of.Goals as goal

pub returns-in_err-k : goal.returns-in_err-k
returns-in_err-k c =
    let lost = word-lost c.args.e.now c.args.own c.args.numbers.now c.args.standing.now (length c.args.numbers.now) c.in_ok-see.was (sought c.args.e.now c.args.own c.args.numbers.now c.args.standing.now (length c.args.numbers.now) c.in_ok-see.was refl c.in_err-k.ensures) in
    let e : c.from_residual-in_err-k.result ≡ None = search rules in
    rw e lost

-- a word that leads back is not given
pub returns-then-there-own : goal.returns-then-there-own
returns-then-there-own c = word-own c.args.e.now c.args.own c.args.numbers.now c.args.standing.now (length c.args.numbers.now) c.in_ok-see.was (sought c.args.e.now c.args.own c.args.numbers.now c.args.standing.now (length c.args.numbers.now) c.in_ok-see.was refl c.in_ok-k.ensures) c.if-there-own.true

-- and one that is given leads to another
pub returns : goal.returns
returns c = word-other c.args.e.now c.args.own c.args.numbers.now c.args.standing.now (length c.args.numbers.now) c.in_ok-see.was (sought c.args.e.now c.args.own c.args.numbers.now c.args.standing.now (length c.args.numbers.now) c.in_ok-see.was refl c.in_ok-k.ensures) c.if-there-own.false
