-- The first comparison decides whether the second counts.
use borrow.Author.Tests.{le-leb, lt-leb}
use Rattle.input_checks.proofs.one_to.Goals as goal

pub returns-then-n-ge1 : goal.returns-then-n-ge1
returns-then-n-ge1 c = simp (le-leb 1 _ c.if-n-ge1.true)

pub returns-else-n-ge1 : goal.returns-else-n-ge1
returns-else-n-ge1 c = simp (lt-leb 1 _ c.if-n-ge1.false)
