-- Rows before row j keep their place.
use mathlib.Core.Path.{ap, ◌∙◌}
use mathlib.Core.List.{[]}
use native.Mathlib.Numerals.{add-one}
use native.Mathlib.Omega.{arith}
use lib.ListN.{get_or}
use Rattle.lattice_membership.specs.Laws.Cofactors.{without-before, without-after}
use Rattle.lattice_membership.proofs.other.Goals as goal

pub returns-then-i-j : goal.returns-then-i-j
returns-then-i-j c = let a = c.args in without-before a.j a.i a.t.now [] c.if-i-j.true

pub returns-else-i-j : goal.returns-else-i-j
returns-else-i-j c = let a = c.args in ap (λ n. get_or a.t.now n []) (add-one a.i) ∙ without-after a.j a.i a.t.now [] (omega arith)
