use mathlib.Core.Path.{◌≡◌, refl, sym, ap, ◌∙◌}
use mathlib.Core.List.{[]}
use Prim.Native.Nat.{◌-◌}
use native.Mathlib.Omega.{arith}
use lib.ListN.{take}
use Rattle.integers.specs.Every.{every}
use Rattle.integers.specs.Tests.{not_false}
use Rattle.successive_minima.specs.Member.{is_member}
use Rattle.lattice_membership.specs.Known.{vectors_in}
use Rattle.lattice_membership.specs.Laws.Members.{not_true, every_more, every_not}
use borrow.Author.Rules.{rules}
use Rattle.lattice_membership.proofs.holds_all.Goals as goal

pub loop-i-init : goal.loop-i-init
loop-i-init c = (search rules, refl)

pub member-requires : goal.member-requires
member-requires c = let s = c in record {
  known = s.requires.known;
  v_bound = s.requires.by_index (c.loop-i.i - 1) (omega arith);
}

pub returns-then-not-member : goal.returns-then-not-member
returns-then-not-member c =
    let l = c in
    let a = l.args in
    sym (l.loop-i.invariant.1 ∙ every_not (is_member (vectors_in a.l.now)) a.vectors.now [] l.loop-i.i (omega arith) (search rules) (sym c.member.ensures ∙ not_true c.member.result c.if-not-member.true-raw))

pub loop-i-preserved : goal.loop-i-preserved
loop-i-preserved c =
    let l = c in
    let a = l.args in (
      omega arith,
      l.loop-i.invariant.1 ∙ every_more (is_member (vectors_in a.l.now)) a.vectors.now [] l.loop-i.i (omega arith) (search rules) (sym c.member.ensures ∙ not_false c.member.result c.if-not-member.false-raw),
    )

pub returns : goal.returns
returns c =
    let l = c.loop-i in
    let a = c.args in
    let end : l.i ≡ 0 = omega arith in
    sym (l.invariant.1 ∙ ap (λ i. every (is_member (vectors_in a.l.now)) (take i a.vectors.now)) end)
