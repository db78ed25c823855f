-- `membership` is the reduction, the check of the target, the lattice and the test on it.
use Rattle.std.specs.Prelude.{◌≡◌, refl, [], pos, ◌≤ℤ◌, take, Ok, Err}
use Rattle.std.proofs.Common.{sym, ap, ap₂, ◌∙◌, subst, arith, rules}
use Rattle.lattices.specs.Vector.{N}
use Rattle.lattices.specs.Refusal.{Input, first_of, vector_checks, target_checks}
use Rattle.greedy_reduction.specs.Accepted.{accepted}
use Rattle.greedy_reduction.specs.Demand.{first-refused, first-passed}
use Rattle.refusals.specs.Number.{number_of-nonzero}
use Rattle.successive_minima.specs.Member.{is_member}
use Rattle.lattice_membership.specs.Known.{ReducedBasis}
use Rattle.lattice_membership.specs.Laws.Made.{vectors-left}
use Rattle.lattice_membership.specs.Laws.Accepted.{accepted-basis}
use Rattle.engine.specs.Answers.{membership_in}
use Rattle.engine.specs.Laws.Begin.{first}
use Rattle.engine.specs.Laws.Answer.{basis-is}
use Rattle.engine.specs.Laws.Members.{refused-member, target-short, member-answer}
use Rattle.engine.proofs.members.membership.Goals as goal

pub returns-in_err-stepped : goal.returns-in_err-stepped
returns-in_err-stepped c =
    let i : Input = record { numbers = c.args.numbers.now; d = c.args.d; m = c.args.m; target = c.args.target.now } in
    let h = c.in_err-stepped.ensures.value in
    let q : c.from_residual.result ≡ Err c.in_err-stepped.field-0.0 = search rules in
    ap membership_in q ∙ refused-member i _ (h ∙ sym (first-refused vector_checks target_checks i (λ z. number_of-nonzero _ (h ∙ z))))

pub target-requires : goal.target-requires
target-requires c =
    let i : Input = record { numbers = c.args.numbers.now; d = c.args.d; m = c.args.m; target = c.args.target.now } in
    let e : first_of vector_checks i ≡ 0 = sym c.in_ok-stepped.ensures.value in
    (accepted i e).few

pub returns-in_err-t : goal.returns-in_err-t
returns-in_err-t c =
    let i : Input = record { numbers = c.args.numbers.now; d = c.args.d; m = c.args.m; target = c.args.target.now } in
    let e : first_of vector_checks i ≡ 0 = sym c.in_ok-stepped.ensures.value in
    let q : c.from_residual-in_err-t.result ≡ Err c.in_err-t.field-0.0 = search rules in
    ap membership_in q ∙ refused-member i _ (c.in_err-t.ensures.value ∙ sym (first-passed vector_checks target_checks i (omega arith) e))

pub lattice_of-l-requires : goal.lattice_of-l-requires
lattice_of-l-requires c =
    let i : Input = record { numbers = c.args.numbers.now; d = c.args.d; m = c.args.m; target = [] } in
    let e : first_of vector_checks i ≡ 0 = sym c.in_ok-stepped.ensures.value in
    subst (ReducedBasis c.args.d) (sym (basis-is i e _ _ (c.in_ok-stepped.ensures.reduced refl e))) (accepted-basis i e)

pub member-requires : goal.member-requires
member-requires c =
    let i : Input = record { numbers = c.args.numbers.now; d = c.args.d; m = c.args.m; target = c.args.target.now } in
    let e : first_of vector_checks i ≡ 0 = sym c.in_ok-stepped.ensures.value in
    let f : first_of target_checks i ≡ 0 = sym c.in_ok-t.ensures.value in
    record {
      known = c.lattice_of-l.ensures.known;
      v_bound = subst (λ t. N t ≤ℤ pos 400000000) (sym c.in_ok-t.ensures.target) (target-short i e f);
    }

pub returns : goal.returns
unfolding first
returns c =
    let i : Input = record { numbers = c.args.numbers.now; d = c.args.d; m = c.args.m; target = c.args.target.now } in
    let e : first_of vector_checks i ≡ 0 = sym c.in_ok-stepped.ensures.value in
    let f : first_of target_checks i ≡ 0 = sym c.in_ok-t.ensures.value in
    let vectors-are = basis-is i e _ _ (c.in_ok-stepped.ensures.reduced refl e) in
    ap (λ b. membership_in (Ok b)) (c.member.ensures ∙ ap₂ is_member (vectors-left c.lattice_of-l.result _ c.lattice_of-l.ensures.result_value ∙ ap (take c.args.d) vectors-are) c.in_ok-t.ensures.target)
    ∙ member-answer i e f
