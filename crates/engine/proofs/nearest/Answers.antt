-- `nearest` is the checks, the steps and the search on what they leave.
use Rattle.std.specs.Prelude.{◌≡◌, refl, ◌≤◌, ◌*◌, Err}
use Rattle.std.proofs.Common.{sym, ap, ◌∙◌, subst, subst₂, arith, rules, to_z-of_z, w64, SFits}
use Rattle.successive_minima.specs.Laws.Digits.{Bounded}
use Rattle.lattices.specs.Refusal.{Input, first_of, vector_checks, target_checks}
use Rattle.greedy_reduction.specs.Accepted.{accepted}
use Rattle.greedy_reduction.specs.Demand.{first-refused, first-passed}
use Rattle.refusals.specs.Number.{number_of-nonzero}
use Rattle.row_operations.specs.Dot.{weight, weight-entries}
use Rattle.nearest_search.specs.Near.{coordinates}
use Rattle.engine.specs.Laws.Begin.{first}
use Rattle.engine.specs.Laws.Answer.{begins, outcome_of, vectors-given, gram-given}
use Rattle.engine.specs.Laws.Nearest.{array, target, near, Answered, nearest-answer, nearest-tenths, refused-nearest}
use Rattle.solutions.specs.Solution.{TenthsFor}
use Rattle.engine.specs.Answers.{nearest_in, tenths_in}
use Rattle.engine.proofs.nearest.Goals as goal

pub returns-in_err-begun : goal.returns-in_err-begun
returns-in_err-begun c =
    let i : Input = record { numbers = c.args.numbers.now; d = c.args.d; m = c.args.m; target = c.args.target.now } in
    let h = c.in_err-begun.ensures.value in
    let r = refused-nearest i _ (h ∙ sym (first-refused vector_checks target_checks i (λ z. number_of-nonzero _ (h ∙ z)))) in
    let q : c.from_residual.result ≡ Err c.in_err-begun.field-0.0 = search rules in
    record { value = ap nearest_in q ∙ r.0; tenths_for = subst (TenthsFor i) (sym (ap tenths_in q)) r.1 }

pub target-requires : goal.target-requires
target-requires c =
    let i : Input = record { numbers = c.args.numbers.now; d = c.args.d; m = c.args.m; target = c.args.target.now } in
    let e : first_of vector_checks i ≡ 0 = sym c.in_ok-begun.ensures.value in
    (accepted i e).few

pub returns-in_err-t : goal.returns-in_err-t
returns-in_err-t c =
    let i : Input = record { numbers = c.args.numbers.now; d = c.args.d; m = c.args.m; target = c.args.target.now } in
    let e : first_of vector_checks i ≡ 0 = sym c.in_ok-begun.ensures.value in
    let r = refused-nearest i _ (c.in_err-t.ensures.value ∙ sym (first-passed vector_checks target_checks i (omega arith) e)) in
    let q : c.from_residual-in_err-t.result ≡ Err c.in_err-t.field-0.0 = search rules in
    record { value = ap nearest_in q ∙ r.0; tenths_for = subst (TenthsFor i) (sym (ap tenths_in q)) r.1 }

pub take_steps-requires : goal.take_steps-requires
take_steps-requires c =
    let i : Input = record { numbers = c.args.numbers.now; d = c.args.d; m = c.args.m; target = c.args.target.now } in
    let e : first_of vector_checks i ≡ 0 = sym c.in_ok-begun.ensures.value in
    let b = c.in_ok-begun.ensures.begun refl in
    record { d_bound = (accepted i e).most; reducible = begins i e (record { count = refl; rows = b.0 }) b.1 refl }

pub dot-requires : goal.dot-requires
dot-requires c =
    let i : Input = record { numbers = c.args.numbers.now; d = c.args.d; m = c.args.m; target = c.args.target.now } in
    let e : first_of vector_checks i ≡ 0 = sym c.in_ok-begun.ensures.value in
    let f : first_of target_checks i ≡ 0 = sym c.in_ok-t.ensures.value in
    let small : Bounded 20000 c.in_ok-t.t = subst (Bounded 20000) (sym c.in_ok-t.ensures.target) (coordinates (target i e f) (near i e f).target) in
    let h : weight c.in_ok-t.t c.in_ok-t.t ≤ 8 * (20000 * 20000) = weight-entries 8 c.in_ok-t.t c.in_ok-t.t (search rules) small small in
    (search rules, omega (arith, h))

pub searched-requires : goal.searched-requires
unfolding first
searched-requires c =
    let i : Input = record { numbers = c.args.numbers.now; d = c.args.d; m = c.args.m; target = c.args.target.now } in
    let e : first_of vector_checks i ≡ 0 = sym c.in_ok-begun.ensures.value in
    let f : first_of target_checks i ≡ 0 = sym c.in_ok-t.ensures.value in
    let b = c.in_ok-begun.ensures.begun refl in
    let o = outcome_of i e (record { count = refl; rows = b.0 }) b.1 refl c.take_steps.ensures in
    let vectors-are = vectors-given i e _ _ o in
    let fits : SFits w64 c.dot.result = record { sfits = c.dot.type_inv } in
    simp (to_z-of_z, fits) (record {
      d_bound = (accepted i e).most;
      n_value = c.dot.ensures;
      near = rw (vectors-are, c.in_ok-t.ensures.target) (near i e f);
      gram_of = rw vectors-are (gram-given i e _ _ o);
    })

pub returns : goal.returns
unfolding first
returns c =
    let i : Input = record { numbers = c.args.numbers.now; d = c.args.d; m = c.args.m; target = c.args.target.now } in
    let e : first_of vector_checks i ≡ 0 = sym c.in_ok-begun.ensures.value in
    let f : first_of target_checks i ≡ 0 = sym c.in_ok-t.ensures.value in
    let b = c.in_ok-begun.ensures.begun refl in
    let vectors-are = vectors-given i e _ _ (outcome_of i e (record { count = refl; rows = b.0 }) b.1 refl c.take_steps.ensures) in
    let a : Answered i.d (array i e f) (target i e f) c.searched.result = subst₂ (λ b t. Answered i.d b t c.searched.result) vectors-are c.in_ok-t.ensures.target c.searched.ensures in
    record { value = nearest-answer i e f c.searched.result a; tenths_for = nearest-tenths i e f c.searched.result a }
