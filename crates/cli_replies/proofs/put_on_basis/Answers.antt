-- Where the search is not refused the vectors are not, and both texts follow each other.
use Rattle.std.specs.Prelude.{false, true, zero, suc, [], ◌++◌, Ok, Err}
use Rattle.std.proofs.Common.{◌≡◌, refl, sym, ap, ◌∙◌, ℕ, subst, eq-eqb, true≢false, arith}
use Rattle.std.specs.declared.result.Result.{Result}
use Rattle.std.specs.Result.{is_err}
use Rattle.lattices.specs.Greedy.{vectors, reduction}
use Rattle.lattices.specs.Refusal.{Input, basis, first_of, vector_checks, target_checks}
use Rattle.lattices.specs.Answer.{Nearest, nearest_given, no_nearest, nearest_of}
use Rattle.greedy_reduction.specs.Demand.{first-append, accepted-reduction}
use Rattle.refusals.specs.declared.Refusal.{Refusal}
use Rattle.engine.specs.declared.NearestVector.{NearestVector}
use Rattle.engine.specs.Answers.{nearest_in, tenths_in}
use Rattle.text_output.specs.Puts.{Puts, puts_then}
use Rattle.cli_answers.specs.Answers.{nearest_text}
use Rattle.cli_replies.specs.Replies.{basis_of}
use Rattle.cli_replies.proofs.put_on_basis.Goals as goal

checked : (i : Input) → (nearest_of i).refusal ≡ 0 → first_of vector_checks i ≡ 0
unfolding nearest_of
checked i h = first-append vector_checks target_checks i (omega arith) (go (first_of (vector_checks ++ target_checks) i) h)
  where
    go : (n : ℕ) → (elim n as (λ n. Nearest) [ zero ↦ nearest_given (vectors (reduction (basis i)).rows) i.target | suc k ↦ no_nearest (suc k) ]).refusal ≡ 0 → n ≡ 0
    go zero h = refl
    go (suc k) h = h

found : (r : Result NearestVector Refusal) → is_err r ≡ false → (nearest_in r).refusal ≡ 0
found (Ok a) e = refl
found (Err r) e = absurd (true≢false e)

pub put_basis-k-requires-clause-accepted : goal.put_basis-k-requires-clause-accepted
put_basis-k-requires-clause-accepted c =
    let i : Input = record { numbers = c.args.numbers.now; d = c.args.d; m = c.args.m; target = c.args.target.now } in
    let zero-is = sym (ap (λ r. r.refusal) c.nearest-a.ensures.value) ∙ found c.nearest-a.result (sym c.is_err.ensures.value ∙ c.if-is_err.false) in
    ap (λ r. r.refusal) (accepted-reduction (record { numbers = i.numbers; d = i.d; m = i.m; target = [] }) (checked i zero-is))

pub returns-clause-told : goal.returns-clause-told
returns-clause-told c =
    let a = c.args in
    let i : Input = record { numbers = a.numbers.now; d = a.d; m = a.m; target = a.target.now } in
    let zero-is = sym (ap (λ r. r.refusal) c.nearest-a.ensures.value) ∙ found c.nearest-a.result (sym c.is_err.ensures.value ∙ c.if-is_err.false) in
    let vectors : Puts (basis_of true (nearest_of i).refusal a.d a.m a.numbers.now) a.out.now a.at c.put_basis-k.new.out c.put_basis-k.result =
    rw (eq-eqb (nearest_of i).refusal 0 zero-is) c.put_basis-k.ensures.puts in
    let nearest = subst (λ r. Puts (nearest_text a.d a.m (tenths_in c.nearest-a.result) r) c.put_basis-k.new.out c.put_basis-k.result c.put_nearest-2.new.out c.put_nearest-2.result) c.nearest-a.ensures.value c.put_nearest-2.ensures.puts in
    record {
      tenths = tenths_in c.nearest-a.result;
      right = (c.nearest-a.ensures.tenths_for, tt);
      puts = puts_then vectors nearest;
    }
