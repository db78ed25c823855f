-- That the test on the reduced basis gives the definition's answer: what `membership` gives.
use Rattle.std.specs.Prelude.{◌≡◌, refl, ◌≢◌, false, ◌++◌, ℕ, zero, suc, ◌≤◌, pos, ◌≤ℤ◌, length, take, drop, Ok, Err}
use Rattle.std.proofs.Common.{sym, ap, ◌∙◌, subst, arith, take_all}
use Rattle.std.specs.Int.Signed.{le_z}
use Rattle.lattices.specs.Vector.{N}
use Rattle.lattices.specs.Greedy.{vectors, reduction}
use Rattle.lattices.specs.Refusal.{Input, basis, first_of, vector_checks, target_checks, most_coordinates}
use Rattle.lattices.specs.Answer as Definition
use Rattle.lattices.specs.Answer.{padded, reduction_of, nearest_of, membership_of}
use Rattle.successive_minima.specs.Member.{is_member}
use Rattle.greedy_reduction.specs.Lattice.{reduced-full}
use Rattle.greedy_reduction.specs.Padding.{padded-N}
use Rattle.greedy_reduction.specs.Accepted.{accepted, targeted}
use Rattle.greedy_reduction.specs.Demand.{first-passed}
use Rattle.greedy_reduction.specs.Membership.{member-padded, accepted_membership}
use Rattle.greedy_reduction.specs.Promise.{basis-of}
use Rattle.lattice_membership.specs.Laws.Accepted.{outs-rows}
use Rattle.refusals.specs.declared.Refusal.{Refusal}
use Rattle.refusals.specs.Number.{number_of, number_of-nonzero}
use Rattle.engine.specs.Answers.{membership_in}

refused-answer : (i : Input) (n : ℕ) → first_of (vector_checks ++ target_checks) i ≡ suc n → record { refusal = suc n; place = 0; member = false } ≡ membership_of i
unfolding membership_of
refused-answer i n e = sym (ap (λ (k : ℕ). elim k as (λ k. Definition.Membership)
    [ zero ↦ record { refusal = 0; place = 0; member = le_z (nearest_of i).square (pos 0) } | suc j ↦ record { refusal = suc j; place = 0; member = false } ]) e)

refused_with : (i : Input) (n : ℕ) → n ≡ first_of (vector_checks ++ target_checks) i → n ≢ 0 → record { refusal = n; place = 0; member = false } ≡ membership_of i
refused_with i zero e h = absurd (h refl)
refused_with i (suc n) e h = refused-answer i n (sym e)

pub refused-member : (i : Input) (e : Refusal) → number_of e ≡ first_of (vector_checks ++ target_checks) i → membership_in (Err e) ≡ membership_of i
refused-member i e h = refused_with i (number_of e) h (number_of-nonzero e)

module _ (i : Input) (e : first_of vector_checks i ≡ 0) (f : first_of target_checks i ≡ 0) where
  few : length i.target ≤ most_coordinates
  few = omega (arith, (targeted i f).count, (accepted i e).few)

  -- the target as the code reads it
  pub target-padded : padded most_coordinates (take i.m (drop 0 i.target)) ≡ padded most_coordinates i.target
  target-padded = ap (padded most_coordinates) (take_all i.m i.target (omega (arith, (targeted i f).count)))

  pub target-short : N (padded most_coordinates i.target) ≤ℤ pos 400000000
  target-short = subst (λ n. n ≤ℤ pos 400000000) (sym (padded-N most_coordinates i.target few)) (targeted i f).limit

  pub member-answer : membership_in (Ok (is_member (take i.d (reduction_of i).basis) (padded most_coordinates i.target))) ≡ membership_of i
  member-answer =
      let B = basis-of i (accepted i e) in
      ap (λ b. membership_in (Ok b)) (ap (λ l. is_member l (padded most_coordinates i.target)) (outs-rows i e)
      ∙ member-padded most_coordinates i.m (accepted i e).few (vectors (reduction (basis i)).rows) (reduced-full i.m (basis i) B.full B.some) i.target (targeted i f).count)
      ∙ sym (accepted_membership i (first-passed vector_checks target_checks i (omega arith) e ∙ f))
