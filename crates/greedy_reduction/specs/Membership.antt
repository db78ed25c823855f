-- Membership in the lattice of a list, tested on its reduction: exact, and the same for lists and vectors filled up with zeros.
use Rattle.std.specs.Prelude.{◌≡◌, ◌↔◌, true, false, List, map, ◌++◌, ℕ, zero, suc, ◌≤◌, pos, length}
use Rattle.std.proofs.Common.{sym, ◌∙◌, subst, arith}
use Rattle.std.proofs.Math.Path.{ap}
use Rattle.std.specs.Int.Signed.{le_z}
use Rattle.lattices.specs.Vector.{Vec, N, In, ◌⊖◌, comb}
use Rattle.lattices.specs.Nearest.{nearest}
use Rattle.lattices.specs.Greedy.{vectors, reduction}
use Rattle.lattices.specs.Refusal.{Input, basis, first_of, vector_checks, target_checks}
use Rattle.lattices.specs.Answer.{padded, Membership, membership_of, nearest_of}
use Rattle.successive_minima.specs.Member.{squared_to, is_member}
use Rattle.successive_minima.specs.Laws.Members.{member_is, is_member_lem, member_in, in_member}
use Rattle.greedy_reduction.specs.Start.{Coordinates, comb-places, minus-places}
use Rattle.greedy_reduction.specs.Exactness.{comb-full}
use Rattle.greedy_reduction.specs.Lattice.{reduced-count, reduced-full, reduction-lattice, reduction-reduced}
use Rattle.greedy_reduction.specs.Padding.{padded-N, padded-minus, nearest-padded}
use Rattle.greedy_reduction.specs.Sizes.{Basis}
use Rattle.greedy_reduction.specs.Accepted.{accepted, targeted}
use Rattle.greedy_reduction.specs.Promise.{basis-of}
use Rattle.greedy_reduction.specs.Demand.{first-append, first-passed, accepted-nearest}

-- the test says yes exactly when some integer combination of the list is v
pub member-exactly : (m : ℕ) (bs : List Vec) → Basis m bs → (v : Vec) → length v ≡ m → (is_member (vectors (reduction bs).rows) v ≡ true) ↔ In bs v
member-exactly m bs B v places =
    let outs = vectors (reduction bs).rows in
    let count = reduced-count m bs B.full B.some in
    let lattice = reduction-lattice m bs B.full B.some v in (
      λ h. let g = member_is outs v h in
          lattice.1 (member_in outs v g (comb-full m g.coefficients outs (reduced-full m bs B.full B.some) g.count (omega (arith, count, B.some)) ∙ sym places)),
      λ h. is_member_lem outs (reduction-reduced m bs B.full B.some B.four B.volume) (omega (arith, count, B.four)) v (in_member outs v (lattice.0 h)),
    )

module _ (n m : ℕ) (h : m ≤ n) (bs : List Vec) (c : Coordinates m bs) (v : Vec) (e : length v ≡ m) where
  pub squared-padded : squared_to (map (padded n) bs) (padded n v) ≡ squared_to bs v
  squared-padded =
      let x = nearest bs v in
      ap (λ y. N (padded n v ⊖ comb y (map (padded n) bs))) (nearest-padded n m h bs c v e)
      ∙ ap N (sym (padded-minus n m h v (omega arith) x bs c))
      ∙ padded-N n (v ⊖ comb x bs) (omega (arith, minus-places m v (comb x bs) e (comb-places m x bs c)))

  pub member-padded : is_member (map (padded n) bs) (padded n v) ≡ is_member bs v
  unfolding is_member
  member-padded = ap (λ z. le_z z (pos 0)) squared-padded

-- ---- what holds of a membership

-- R12.3: yes exactly when some integer combination of the vectors is the target
pub record Belongs (i : Input) (r : Membership) : Type 0 where
  pub exactly : (r.member ≡ true) ↔ In (basis i) i.target

-- the answer for an accepted target, by the reduced basis
pub accepted_membership : (i : Input) → first_of (vector_checks ++ target_checks) i ≡ 0
    → membership_of i ≡ record { refusal = 0; place = 0; member = is_member (vectors (reduction (basis i)).rows) i.target }
unfolding membership_of is_member
accepted_membership i e =
    ap (λ (n : ℕ). elim n as (λ n. Membership) [ zero ↦ record { refusal = 0; place = 0; member = le_z (nearest_of i).square (pos 0) } | suc k ↦ record { refusal = suc k; place = 0; member = false } ]) e
    ∙ ap (λ a. record { refusal = 0; place = 0; member = le_z a.square (pos 0) }) (accepted-nearest i e)

-- for every accepted target with its vectors
pub membership_theorem : (i : Input) → first_of (vector_checks ++ target_checks) i ≡ 0 → Belongs i (membership_of i)
membership_theorem i e =
    let v = first-append vector_checks target_checks i (omega arith) e in
    let t = targeted i (sym (first-passed vector_checks target_checks i (omega arith) v) ∙ e) in
    subst (Belongs i) (sym (accepted_membership i e)) (record { exactly = member-exactly i.m (basis i) (basis-of i (accepted i v)) i.target t.count })
