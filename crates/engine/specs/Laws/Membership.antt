-- Membership in the lattice of an accepted input, tested on its reduced basis as `reduce` gives it.
use Rattle.std.specs.Prelude.{◌≡◌, ◌↔◌, true, List, map, length, take}
use Rattle.std.proofs.Common.{sym, ap, ◌∙◌, subst}
use Rattle.lattices.specs.Vector.{Vec, In}
use Rattle.lattices.specs.Greedy.{vectors}
use Rattle.lattices.specs.Refusal.{Input, basis, first_of, vector_checks, most_coordinates}
use Rattle.lattices.specs.Answer.{padded, reduction_of}
use Rattle.greedy_reduction.specs.Demand.{accepted-reduction}
use Rattle.successive_minima.specs.Member.{is_member}
use Rattle.greedy_reduction.specs.Membership.{member-padded, member-exactly as reduced-exactly}
use Rattle.greedy_reduction.specs.Promise.{basis-of}
use Rattle.engine.specs.Laws.Finish.{R, accept, outs-full, outs-rows}

module _ (i : Input) (e : first_of vector_checks i ≡ 0) where
  abbrev bs : List Vec
  bs = vectors (R i e)

  rows_are : take i.d (reduction_of i).basis ≡ map (padded most_coordinates) bs
  rows_are = ap (λ a. take i.d a.basis) (accepted-reduction i e) ∙ outs-rows i e

  -- the test says yes exactly when some integer combination of the input's vectors is v
  pub member-exactly : (v : Vec) → length v ≡ i.m → is_member (take i.d (reduction_of i).basis) (padded most_coordinates v) ≡ true ↔ In (basis i) v
  member-exactly v places =
      subst (λ t. t ≡ true ↔ In (basis i) v) (sym (ap (λ l. is_member l (padded most_coordinates v)) rows_are ∙ member-padded most_coordinates i.m (accept i e).few bs (outs-full i e) v places))
      (reduced-exactly i.m (basis i) (basis-of i (accept i e)) v places)
