-- What an accepted input is: the checks of the table of refusals, read as facts.
use Rattle.std.specs.Prelude.{◌≡◌, refl, ◌≢◌, Bool, true, false, List, [], ◌∷◌, ℕ, zero, suc, ◌*◌, ◌≤◌, ℤ, pos, nat_abs, ◌≤ℤ◌, ◌<ℤ◌, ltb, eqb, length, drop}
use Rattle.std.proofs.Common.{◌∙◌, arith, eqb→eq, length-take, length-drop}
use Rattle.std.specs.Int.Signed.{lt_z}
use Rattle.integers.specs.Tests.{true_T, not_false, neither}
use Rattle.lattices.specs.Laws.Refusal.{one-to}
use Rattle.integers.specs.Order.{lt_z_false, le_z_false}
use Rattle.lattices.specs.Vector.{Vec, N}
use Rattle.lattices.specs.Volume.{squared_volume, is_dependent}
use Rattle.lattices.specs.Refusal.{Input, vectors_of, basis, one_to, too_long, Check, first_of, vector_checks, target_checks, most_vectors, most_coordinates, most_square, most_size}
use Rattle.integers.specs.Every.{any}
use Rattle.integers.specs.All.{All}
use Rattle.greedy_reduction.specs.Start.{Coordinates}

-- ---- where no check applies, each condition is false
pub passed : (cs : List Check) (i : Input) → All (λ c. c.number ≢ 0) cs → first_of cs i ≡ 0 → All (λ c. c.condition i ≡ false) cs
passed [] i h e = tt
passed (c ∷ cs) i h e = go (c.condition i) refl e (λ f. passed cs i h.1 f)
  where
    go : (b : Bool) → c.condition i ≡ b → ◌≡◌ {A = ℕ} (elim b [ true ↦ c.number | false ↦ first_of cs i ]) 0 → (first_of cs i ≡ 0 → All (λ c. c.condition i ≡ false) cs) → (c.condition i ≡ false) × All (λ c. c.condition i ≡ false) cs
    go true q e f = absurd (h.0 e)
    go false q e f = (q, f e)

-- the length limit
abbrev pub Short : Vec → Type 0
Short v = N v ≤ℤ pos most_square

pub short : (v : Vec) → too_long v ≡ false → Short v
short v e = lt_z_false (neither (any (λ x. ltb most_size (nat_abs x)) v) (lt_z (pos most_square) (N v)) e).1

all_short : (vs : List Vec) → any too_long vs ≡ false → All Short vs
all_short [] e = tt
all_short (v ∷ vs) e = (short v (neither (too_long v) (any too_long vs) e).0, all_short vs (neither (too_long v) (any too_long vs) e).1)

-- ---- the vectors of an input
pub vectors_of-full : (d m : ℕ) (l : List ℤ) → length l ≡ d * m → Coordinates m (vectors_of d m l)
vectors_of-full zero m l e = tt
vectors_of-full (suc d) m l e = (length-take m l ∙ omega arith, vectors_of-full d m (drop m l) (length-drop m l ∙ omega arith))

-- an accepted basis: the rows "vectors" of the table of refusals do not apply
pub record Accepted (i : Input) : Type 0 where
  pub some : 1 ≤ i.d
  pub most : i.d ≤ most_vectors
  pub coordinates : 1 ≤ i.m
  pub few : i.m ≤ most_coordinates
  pub count : length i.numbers ≡ i.d * i.m
  pub full : Coordinates i.m (basis i)
  pub limit : All Short (basis i)
  pub volume : pos 0 <ℤ squared_volume i.m (basis i)

pub accepted : (i : Input) → first_of vector_checks i ≡ 0 → Accepted i
unfolding is_dependent
accepted i e =
    let p = passed vector_checks i (omega arith) e in
    let d = one-to most_vectors i.d (not_false (one_to most_vectors i.d) p.0) in
    let m = one-to most_coordinates i.m (not_false (one_to most_coordinates i.m) p.1.0) in
    let count : length i.numbers ≡ i.d * i.m = eqb→eq (length i.numbers) (i.d * i.m) (true_T (not_false (eqb (length i.numbers) (i.d * i.m)) p.1.1.0)) in
    record {
      some = d.0;
      most = d.1;
      coordinates = m.0;
      few = m.1;
      count = count;
      full = vectors_of-full i.d i.m i.numbers count;
      limit = all_short (basis i) p.1.1.1.0;
      volume = le_z_false p.1.1.1.1.0;
    }

-- what an accepted target is
pub record Targeted (i : Input) : Type 0 where
  pub count : length i.target ≡ i.m
  pub limit : Short i.target

pub targeted : (i : Input) → first_of target_checks i ≡ 0 → Targeted i
targeted i e =
    let p = passed target_checks i (omega arith) e in
    record { count = eqb→eq (length i.target) i.m (true_T (not_false (eqb (length i.target) i.m) p.0)); limit = short i.target p.1.0 }
