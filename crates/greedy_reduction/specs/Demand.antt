-- Demand 3 for the services Reduction and Nearest, about the answers that the contracts of the engine name: the last declaration says it
-- in one statement, and the records `Reduces` and `Nears` say what holds.
use Rattle.std.specs.Prelude.{◌≡◌, refl, ◌≢◌, ◌↔◌, Bool, true, false, ℕ, zero, suc, ◌≤◌, ◌<◌, ℤ, ◌≤ℤ◌, length, get_or, take}
use Rattle.std.proofs.Math.Path.{sym, ap, ap₂, subst}
use Rattle.std.proofs.Common.{◌∙◌, arith}
use mathlib.Core.List.{List, [], ◌∷◌, ◌++◌, map}
use Rattle.std.proofs.lemmas.List.{length-map}
use Rattle.lattices.specs.Vector.{Vec, N, comb, distance, In, Independent}
use Rattle.lattices.specs.Nearest.{nearest}
use Rattle.lattices.specs.Greedy.{Row, vectors, units, reduction}
use Rattle.lattices.specs.Refusal.{Input, Check, basis, first_of, vector_checks, target_checks, most_vectors, most_coordinates}
use Rattle.lattices.specs.Answer.{table, rows_of_v, Reduction, Nearest, reduction_given, no_reduction, reduction_of, nearest_given, no_nearest, nearest_of}
use Rattle.lattices.specs.Laws.Answer.{take-padded, length-vectors_of}
use Rattle.successive_minima.specs.Laws.NearestLaws.{nearest-least, nearest-count}
use Rattle.integers.specs.All.{All, Some}
use Rattle.integers.specs.AllLaws.{all_imp}
use Rattle.successive_minima.specs.Laws.Minima.{successive}
use Rattle.greedy_reduction.specs.Moves.{length-vectors, row-squares}
use Rattle.greedy_reduction.specs.Start.{Coordinates, sized-vectors, sized-us}
use Rattle.greedy_reduction.specs.Exactness.{comb-full, reduction-length, reduction-sized, reduction-u, reduction-v, reduction_vu}
use Rattle.greedy_reduction.specs.Output.{least-N}
use Rattle.greedy_reduction.specs.Lattice.{rows-of-v, length-rows_of_v, reduction-lattice, reduction-reduced, reduction_uv}
use Rattle.greedy_reduction.specs.Accepted.{Accepted, accepted}

-- ---- an answer without its unused places
-- the first h rows of a table, each with its first w numbers
abbrev pub used : ℕ → ℕ → List (List ℤ) → List (List ℤ)
used h w t = map (take w) (take h t)

used-table : (d m h w : ℕ) (vs : List (List ℤ)) → length vs ≡ d → Coordinates m vs → d ≤ h → m ≤ w → used d m (table h w vs) ≡ vs
used-table zero m h w [] e k p q = refl
used-table zero m h w (v ∷ vs) e k p q = absurd (omega arith)
used-table (suc d) m zero w vs e k p q = absurd (omega arith)
used-table (suc d) m (suc h) w [] e k p q = absurd (omega arith)
used-table (suc d) m (suc h) w (v ∷ vs) e k p q = ap₂ ◌∷◌ (take-padded m w v k.0 q) (used-table d m h w vs (omega arith) k.1 (omega arith) q)

-- ---- what holds of a reduction
-- the vectors given, and the tables
abbrev pub vectors_in : Input → Reduction → List Vec
vectors_in i r = used i.d i.m r.basis

abbrev pub table_in : Input → List (List ℤ) → List (List ℤ)
table_in i t = used i.d i.d t

-- R12.3
pub record Reduces (i : Input) (r : Reduction) : Type 0 where
  -- the vectors given generate the lattice of the input and no other
  pub lattice : (v : Vec) → In (basis i) v ↔ In (vectors_in i r) v
  -- whichever independent vectors of the lattice anyone picks, more than k of them: some one is at least as long as vector k given
  pub minima : (vs : List Vec) → All (In (basis i)) vs → Independent vs → (k : ℕ) → k < length vs → k < i.d → Some (λ v. N (get_or (vectors_in i r) k []) ≤ℤ N v) vs
  -- both tables are exact, and inverse to each other
  pub u_exact : map (λ u. comb u (basis i)) (table_in i r.u) ≡ vectors_in i r
  pub v_exact : map (λ v. comb v (vectors_in i r)) (table_in i r.v) ≡ basis i
  pub u-v : map (λ u. comb u (table_in i r.v)) (table_in i r.u) ≡ units i.d
  pub v-u : map (λ v. comb v (table_in i r.u)) (table_in i r.v) ≡ units i.d
  pub squares : take i.d r.squares ≡ map N (vectors_in i r)

module _ (i : Input) (ok : Accepted i) where
  ins-count : length (basis i) ≡ i.d
  ins-count = length-vectors_of i.d i.m i.numbers

  ins-some : 1 ≤ length (basis i)
  ins-some = omega (arith, ins-count, ok.some)

  rows : List Row
  rows = (reduction (basis i)).rows

  rows-count : length rows ≡ i.d
  unfolding rows
  rows-count = reduction-length i.m (basis i) ok.full ins-some ∙ ins-count

  outs-count : length (vectors rows) ≡ i.d
  outs-count = length-vectors rows ∙ rows-count

  outs-full : Coordinates i.m (vectors rows)
  unfolding rows
  outs-full = sized-vectors i.m (length (basis i)) rows (reduction-sized i.m (basis i) ok.full ins-some)

  given : Reduction
  given = reduction_given (reduction (basis i))

  vectors-given : vectors_in i given ≡ vectors rows
  unfolding given rows
  vectors-given = used-table i.d i.m most_vectors most_coordinates (vectors rows) outs-count outs-full ok.most ok.few

  u-given : table_in i given.u ≡ map (λ r. r.u) rows
  unfolding given rows
  u-given = used-table i.d i.d most_vectors most_vectors (map (λ r. r.u) rows) (length-map rows (λ r. r.u) ∙ rows-count)
      (subst (λ n. Coordinates n (map (λ r. r.u) rows)) ins-count (sized-us i.m (length (basis i)) rows (reduction-sized i.m (basis i) ok.full ins-some)))
      ok.most ok.most

  v-given : table_in i given.v ≡ rows_of_v rows 0 (length (basis i))
  unfolding given rows
  v-given = ap (λ n. table_in i (table most_vectors most_vectors (rows_of_v rows 0 n))) (rows-count ∙ sym ins-count)
      ∙ used-table i.d i.d most_vectors most_vectors (rows_of_v rows 0 (length (basis i))) (length-rows_of_v rows 0 (length (basis i)) ∙ ins-count)
      (subst (λ n. Coordinates n (rows_of_v rows 0 (length (basis i)))) rows-count (rows-of-v rows 0 (length (basis i)))) ok.most ok.most

  squares-given : take i.d given.squares ≡ map N (vectors rows)
  unfolding given rows
  squares-given = take-padded i.d most_vectors (map (λ r. N r.vector) rows) (length-map rows (λ r. N r.vector) ∙ rows-count) ok.most ∙ row-squares rows

  outs-minima : (vs : List Vec) → All (In (basis i)) vs → Independent vs → (k : ℕ) → k < length vs → k < i.d → Some (λ v. N (get_or (vectors rows) k []) ≤ℤ N v) vs
  unfolding rows
  outs-minima vs h n k a b = successive (vectors rows) (reduction-reduced i.m (basis i) ok.full ins-some (omega (arith, ins-count, ok.most)) ok.volume) (omega (arith, outs-count, ok.most)) vs
      (all_imp (λ v. (reduction-lattice i.m (basis i) ok.full ins-some v).0) vs h) n k a (omega (arith, outs-count))

  given-reduces : Reduces i given
  unfolding rows
  given-reduces = record {
    lattice = λ v. subst (λ l. In (basis i) v ↔ In l v) (sym vectors-given) (reduction-lattice i.m (basis i) ok.full ins-some v);
    minima = λ vs h n k a b. subst (λ l. Some (λ v. N (get_or l k []) ≤ℤ N v) vs) (sym vectors-given) (outs-minima vs h n k a b);
    u_exact = ap (map (λ u. comb u (basis i))) u-given ∙ reduction-u i.m (basis i) ok.full ins-some ∙ sym vectors-given;
    v_exact = ap₂ (λ l t. map (λ v. comb v l) t) vectors-given v-given ∙ reduction-v i.m (basis i) ok.full ins-some;
    u-v = ap₂ (λ l t. map (λ u. comb u l) t) v-given u-given ∙ reduction_uv i.m (basis i) ok.full ins-some (omega (arith, ins-count, ok.most)) ok.volume ∙ ap units ins-count;
    v-u = ap₂ (λ l t. map (λ v. comb v l) t) u-given v-given ∙ reduction_vu i.m (basis i) ok.full ins-some ∙ ap units ins-count;
    squares = squares-given ∙ ap (map N) (sym vectors-given);
  }

-- the answer for an accepted basis
pub accepted-reduction : (i : Input) → first_of vector_checks i ≡ 0 → reduction_of i ≡ reduction_given (reduction (basis i))
unfolding reduction_of
accepted-reduction i e = ap (λ (n : ℕ). elim n as (λ n. Reduction) [ zero ↦ reduction_given (reduction (basis i)) | suc k ↦ no_reduction (suc k) ]) e

-- for every accepted basis
pub reduction_theorem : (i : Input) → first_of vector_checks i ≡ 0 → Reduces i (reduction_of i)
unfolding given
reduction_theorem i e = subst (Reduces i) (sym (accepted-reduction i e)) (given-reduces i (accepted i e))

-- ---- what holds of a nearest vector
-- R12.3
pub record Nears (i : Input) (r : Nearest) : Type 0 where
  -- the vector named is in the lattice
  pub member : In (basis i) (take i.m r.vector)
  -- and every other lattice vector is at least as far from the target
  pub nearest : (v : Vec) → In (basis i) v → distance i.target (take i.m r.vector) ≤ℤ distance i.target v
  -- its coefficients on the reduced basis, and its squared distance
  pub coefficients : comb (take i.d r.coefficients) (vectors_in i (reduction_of i)) ≡ take i.m r.vector
  pub square : r.square ≡ distance i.target (take i.m r.vector)

module _ (i : Input) (ok : Accepted i) (e : first_of vector_checks i ≡ 0) where
  outs : List Vec
  outs = vectors (rows i ok)

  x : List ℤ
  x = nearest outs i.target

  x-count : length x ≡ length outs
  unfolding x
  x-count = nearest-count outs i.target

  near-given : Nearest
  near-given = nearest_given outs i.target

  vector-given : take i.m near-given.vector ≡ comb x outs
  unfolding near-given x outs
  vector-given = take-padded i.m most_coordinates (comb x outs)
      (comb-full i.m x outs (outs-full i ok) x-count (omega (arith, outs-count i ok, ok.some))) ok.few

  coefficients-given : take i.d near-given.coefficients ≡ x
  unfolding near-given x outs
  coefficients-given = take-padded i.d most_vectors x (x-count ∙ outs-count i ok) ok.most

  lattice : (v : Vec) → In (basis i) v ↔ In outs v
  unfolding outs rows
  lattice v = reduction-lattice i.m (basis i) ok.full (ins-some i ok) v

  given-member : In (basis i) (comb x outs)
  given-member = (lattice (comb x outs)).1 (record { coefficients = x; count = x-count; gives = refl })

  given-nearest : (v : Vec) → In (basis i) v → distance i.target (comb x outs) ≤ℤ distance i.target v
  unfolding x outs rows
  given-nearest v h =
      let g = (lattice v).0 h in
      subst (λ w. distance i.target (comb x outs) ≤ℤ distance i.target w) g.gives
      (least-N (nearest-least outs (reduction-reduced i.m (basis i) ok.full (ins-some i ok) (omega (arith, ins-count i ok, ok.most)) ok.volume) (omega (arith, outs-count i ok, ok.most)) i.target)
      g.coefficients g.count)

  given_nears : Nears i near-given
  unfolding near-given x outs rows given
  given_nears = record {
    member = subst (In (basis i)) (sym vector-given) given-member;
    nearest = λ v h. subst (λ w. distance i.target w ≤ℤ distance i.target v) (sym vector-given) (given-nearest v h);
    coefficients = ap₂ comb coefficients-given (ap (vectors_in i) (accepted-reduction i e) ∙ vectors-given i ok) ∙ sym vector-given;
    square = ap (distance i.target) (sym vector-given);
  }

-- the checks of a target come after those of its vectors
pub first-append : (cs ds : List Check) (i : Input) → All (λ c. c.number ≢ 0) cs → first_of (cs ++ ds) i ≡ 0 → first_of cs i ≡ 0
first-append [] ds i h e = refl
first-append (c ∷ cs) ds i h e = go (c.condition i) e (λ f. first-append cs ds i h.1 f)
  where
    go : (b : Bool) → ◌≡◌ {A = ℕ} (elim b [ true ↦ c.number | false ↦ first_of (cs ++ ds) i ]) 0 → (first_of (cs ++ ds) i ≡ 0 → first_of cs i ≡ 0)
        → ◌≡◌ {A = ℕ} (elim b [ true ↦ c.number | false ↦ first_of cs i ]) 0
    go true e f = e
    go false e f = f e

-- a refusal of the first checks stands, and where there is none the later ones decide
pub first-refused : (cs ds : List Check) (i : Input) → first_of cs i ≢ 0 → first_of (cs ++ ds) i ≡ first_of cs i
first-refused [] ds i h = absurd (h refl)
first-refused (c ∷ cs) ds i h = go (c.condition i) h (λ f. first-refused cs ds i f)
  where
    go : (b : Bool) → ◌≢◌ {A = ℕ} (elim b [ true ↦ c.number | false ↦ first_of cs i ]) 0 → (first_of cs i ≢ 0 → first_of (cs ++ ds) i ≡ first_of cs i)
        → ◌≡◌ {A = ℕ} (elim b [ true ↦ c.number | false ↦ first_of (cs ++ ds) i ]) (elim b [ true ↦ c.number | false ↦ first_of cs i ])
    go true h f = refl
    go false h f = f h

pub first-passed : (cs ds : List Check) (i : Input) → All (λ c. c.number ≢ 0) cs → first_of cs i ≡ 0 → first_of (cs ++ ds) i ≡ first_of ds i
first-passed [] ds i h e = refl
first-passed (c ∷ cs) ds i h e = go (c.condition i) e (λ f. first-passed cs ds i h.1 f)
  where
    go : (b : Bool) → ◌≡◌ {A = ℕ} (elim b [ true ↦ c.number | false ↦ first_of cs i ]) 0 → (first_of cs i ≡ 0 → first_of (cs ++ ds) i ≡ first_of ds i)
        → ◌≡◌ {A = ℕ} (elim b [ true ↦ c.number | false ↦ first_of (cs ++ ds) i ]) (first_of ds i)
    go true e f = absurd (h.0 e)
    go false e f = f e

pub accepted-nearest : (i : Input) → first_of (vector_checks ++ target_checks) i ≡ 0 → nearest_of i ≡ nearest_given (vectors (reduction (basis i)).rows) i.target
unfolding nearest_of
accepted-nearest i e =
    ap (λ (n : ℕ). elim n as (λ n. Nearest) [ zero ↦ nearest_given (vectors (reduction (basis i)).rows) i.target | suc k ↦ no_nearest (suc k) ]) e

-- for every accepted target with its vectors
pub nearest_theorem : (i : Input) → first_of (vector_checks ++ target_checks) i ≡ 0 → Nears i (nearest_of i)
unfolding near-given outs rows
nearest_theorem i e =
    let v = first-append vector_checks target_checks i (omega arith) e in
    subst (Nears i) (sym (accepted-nearest i e)) (given_nears i (accepted i v) v)

-- demand 3 for both services: every accepted basis is reduced, and for every accepted target the nearest vector is named
pub both_services : (i : Input) → (first_of vector_checks i ≡ 0 → Reduces i (reduction_of i)) × (first_of (vector_checks ++ target_checks) i ≡ 0 → Nears i (nearest_of i))
both_services i = (reduction_theorem i, nearest_theorem i)
