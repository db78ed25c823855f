-- The basis that a reduction gives for an accepted input may be made a lattice.
use Rattle.std.specs.Prelude.{◌≡◌, ℕ, ◌≤◌, ◌<◌, ℤ, pos, ◌≤ℤ◌, ◌<ℤ◌, length, get_or, take}
use Rattle.std.proofs.Common.{sym, ap, ◌∙◌, subst, arith, get_or-take}
use mathlib.Core.List.{List, [], ◌∷◌, map, reverse_aux}
use Rattle.integers.specs.All.{All}
use Rattle.integers.specs.AllLaws.{get_d_map, all-at, all_imp}
use Rattle.lattices.specs.Vector.{Vec, N, comb, ◌⊕◌}
use Rattle.lattices.specs.Laws.Vector.{≈_sym, ≈-⊕, ≈-N}
use Rattle.lattices.specs.Greedy.{vectors, reduction}
use Rattle.lattices.specs.Refusal.{Input, basis, first_of, vector_checks, most_vectors, most_coordinates}
use Rattle.lattices.specs.Answer.{padded, table, reduction_of}
use Rattle.lattices.specs.Laws.Answer.{padded-≈, table-rows, length-vectors_of}
use Rattle.successive_minima.specs.Reduced.{Under, Top, Descending, Reduced}
use Rattle.greedy_reduction.specs.Start.{Coordinates}
use Rattle.greedy_reduction.specs.Exactness.{coordinates-at}
use Rattle.greedy_reduction.specs.Padding.{padded-N, comb-padded}
use Rattle.greedy_reduction.specs.Lattice.{reduced-count, reduced-full, reduction-reduced}
use Rattle.greedy_reduction.specs.Sizes.{Basis}
use Rattle.greedy_reduction.specs.Accepted.{accepted, short}
use Rattle.greedy_reduction.specs.Promise.{basis-of, reduced-short}
use Rattle.greedy_reduction.specs.Demand.{accepted-reduction}
use Rattle.lattice_membership.specs.Known.{ReducedBasis}
use Rattle.lattice_membership.specs.Laws.Made.{basis-padded}

-- ---- a reduced list filled up with zeros is reduced

module _ (n m : ℕ) (h : m ≤ n) where
  under-padded : (s : ℤ) (bs : List Vec) → Coordinates m bs → Under s bs → Under s (map (padded n) bs)
  under-padded s [] c u = tt
  under-padded s (b ∷ bs) c u = (subst (λ z. z ≤ℤ s) (sym (padded-N n b (omega (arith, c.0)))) u.0, under-padded s bs c.1 u.1)

  top-padded : (b : Vec) (bs : List Vec) → length b ≡ m → Coordinates m bs → Top b bs → Top (padded n b) (map (padded n) bs)
  top-padded b bs e c t =
      let same : N (padded n b) ≡ N b = padded-N n b (omega arith) in
      record {
        positive = subst (λ z. pos 0 <ℤ z) (sym same) t.positive;
        longest = subst (λ z. Under z (map (padded n) bs)) (sym same) (under-padded (N b) bs c t.longest);
        shortest = λ z. subst (λ s. s ≤ℤ N (padded n b ⊕ comb z (map (padded n) bs))) (sym same)
            (subst (λ s. N b ≤ℤ s) (≈-N (≈-⊕ (≈_sym (padded-≈ n b (omega arith))) (≈_sym (comb-padded n m h z bs c)))) (t.shortest z));
      }

  descending-padded : (bs : List Vec) → Coordinates m bs → Descending bs → Descending (map (padded n) bs)
  descending-padded [] c d = tt
  descending-padded (b ∷ bs) c d = (top-padded b bs c.0 c.1 d.0, descending-padded bs c.1 d.1)

  reversed_padded : (bs cs : List Vec) → Coordinates m bs → Coordinates m cs → Descending (reverse_aux bs cs) → Descending (reverse_aux (map (padded n) bs) (map (padded n) cs))
  reversed_padded [] cs b c d = descending-padded cs c d
  reversed_padded (v ∷ bs) cs b c d = reversed_padded bs (v ∷ cs) b.1 (b.0, c) d

  pub reduced-padded : (bs : List Vec) → Coordinates m bs → Reduced bs → Reduced (map (padded n) bs)
  reduced-padded bs c d = reversed_padded bs [] c tt d

-- ---- the rows of an array that begins with such a list

module _ (m : ℕ) (few : m ≤ most_coordinates) (vs : List Vec) (full : Coordinates m vs) (d : ℕ) (count : length vs ≡ d) where
  pub rows_short : (b : List Vec) → take d b ≡ map (padded most_coordinates) vs → All (λ v. N v ≤ℤ pos 400000000) vs → (k : ℕ) → k < d → N (get_or b k []) ≤ℤ pos 400000000
  rows_short b rows limit k h =
      let here : k < length vs = omega (arith, count) in
      let v = get_or vs k [] in
      let row : get_or b k [] ≡ padded most_coordinates v = sym (get_or-take d b k [] h) ∙ ap (λ l. get_or l k []) rows ∙ get_d_map (padded most_coordinates) vs [] [] k here in
      subst (λ n. n ≤ℤ pos 400000000) (sym (ap N row ∙ padded-N most_coordinates v (omega (arith, coordinates-at m vs full k here, few)))) (all-at (λ v. N v ≤ℤ pos 400000000) vs [] limit k here)

  pub table-first : d ≤ most_vectors → take d (table most_vectors most_coordinates vs) ≡ map (padded most_coordinates) vs
  table-first most = ap (λ n. take n (table most_vectors most_coordinates vs)) (sym count) ∙ table-rows most_vectors most_coordinates vs (omega (arith, count, most))

-- ---- the rows of the answer

module _ (i : Input) (e : first_of vector_checks i ≡ 0) where
  abbrev outs : List Vec
  outs = vectors (reduction (basis i)).rows

  B : Basis i.m (basis i)
  B = basis-of i (accepted i e)

  full : Coordinates i.m outs
  full = reduced-full i.m (basis i) B.full B.some

  pub outs-count : length outs ≡ i.d
  outs-count = reduced-count i.m (basis i) B.full B.some ∙ length-vectors_of i.d i.m i.numbers

  pub outs-rows : take i.d (reduction_of i).basis ≡ map (padded most_coordinates) outs
  outs-rows =
      ap (λ r. take i.d r.basis) (accepted-reduction i e) ∙ table-first i.m (accepted i e).few outs full i.d outs-count (accepted i e).most

  pub accepted-basis : ReducedBasis i.d (reduction_of i).basis
  accepted-basis = basis-padded i.d (reduction_of i).basis outs (accepted i e).most outs-rows
      (subst Reduced (sym outs-rows) (reduced-padded most_coordinates i.m (accepted i e).few outs full (reduction-reduced i.m (basis i) B.full B.some B.four B.volume)))
      (rows_short i.m (accepted i e).few outs full i.d outs-count (reduction_of i).basis outs-rows (all_imp (λ v h. short v h) outs (reduced-short i.m (basis i) B)))
