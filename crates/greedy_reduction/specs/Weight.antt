-- What reduced rows weigh in a combination of their vectors: the lengths of its parts, and from them the sizes of the terms in any
-- list that goes with the vectors (the vectors themselves, rows of U).
use Rattle.std.specs.Prelude.{◌≡◌, ℕ, zero, suc, ◌+◌, ◌*◌, ◌≤◌, ℤ, negsuc, nat_abs, ◌+ℤ◌, ◌*ℤ◌, ◌≤ℤ◌, length}
use Rattle.std.proofs.Math.Path.{sym, subst}
use Rattle.std.proofs.Common.{ap, ◌∙◌, subst₂, length-append}
use mathlib.Core.List.{List, [], ◌∷◌, ◌++◌, map, reverse, reverse-append}
use native.Mathlib.Omega.{arith}
use Rattle.std.proofs.Math.IntN.{pos}
use Rattle.std.specs.Int.Signed.{≤ℤ_refl, lt_z_yes}
use Rattle.std.proofs.lemmas.List.{length-map, length-reverse}
use Rattle.integers.specs.Identity.{by_ring, reads}
use Rattle.integers.specs.Order.{≤ℤ_trans, *ℤ_mono, *ℤ-cancel-≤}
use Rattle.integers.specs.Certificate.{nn-pos, ◌⊞◌, ◌⊠◌, le, eq, by_nn}
use Rattle.integers.specs.Size.{load, load_snoc}
use Rattle.lattices.specs.Vector.{Vec, N, nth, dot, ◌⊕◌, ◌⊙◌, ◌⊖◌, comb}
use Rattle.lattices.specs.Laws.Vector.{N-⊖, ◌≈◌, ≈-N, ≈_refl, ≈_sym, ≈_trans, ≈-⊕, bilinear, dot_comm, N-nonneg, comb_cons, comb_snoc, comb-reverse}
use Rattle.lattices.specs.Greedy.{Row, vectors, last_of, before}
use Rattle.successive_minima.specs.Reduced.{Top, Descending, Reduced}
use Rattle.successive_minima.specs.Laws.ReducedLaws.{pinned}
use Rattle.successive_minima.specs.Laws.NearestLaws.{ended}
use Rattle.greedy_reduction.specs.Moves.{before_last, length_before, length-vectors, vectors-append}
use Rattle.integers.specs.All.{All}
use Rattle.integers.specs.AllLaws.{all_left, all_right, map-append}

-- ---- the parts of a combination of reduced vectors
-- a difference of vectors of lengths a and 2·a is at most 3·a long
third : (s : ℤ) (u v : Vec) → N u ≤ℤ s → N v ≤ℤ (pos 4 *ℤ s) → N (u ⊖ v) ≤ℤ (pos 9 *ℤ s)
third s u v h k = *ℤ-cancel-≤ {c = pos 2} (lt_z_yes tt) (by_nn (N u ∷ N v ∷ dot u v ∷ s ∷ N (u ⊖ v) ∷ N (pos 2 ⊙ u ⊕ v) ∷ [])
    (nn-pos 6 ⊠ le h ⊞ nn-pos 3 ⊠ le k ⊞ N-nonneg (pos 2 ⊙ u ⊕ v) ⊞ eq (negsuc 0) double ⊞ eq (negsuc 1) (N-⊖ u v)) (search reads depth 20) (search reads depth 20) tt)
  where
    double : N (pos 2 ⊙ u ⊕ v) ≡ pos 4 *ℤ N u +ℤ pos 4 *ℤ dot u v +ℤ N v
    double = simp (bilinear, dot_comm v u) (by_ring (N u ∷ N v ∷ dot u v ∷ []) (search reads depth 20) (search reads depth 20) tt)

N-⊙ : (x : ℤ) (v : Vec) → N (x ⊙ v) ≡ x *ℤ x *ℤ N v
N-⊙ x v = simp bilinear (by_ring (x ∷ N v ∷ []) (search reads depth 20) (search reads depth 20) tt)

-- the last vector's part of a combination, and the rest of it: at most 2 and 3 times as long
module _ (ws : List Vec) (l : Vec) (top : Top l (reverse ws)) (short : length ws ≤ 3) (x : List ℤ) (y : ℤ) (e : length x ≡ length ws) where
  whole : Vec
  whole = comb (x ++ (y ∷ [])) (ws ++ (l ∷ []))

  turned : comb (reverse x) (reverse ws) ≈ comb x ws
  turned = comb-reverse x ws e

  opened : comb (y ∷ reverse x) (l ∷ reverse ws) ≈ whole
  unfolding whole
  opened = ≈_trans (comb_cons y (reverse x) l (reverse ws)) (≈_trans (≈-⊕ ≈_refl turned) (≈_sym (comb_snoc x ws y l e)))

  part-last : N (y ⊙ l) ≤ℤ (pos 4 *ℤ N whole)
  part-last = subst₂ ◌≤ℤ◌ (sym (N-⊙ y l)) (ap (λ n. pos 4 *ℤ n) (≈-N opened)) (pinned top (omega (arith, length-reverse ws)) y (reverse x))

  part-rest : N (comb x ws) ≤ℤ (pos 9 *ℤ N whole)
  unfolding whole
  part-rest = subst (λ n. n ≤ℤ (pos 9 *ℤ N whole)) (≈-N (record { on = same-dot })) (third (N whole) whole (y ⊙ l) (≤ℤ_refl (N whole)) part-last)
    where
      same-dot : (w : Vec) → dot (whole ⊖ y ⊙ l) w ≡ dot (comb x ws) w
      same-dot w = simp (bilinear, (comb_snoc x ws y l e).on w) (by_ring (y ∷ dot l w ∷ dot (comb x ws) w ∷ []) (search reads depth 20) (search reads depth 20) tt)

-- ---- the terms of a combination of k reduced rows that is at most A · 20,000 long: their sum, where f r goes with the vector of r
-- and y · f r is at most B · M in size when y times the vector is at most B · 20,000 long
pub cost : ℕ → ℕ → ℕ
cost zero A = 0
cost (suc k) A = 2 * A + cost k (3 * A)

module _ (f : Row → List ℤ) (M : ℕ) (P : Row → Type 0)
    (size : (B : ℕ) (y : ℤ) (r : Row) → P r → N (y ⊙ r.vector) ≤ℤ pos (B * B * 400000000) → (j : ℕ) → nat_abs (y *ℤ nth (f r) j) ≤ B * M) where
  -- the last row's term and the terms of the rest
  module _ (b : List Row) (r : Row) (few : length b ≤ 3) (red : Reduced (vectors (b ++ (r ∷ [])))) (x : List ℤ) (y : ℤ) (e : length x ≡ length b) (A : ℕ)
      (h : N (comb (x ++ (y ∷ [])) (vectors (b ++ (r ∷ [])))) ≤ℤ pos (A * A * 400000000)) where
    count : length x ≡ length (vectors b)
    count = e ∙ sym (length-vectors b)

    descending : Descending (r.vector ∷ reverse (vectors b))
    descending = subst Descending (ap reverse (vectors-append b (r ∷ [])) ∙ reverse-append (vectors b) (r.vector ∷ [])) red

    bound : N (comb (x ++ (y ∷ [])) (vectors b ++ (r.vector ∷ []))) ≤ℤ pos (A * A * 400000000)
    bound = subst (λ l. N (comb (x ++ (y ∷ [])) l) ≤ℤ pos (A * A * 400000000)) (vectors-append b (r ∷ [])) h

    last-long : N (y ⊙ r.vector) ≤ℤ pos (2 * A * (2 * A) * 400000000)
    unfolding whole
    last-long = ≤ℤ_trans (part-last (vectors b) r.vector descending.0 (omega (arith, length-vectors b)) x y count)
        (subst (λ n. (pos 4 *ℤ N (comb (x ++ (y ∷ [])) (vectors b ++ (r.vector ∷ [])))) ≤ℤ n) (ap pos four-times) (*ℤ_mono (nn-pos 4) bound))
      where
        four-times : 4 * (A * A * 400000000) ≡ 2 * A * (2 * A) * 400000000
        four-times = omega arith

    rest-long : N (comb x (vectors b)) ≤ℤ pos (3 * A * (3 * A) * 400000000)
    unfolding whole
    rest-long = ≤ℤ_trans (part-rest (vectors b) r.vector descending.0 (omega (arith, length-vectors b)) x y count)
        (subst (λ n. (pos 9 *ℤ N (comb (x ++ (y ∷ [])) (vectors b ++ (r.vector ∷ [])))) ≤ℤ n) (ap pos nine_times) (*ℤ_mono (nn-pos 9) bound))
      where
        nine_times : 9 * (A * A * 400000000) ≡ 3 * A * (3 * A) * 400000000
        nine_times = omega arith

    terms : P r → (k : ℕ) → (j : ℕ) → load x (map f b) j ≤ cost k (3 * A) * M → load (x ++ (y ∷ [])) (map f (b ++ (r ∷ []))) j ≤ cost (suc k) A * M
    unfolding cost
    terms p k j i = subst (λ n. n ≤ (2 * A + cost k (3 * A)) * M)
        (sym (ap (λ t. load (x ++ (y ∷ [])) t j) (map-append f b (r ∷ [])) ∙ load_snoc x (map f b) y (f r) (e ∙ sym (length-map b f)) j))
        (omega (arith, size (2 * A) y r p last-long j))

  abbrev pub Weighs : ℕ → ℕ → List Row → Type 0
  Weighs k A front = All P front → Reduced (vectors front) → (x : List ℤ) → length x ≡ length front
      → N (comb x (vectors front)) ≤ℤ pos (A * A * 400000000) → (j : ℕ) → load x (map f front) j ≤ cost k A * M

  weighs-last : (k A : ℕ) (b : List Row) (r : Row) → length b ≡ k → k ≤ 3 → Weighs k (3 * A) b → Weighs (suc k) A (b ++ (r ∷ []))
  weighs-last k A b r e s ih z red x g h j =
      let o = ended (length b) x (g ∙ length-append b (r ∷ []) ∙ omega arith) in
      let h' = subst (λ l. N (comb l (vectors (b ++ (r ∷ [])))) ≤ℤ pos (A * A * 400000000)) o.is h in
      subst (λ l. load l (map f (b ++ (r ∷ []))) j ≤ cost (suc k) A * M) (sym o.is)
      (terms b r (omega arith) red o.start o.end o.count A h' (all_right P b (r ∷ []) z).0 k j
      (ih (all_left P b (r ∷ []) z) (descending b r (omega arith) red o.start o.end o.count A h').1 o.start o.count
      (rest-long b r (omega arith) red o.start o.end o.count A h') j))

  weighs-none : (A : ℕ) → Weighs 0 A []
  unfolding load
  weighs-none A z red [] g h j = omega arith
  weighs-none A z red (y ∷ x) g h j = absurd (omega arith)

  pub weighs : (k A : ℕ) (front : List Row) → length front ≡ k → k ≤ 4 → Weighs k A front
  weighs zero A [] e s = weighs-none A
  weighs zero A (r ∷ front) e s = absurd (omega arith)
  weighs (suc k) A [] e s = absurd (omega arith)
  weighs (suc k) A (q ∷ front) e s = subst (Weighs (suc k) A) (before_last q front)
      (weighs-last k A (before q front) (last_of q front) (length_before q front ∙ omega arith) (omega arith)
      (weighs k (3 * A) (before q front) (length_before q front ∙ omega arith) (omega arith)))

-- a nearest vector is at most twice 20,000 long, and at most three vectors are below the last
pub cost-most : (k : ℕ) → k ≤ 3 → cost k 2 ≤ 52
unfolding cost
cost-most zero h = omega arith
cost-most (suc zero) h = omega arith
cost-most (suc (suc zero)) h = omega arith
cost-most (suc (suc (suc zero))) h = omega arith
cost-most (suc (suc (suc (suc k)))) h = absurd (omega arith)
