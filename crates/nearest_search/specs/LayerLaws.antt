-- A layer of the last of four vectors, in numbers: the search finds its best list, and the value of that list tells whether the layer has a
-- nearer vector. Layers that are too far from the residual have none.
use Rattle.std.specs.Prelude.{◌≡◌, Bool, false, ℕ, ◌≤◌, ◌<◌, ℤ, negsuc, neg_ℤ, nat_abs, ◌+ℤ◌, ◌-ℤ◌, ◌*ℤ◌, length, get_or, take, ◌≤ℤ◌, ◌<ℤ◌}
use Rattle.std.proofs.Common.{sym, ap, ap₂, ◌∙◌, subst, inl, ⊎_elim, arith, length-take, length-append, take_all, take-suc}
use mathlib.Core.List.{List, [], ◌∷◌, ◌++◌}
use Rattle.std.proofs.Math.Decide.{dec_lt}
use Rattle.std.proofs.Math.IntN.{pos}
use Rattle.std.proofs.Math.ListN.{get_or-eq_default}
use Rattle.std.specs.Int.Signed.{lt_z_yes, le_z_yes}
use Rattle.integers.specs.Identity.{by_ring, reads}
use Rattle.integers.specs.Order.{≤ℤ_trans, ≤ℤ_of_≡, ≤ℤ-or-<ℤ, *ℤ-cancel-≤}
use Rattle.integers.specs.Certificate.{NN, ◌⊞◌, ◌⊠◌, le, lt, eq, nn-pos, nn_cancel, nn_ring, nn-false, le_of_nn, by_nn}
use Rattle.integers.specs.Size.{Within, within-mul, within-upper, within_of_bounds}
use Rattle.integers.specs.Lex.{Nonneg}
use Rattle.lattices.specs.Vector.{Vec, N, nth, dot, comb, ◌⊕◌, ◌⊙◌, ◌⊖◌}
use Rattle.lattices.specs.Laws.Vector.{◌≈◌, ≈_refl, ≈_sym, ≈_trans, ≈_of_≡, ≈-N, ≈-⊕, ≈-⊙, ≈-dot, bilinear, dot_comm, N-nonneg, comb_snoc, comb_cons}
use Rattle.lattices.specs.Nearest.{nearest}
use Rattle.exterior_algebra.specs.Sizes.{near_le}
use Rattle.row_operations.specs.Minus.{nth-minus}
use Rattle.successive_minima.specs.Reduced.{Top, Reduced}
use Rattle.successive_minima.specs.Laws.Values.{gain, change}
use Rattle.successive_minima.specs.Laws.ValueLaws.{gain-≈, gain-is, least-is}
use Rattle.successive_minima.specs.Laws.ReducedLaws.{pinned, reduced-last}
use Rattle.successive_minima.specs.Laws.NearestLaws.{nearest-least, nearest-count, nearest-shorter}
use Rattle.successive_minima.specs.Laws.Digits.{Bounded, power, not-below-nonneg}
use Rattle.successive_minima.specs.Laws.Layers.{Layer, layer-by_search}
use Rattle.nearest_steps.specs.Meant.{Meant, Known}
use Rattle.nearest_steps.specs.Numbers.{moved, gain_of, improves_of}
use Rattle.nearest_steps.specs.Link.{products-≈, products-moved, gain-of, improves-is}
use Rattle.nearest_steps.specs.Coefficients.{coefficient_square, coefficient_within}
use Rattle.nearest_steps.specs.State.{comb-front, diagonal, closer-moved, meant-moved}
use Rattle.nearest_steps.specs.Moves.{Moved}
use Rattle.nearest_steps.specs.End.{gain-shifted}
use Rattle.nearest_search.specs.MeantNear.{MeantNear, KnownNear}

-- ---- a step from the residual

module _ {F : ℤ} {d : ℕ} {vs : List Vec} {t : Vec} {g : List (List ℤ)} {r : List ℤ} (m : MeantNear F d vs t g r) where
  pub near-moved : {c : ℕ} {x r' x' : List ℤ} {b : Bool} (p : Moved c d g r x r' x' b) → MeantNear F d vs (t ⊖ comb p.step vs) g r'
  near-moved p = record { meant = meant-moved m.meant p; close = ≤ℤ_trans (closer-moved m.meant p) m.close }

  -- the squared length changes by the gain
  pub square-moved : (e : List ℤ) (n : ℤ) → F *ℤ n ≡ N t → F *ℤ (n +ℤ gain_of g r e) ≡ N (t ⊖ comb e vs)
  square-moved e n q = split n (gain_of g r e) ∙ ap₂ ◌+ℤ◌ q (gain-of F vs g m.meant.gram t r m.meant.products e) ∙ sym (gain-is t (comb e vs))
    where
      split : (a b : ℤ) → F *ℤ (a +ℤ b) ≡ F *ℤ a +ℤ F *ℤ b
      split a b = by_ring (F ∷ a ∷ b ∷ []) (search reads) (search reads) tt

  -- and stays within the limit
  pub square-within : (n : ℤ) → F *ℤ n ≡ N t → Within 400000000 n
  square-within n q = within_of_bounds (≤ℤ_trans (le_z_yes tt) (low n (N t) q (N-nonneg t))) (high n (N t) q m.close)
    where
      low : (n a : ℤ) → F *ℤ n ≡ a → NN a → pos 0 ≤ℤ n
      low n a e h = *ℤ-cancel-≤ m.meant.positive (by_nn (F ∷ n ∷ a ∷ []) (h ⊞ eq (pos 1) e) (search reads depth 8) (search reads depth 8) tt)

      high : (n a : ℤ) → F *ℤ n ≡ a → a ≤ℤ (F *ℤ pos 400000000) → n ≤ℤ pos 400000000
      high n a e h = *ℤ-cancel-≤ m.meant.positive (by_nn (F ∷ n ∷ a ∷ []) (le h ⊞ eq (negsuc 0) e) (search reads depth 8) (search reads depth 8) tt)

pub near-known : {d c : ℕ} {n : ℤ} {g : List (List ℤ)} {r x r' x' : List ℤ} {b : Bool} → KnownNear d n g r → (p : Moved c d g r x r' x' b) → KnownNear d (n +ℤ gain_of g r p.step) g r'
near-known {n} w p = record { factor = w.factor; vectors = w.vectors; target = w.target ⊖ comb p.step w.vectors; near = near-moved w.near p; square = square-moved w.near p.step n w.square }

pub known : {d : ℕ} {n : ℤ} {g : List (List ℤ)} {r : List ℤ} → KnownNear d n g r → Known d g r
known w = record { factor = w.factor; vectors = w.vectors; target = w.target; meant = w.near.meant }

-- ---- what the search among the first k leaves

module _ {F : ℤ} {k : ℕ} {vs : List Vec} {t : Vec} {g : List (List ℤ)} {r : List ℤ} (few : k ≤ 4) (m : Meant F k vs t g r) where
  w : List ℤ
  w = nearest (take k vs) t

  count-front : length (take k vs) ≡ k
  count-front = omega (arith, length-take k vs, m.enough)

  pub nearest-long : length (nearest (take k vs) t) ≡ k
  nearest-long = nearest-count (take k vs) t ∙ count-front

  pub nearest-within : Bounded 30000000 (nearest (take k vs) t)
  unfolding w
  nearest-within j = pick (dec_lt j k)
    where
      near : N (comb (take k w) (take k vs)) ≤ℤ (F *ℤ pos 14400000000)
      near = rw (take_all k w (omega (arith, nearest-long))) (law (N (comb w (take k vs))) (N t) (near_le t (comb w (take k vs)) (nearest-shorter (take k vs) t)) m.target)
        where
          law : (n s : ℤ) → n ≤ℤ (pos 4 *ℤ s) → s ≤ℤ (F *ℤ pos 3600000000) → n ≤ℤ (F *ℤ pos 14400000000)
          law n s h l = by_nn (F ∷ n ∷ s ∷ []) (le h ⊞ nn-pos 4 ⊠ le l) (search reads depth 8) (search reads depth 8) tt

      pick : Dec (j < k) → Within 30000000 (nth w j)
      pick (yes h) = coefficient_within F (nth (get_or g j []) j) (nth w j) k m.positive (diagonal m j h) few
          (subst (λ n. (nth w j *ℤ nth w j *ℤ n) ≤ℤ (pos 4 *ℤ power (pos 10) k *ℤ (F *ℤ pos 14400000000))) (sym ((m.gram.row j).at j))
          (coefficient_square k vs w (F *ℤ pos 14400000000) m.enough (omega (arith, nearest-long)) few m.reduced near j h))
      pick (no h) = subst (Within 30000000) (sym (get_or-eq_default w (pos 0) (omega (arith, nearest-long, h)))) (record { within = omega arith })

  -- the inner products of what the nearest vector leaves
  pub meant-left : {s : List ℤ} → s ≡ r ⊖ comb (nearest (take k vs) t) (take k g) → length s ≡ length r → Meant F k vs (t ⊖ comb (nearest (take k vs) t) (take k vs)) g s
  unfolding w
  meant-left {s} e l = record {
    positive = m.positive;
    enough = m.enough;
    reduced = m.reduced;
    short = m.short;
    target = ≤ℤ_trans (nearest-shorter (take k vs) t) m.target;
    gram = m.gram;
    products = products-≈ F vs (≈-⊕ (≈_refl {u = t}) (≈-⊙ (negsuc 0) (front vs))) (≈_trans (≈-⊕ (≈_refl {u = r}) (≈-⊙ (negsuc 0) (front g))) (≈_sym (≈_of_≡ e))) (products-moved F vs g m.gram t r m.products w);
    wide = λ i. omega (arith, m.wide i, l);
  }
    where
      front : (us : List Vec) → comb w us ≈ comb w (take k us)
      front us = ≈_trans (comb-front k w us (λ j h. get_or-eq_default w (pos 0) (omega (arith, nearest-long)))) (≈_of_≡ (ap (λ z. comb z (take k us)) (take_all k w (omega (arith, nearest-long)))))

-- ---- what a list changes, from the inner products before and after

pub gain-by-left : (g : List (List ℤ)) (r e : List ℤ) {s : List ℤ} → s ≈ moved g r e → gain_of g r e ≡ neg_ℤ (dot e r +ℤ dot e s)
unfolding gain_of
gain-by-left g r e {s} p = sym (ap (λ z. neg_ℤ (dot e r +ℤ z)) (≈-dot (≈_refl {u = e}) p) ∙ simp bilinear (by_ring (dot e r ∷ dot e (comb e g) ∷ []) (search reads depth 8) (search reads depth 8) tt))

-- a list of three and a number behind, taken one after the other
pub left_snoc : (g : List (List ℤ)) (r w : List ℤ) (j : ℤ) → length g ≡ 4 → length w ≡ 3 → {s s' : List ℤ} → s ≡ r ⊖ j ⊙ get_or g 3 [] → s' ≡ s ⊖ comb w (take 3 g) → s' ≈ moved g r (w ++ (j ∷ []))
left_snoc g r w j l k {s} {s'} p q = ≈_trans (≈_of_≡ (q ∙ ap (λ z. z ⊖ comb w (take 3 g)) p))
    (≈_trans (regroup (j ⊙ get_or g 3 []) (comb w (take 3 g))) (≈-⊕ (≈_refl {u = r}) (≈-⊙ (negsuc 0) (≈_sym whole))))
  where
    regroup : (u v : Vec) → (r ⊖ u) ⊖ v ≈ r ⊖ (u ⊕ v)
    regroup u v = record { on = λ z. simp bilinear (by_ring (dot r z ∷ dot u z ∷ dot v z ∷ []) (search reads depth 8) (search reads depth 8) tt) }

    long : length (w ++ (j ∷ [])) ≡ 4
    long = length-append w (j ∷ []) ∙ omega (arith, k)

    whole : comb (w ++ (j ∷ [])) g ≈ j ⊙ get_or g 3 [] ⊕ comb w (take 3 g)
    whole = ≈_trans (comb-front 4 (w ++ (j ∷ [])) g (λ i h. get_or-eq_default (w ++ (j ∷ [])) (pos 0) (omega (arith, long))))
        (≈_trans (≈_of_≡ (ap₂ comb (take_all 4 (w ++ (j ∷ [])) (omega (arith, long))) (take-suc g 3 [] (omega arith)))) (comb_snoc w (take 3 g) j (get_or g 3 []) (omega (arith, length-take 3 g))))

-- ---- layers of four vectors

-- the numbers mean four vectors and a target
pub record LayerKnown (g : List (List ℤ)) (r : List ℤ) : Type 0 where
  pub factor : ℤ
  pub vectors : List Vec
  pub target : Vec
  pub near : MeantNear factor 4 vectors target g r

-- whatever they mean, layer j has no nearer vector
abbrev pub LayerPassed : List (List ℤ) → List ℤ → ℤ → Type 0
LayerPassed g r j = (F : ℤ) (vs : List Vec) (t : Vec) → MeantNear F 4 vs t g r → Layer t (take 3 vs) (get_or vs 3 []) j

-- or has none because the target is as short as n says
abbrev pub Passed : ℤ → List (List ℤ) → List ℤ → ℤ → Type 0
Passed n g r j = (F : ℤ) (vs : List Vec) (t : Vec) → MeantNear F 4 vs t g r → F *ℤ n ≡ N t → Layer t (take 3 vs) (get_or vs 3 []) j

module _ {F : ℤ} {vs : List Vec} {t : Vec} {g : List (List ℤ)} {r : List ℤ} (m : MeantNear F 4 vs t g r) where
  pub four_is : take 4 vs ≡ take 3 vs ++ (get_or vs 3 [] ∷ [])
  four_is = take-suc vs 3 [] (omega (arith, m.meant.enough))

  pub last : Top (get_or vs 3 []) (take 3 vs) × Reduced (take 3 vs)
  last = reduced-last (take 3 vs) (get_or vs 3 []) (subst Reduced four_is m.meant.reduced)

  pub three : length (take 3 vs) ≡ 3
  three = omega (arith, length-take 3 vs, m.meant.enough)

  -- the numbers of layer j, for the search among the first three
  pub layer-meant : (j : ℤ) → nat_abs j ≤ 2 → {s : List ℤ} → s ≡ r ⊖ j ⊙ get_or g 3 [] → length s ≡ length r → Meant F 3 vs (t ⊖ j ⊙ get_or vs 3 []) g s
  layer-meant j l {s} e v = record {
    positive = m.meant.positive;
    enough = omega (arith, m.meant.enough);
    reduced = last.1;
    short = m.meant.short;
    target = far;
    gram = m.meant.gram;
    products = record {
      at = λ i. ap (λ z. F *ℤ nth z i) e ∙ ap (λ z. F *ℤ z) (nth-minus r j (get_or g 3 []) i) ∙ split (nth r i) (nth (get_or g 3 []) i)
          ∙ ap₂ (λ a c. a -ℤ j *ℤ c) (m.meant.products.at i) ((m.meant.gram.row 3).at i) ∙ sym (apart (get_or vs i []));
    };
    wide = λ i. omega (arith, m.meant.wide i, v);
  }
    where
      split : (a c : ℤ) → F *ℤ (a -ℤ j *ℤ c) ≡ F *ℤ a -ℤ j *ℤ (F *ℤ c)
      split a c = by_ring (F ∷ j ∷ a ∷ c ∷ []) (search reads depth 8) (search reads depth 8) tt

      apart : (u : Vec) → dot u (t ⊖ j ⊙ get_or vs 3 []) ≡ dot u t -ℤ j *ℤ dot u (get_or vs 3 [])
      apart u = simp bilinear (by_ring (dot u t ∷ j ∷ dot u (get_or vs 3 []) ∷ []) (search reads depth 8) (search reads depth 8) tt)

      -- 2·N(t − j·b) + N(2t + j·b) = 6·N(t) + 3·j²·N(b)
      sum : N (pos 2 ⊙ t ⊕ j ⊙ get_or vs 3 []) ≡ pos 6 *ℤ N t +ℤ pos 3 *ℤ (j *ℤ j) *ℤ N (get_or vs 3 []) -ℤ pos 2 *ℤ N (t ⊖ j ⊙ get_or vs 3 [])
      sum = simp (bilinear, dot_comm (get_or vs 3 []) t) (by_ring (N t ∷ N (get_or vs 3 []) ∷ dot t (get_or vs 3 []) ∷ j ∷ []) (search reads depth 20) (search reads depth 20) tt)

      squared : (j *ℤ j) ≤ℤ pos 4
      squared = within-upper (within-mul {A = 2} {B = 2} {a = j} {b = j} (record { within = l }) (record { within = l }))

      law : (a c s u q : ℤ) → s ≡ pos 6 *ℤ a +ℤ pos 3 *ℤ q *ℤ c -ℤ pos 2 *ℤ u → NN s → NN c → a ≤ℤ (F *ℤ pos 400000000) → c ≤ℤ (F *ℤ pos 400000000) → q ≤ℤ pos 4 → NN (pos 2 *ℤ (F *ℤ pos 3600000000 -ℤ u))
      law a c s u q e p h k i o = nn_ring (F ∷ a ∷ c ∷ s ∷ u ∷ q ∷ []) (p ⊞ eq (negsuc 0) e ⊞ nn-pos 6 ⊠ le k ⊞ nn-pos 12 ⊠ le i ⊞ nn-pos 3 ⊠ h ⊠ le o)
          (search reads depth 20) (search reads depth 20) tt

      far : N (t ⊖ j ⊙ get_or vs 3 []) ≤ℤ (F *ℤ pos 3600000000)
      far = le_of_nn (N (t ⊖ j ⊙ get_or vs 3 [])) (F *ℤ pos 3600000000) (nn_cancel {n = pos 2} (lt_z_yes tt)
          (law (N t) (N (get_or vs 3 [])) (N (pos 2 ⊙ t ⊕ j ⊙ get_or vs 3 [])) (N (t ⊖ j ⊙ get_or vs 3 [])) (j *ℤ j) sum (N-nonneg (pos 2 ⊙ t ⊕ j ⊙ get_or vs 3 [])) (N-nonneg (get_or vs 3 [])) m.close (m.meant.short 3) squared))

  -- a list of the layer in all vectors, and in the four
  same-comb : (z : List ℤ) (j : ℤ) → length z ≡ 3 → comb (z ++ (j ∷ [])) vs ≈ comb (z ++ (j ∷ [])) (take 3 vs ++ (get_or vs 3 [] ∷ []))
  same-comb z j l = ≈_trans (comb-front 4 (z ++ (j ∷ [])) vs (λ i h. get_or-eq_default (z ++ (j ∷ [])) (pos 0) (omega (arith, long))))
      (≈_of_≡ (ap₂ comb (take_all 4 (z ++ (j ∷ [])) (omega (arith, long))) four_is))
    where
      long : length (z ++ (j ∷ [])) ≡ 4
      long = length-append z (j ∷ []) ∙ omega (arith, l)

  -- where the best list of the layer does not improve, none of the layer does
  pub layer-none : (j : ℤ) → improves_of g r (nearest (take 3 vs) (t ⊖ j ⊙ get_or vs 3 []) ++ (j ∷ [])) ≡ false → Layer t (take 3 vs) (get_or vs 3 []) j
  layer-none j h = layer-by_search t (take 3 vs) (get_or vs 3 []) j w long
      (subst (λ n. Nonneg (n ∷ (w ++ (j ∷ [])))) (gain-≈ t (same-comb w j (long ∙ three)))
      (not-below-nonneg (change t vs (w ++ (j ∷ []))) (sym (improves-is F vs g m.meant.gram t r m.meant.products m.meant.positive (w ++ (j ∷ []))) ∙ h)))
      (λ e l. subst (λ n. Nonneg (n ∷ e)) (gain-shifted (comb e (take 3 vs)) residual) (least-is (take 3 vs) u w (nearest-least (take 3 vs) last.1 (omega (arith, three)) u) e l))
    where
      u : Vec
      u = t ⊖ j ⊙ get_or vs 3 []

      w : List ℤ
      w = nearest (take 3 vs) u

      long : length w ≡ length (take 3 vs)
      long = nearest-count (take 3 vs) u

      residual : u ⊖ comb w (take 3 vs) ≈ t ⊖ comb (w ++ (j ∷ [])) (take 3 vs ++ (get_or vs 3 [] ∷ []))
      residual = ≈_trans (regroup (j ⊙ get_or vs 3 []) (comb w (take 3 vs))) (≈-⊕ (≈_refl {u = t}) (≈-⊙ (negsuc 0) (≈_sym (comb_snoc w (take 3 vs) j (get_or vs 3 []) long))))
        where
          regroup : (a c : Vec) → (t ⊖ a) ⊖ c ≈ t ⊖ (a ⊕ c)
          regroup a c = record { on = λ z. simp bilinear (by_ring (dot t z ∷ dot a z ∷ dot c z ∷ []) (search reads depth 8) (search reads depth 8) tt) }

  -- nor does one of a layer that is too far away: j²·N(b) ≤ 4·N(y) ≤ 16·N(t) for a vector y of it that is nearer
  pub layer-far : (n j : ℤ) → F *ℤ n ≡ N t → (pos 16 *ℤ n) <ℤ (j *ℤ j *ℤ nth (get_or g 3 []) 3) → Layer t (take 3 vs) (get_or vs 3 []) j
  layer-far n j q h z l = ⊎_elim (λ (k : gain t y ≤ℤ pos 0). absurd (contradiction k)) (λ (k : pos 0 <ℤ gain t y). inl k) (≤ℤ-or-<ℤ (gain t y) (pos 0))
    where
      y : Vec
      y = comb (z ++ (j ∷ [])) (take 3 vs ++ (get_or vs 3 [] ∷ []))

      same : comb (j ∷ z) (get_or vs 3 [] ∷ take 3 vs) ≈ y
      same = ≈_trans (comb_cons j z (get_or vs 3 []) (take 3 vs)) (≈_sym (comb_snoc z (take 3 vs) j (get_or vs 3 []) l))

      high : (j *ℤ j *ℤ N (get_or vs 3 [])) ≤ℤ (pos 4 *ℤ N y)
      high = subst (λ q. (j *ℤ j *ℤ N (get_or vs 3 [])) ≤ℤ (pos 4 *ℤ q)) (≈-N same) (pinned last.0 (omega (arith, three)) j z)

      contradiction : gain t y ≤ℤ pos 0 → ⊥
      contradiction k = law F n (nth (get_or g 3 []) 3) (N t) (N (get_or vs 3 [])) (N y) m.meant.positive q ((m.meant.gram.row 3).at 3) high
          (near_le t y (≤ℤ_trans (≤ℤ_of_≡ (gain-is t y)) (down (N t) (gain t y) k))) h
        where
          down : (a d : ℤ) → d ≤ℤ pos 0 → (a +ℤ d) ≤ℤ a
          down a d k = by_nn (a ∷ d ∷ []) (le k) (search reads) (search reads) tt

          law : (F n q a c s : ℤ) → pos 0 <ℤ F → F *ℤ n ≡ a → F *ℤ q ≡ c → (j *ℤ j *ℤ c) ≤ℤ (pos 4 *ℤ s) → s ≤ℤ (pos 4 *ℤ a) → (pos 16 *ℤ n) <ℤ (j *ℤ j *ℤ q) → ⊥
          law F n q a c s f e o p i k = nn-false (F ∷ n ∷ q ∷ a ∷ c ∷ s ∷ j ∷ []) (le p ⊞ nn-pos 4 ⊠ le i ⊞ (lt f ⊞ nn-pos 1) ⊠ lt k ⊞ lt f ⊞ eq (neg_ℤ (j *ℤ j)) o ⊞ eq (pos 16) e) (search reads depth 20 fits 5000) tt
