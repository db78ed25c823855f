-- Settled coefficients: a combination of a reduced list whose inner product with each vector of the list is at most M/2 times its squared length
-- has coefficients of at most 108·M. So numbers that no single step along a vector betters are near the exact solution.
use Rattle.std.specs.Prelude.{◌≡◌, refl, ℕ, zero, suc, ◌+◌, ◌-◌, ◌≤◌, ◌<◌, negsuc, neg_ℤ, ◌+ℤ◌, ◌-ℤ◌, ◌*ℤ◌, ◌≤ℤ◌, ◌<ℤ◌, length, get_or}
use Rattle.std.proofs.Common.{sym, ap₂, ◌∙◌, subst, subst₂, ⊎_elim, le_refl, arith}
use Rattle.std.proofs.Math.Path.{ap}
use mathlib.Core.List.{List, [], ◌∷◌, ◌++◌, reverse, reverse-cons}
use Rattle.std.proofs.Math.Decide.{dec_lt}
use Rattle.std.proofs.Math.IntN.{ℤ, pos, zero-*ℤ, +ℤ_one}
use Rattle.std.specs.Int.Signed.{lt_z_yes, le_z_yes}
use Rattle.std.proofs.lemmas.List.{length-reverse}
use Rattle.std.proofs.Math.ListN.{get_or-eq_default, get_or-append}
use Rattle.integers.specs.All.{All}
use Rattle.integers.specs.AllLaws.{all_imp, all_snoc}
use Rattle.integers.specs.Division.{up}
use Rattle.integers.specs.Identity.{by_ring, by-eq, reads}
use Rattle.integers.specs.Order.{≤ℤ-or-<ℤ, ≤ℤ_of_<ℤ, *ℤ_mono}
use Rattle.integers.specs.Certificate.{NN, ◌⊞◌, ◌⊠◌, nn-pos, nn-sq, nn_ring, nn_cancel, le, eq, by_nn, le_of_nn}
use Rattle.integers.specs.ListLaws.{nth-⊙, length-⊙}
use Rattle.lattices.specs.Vector.{Vec, N, nth, dot, comb, ◌⊕◌, ◌⊙◌}
use Rattle.lattices.specs.Laws.Vector.{N-nonneg, dot_comm, dot-nil, dot-⊕, dot-⊙, dot-⊕ʳ, dot-⊙ʳ, bilinear, comb-⊙, comb_cons, comb-reverse, ◌≈◌, ≈_sym, ≈_trans}
use Rattle.successive_minima.specs.Reduced.{Under, Top, Descending, Reduced}
use Rattle.successive_minima.specs.Laws.Rounding.{loss, loss-bound, dent_fourth, round-N}
use Rattle.successive_minima.specs.Laws.Pairs.{Pair, Paired, pairs}
use Rattle.solutions.specs.Laws.Projection.{Orthogonal, orthogonal-comb, Projection, project, *ℤ-pos}

-- |x| ≤ M
pub record Between (M x : ℤ) : Type 0 where
  pub low : NN (M +ℤ x)
  pub high : NN (M -ℤ x)

module _ {M x : ℤ} (h : Between M x) where
  pub between-neg : Between M (neg_ℤ x)
  between-neg = record { low = nn_ring (M ∷ x ∷ []) h.high (search reads) (search reads) tt; high = nn_ring (M ∷ x ∷ []) h.low (search reads) (search reads) tt }

  pub between-add : {K y : ℤ} → Between K y → Between (M +ℤ K) (x +ℤ y)
  between-add {K} {y} k = record {
    low = nn_ring (M ∷ x ∷ K ∷ y ∷ []) (h.low ⊞ k.low) (search reads) (search reads) tt;
    high = nn_ring (M ∷ x ∷ K ∷ y ∷ []) (h.high ⊞ k.high) (search reads) (search reads) tt;
  }

  pub between-mul : {K y : ℤ} → Between K y → Between (M *ℤ K) (x *ℤ y)
  between-mul {K} {y} k = record {
    low = nn_cancel {n = pos 2} (lt_z_yes tt) (nn_ring (M ∷ x ∷ K ∷ y ∷ []) (h.low ⊠ k.low ⊞ h.high ⊠ k.high) (search reads depth 20) (search reads depth 20) tt);
    high = nn_cancel {n = pos 2} (lt_z_yes tt) (nn_ring (M ∷ x ∷ K ∷ y ∷ []) (h.low ⊠ k.high ⊞ h.high ⊠ k.low) (search reads depth 20) (search reads depth 20) tt);
  }

  pub between-up : {K : ℤ} → M ≤ℤ K → Between K x
  between-up {K} u = record {
    low = nn_ring (M ∷ x ∷ K ∷ []) (h.low ⊞ le u) (search reads) (search reads depth 20) tt;
    high = nn_ring (M ∷ x ∷ K ∷ []) (h.high ⊞ le u) (search reads) (search reads depth 20) tt;
  }

pub between_self : {x : ℤ} → NN x → Between x x
between_self {x} h = record {
  low = h ⊞ h;
  high = nn_ring (x ∷ []) (nn-pos 0) (search reads) (search reads) tt;
}

pub between-≡ : {M K x y : ℤ} → M ≡ K → x ≡ y → Between M x → Between K y
between-≡ e f h = subst₂ Between e f h

-- a positive factor may be left out
pub between-cancel : {M x : ℤ} (n : ℤ) → pos 0 <ℤ n → Between (n *ℤ M) (n *ℤ x) → Between M x
between-cancel {M} {x} n p h = record {
  low = nn_cancel p (nn_ring (n ∷ M ∷ x ∷ []) h.low (search reads) (search reads) tt);
  high = nn_cancel p (nn_ring (n ∷ M ∷ x ∷ []) h.high (search reads) (search reads) tt);
}

-- ---- 4·<h, Σ w_j·c_j> ≤ k·B·M·s, where |2·w_j| ≤ B, |2·<h, c_j>| ≤ M·N(c_j) and N(c_j) ≤ s

-- the inner product of h with each vector, twice, is at most M times its squared length
abbrev pub Slight : ℤ → Vec → List Vec → Type 0
Slight M h = All (λ b. Between (M *ℤ N b) (pos 2 *ℤ dot h b))

pub between-zero : {M : ℤ} → NN M → Between M (pos 0)
between-zero {M} h = record { low = nn_ring (M ∷ []) h (search reads) (search reads) tt; high = nn_ring (M ∷ []) h (search reads) (search reads) tt }

module _ (h : Vec) {B M s : ℤ} (i : NN B) (j : NN M) (k : NN s) where
  nothing : (n : ℕ) → Between (pos n *ℤ (B *ℤ (M *ℤ s))) (pos 4 *ℤ dot h [])
  nothing n = subst (λ z. Between (pos n *ℤ (B *ℤ (M *ℤ s))) (pos 4 *ℤ z)) (sym (dot-nil h)) (between-zero (nn-pos n ⊠ (i ⊠ (j ⊠ k))))

  weighted : (w : List ℤ) (bs : List Vec) → ((i : ℕ) → Between B (pos 2 *ℤ nth w i)) → Slight M h bs → Under s bs
      → Between (pos (length bs) *ℤ (B *ℤ (M *ℤ s))) (pos 4 *ℤ dot h (comb w bs))
  unfolding comb
  weighted [] bs b g u = nothing (length bs)
  weighted (w ∷ ws) [] b g u = nothing 0
  weighted (w ∷ ws) (c ∷ bs) b g u = between-≡
      (one_more P (pos (length bs)) ∙ ap (λ n. n *ℤ P) (+ℤ_one (pos (length bs))))
      (by_ring (w ∷ dot h c ∷ dot h (comb ws bs) ∷ []) (search reads depth 20) (search reads depth 20) tt ∙ ap (λ z. pos 4 *ℤ z) (sym (dot-⊕ʳ (w ⊙ c) (comb ws bs) h ∙ ap (λ z. z +ℤ dot h (comb ws bs)) (dot-⊙ʳ w c h))))
      (between-add (between-up (between-mul (b 0) g.0) (*ℤ_mono i (*ℤ_mono j u.0))) (weighted ws bs (λ i. b (suc i)) g.1 u.1))
    where
      P : ℤ
      P = B *ℤ (M *ℤ s)

      one_more : (P n : ℤ) → P +ℤ n *ℤ P ≡ (n +ℤ pos 1) *ℤ P
      one_more P n = by_ring (P ∷ n ∷ []) (search reads depth 20) (search reads depth 20) tt

-- ---- no combination of the vectors below brings n·b near zero: 4·n²·N(b) ≤ 4·N(n·b + …) + k·n²·N(b) with k of them

-- a positive number is `up` of one
pub by-up : (P : ℤ → Type 0) → ((k : ℕ) → P (up k)) → (n : ℤ) → pos 0 <ℤ n → P n
unfolding up
by-up P f (pos zero) h = absurd h.lt
by-up P f (pos (suc k)) h = f k
by-up P f (negsuc k) h = absurd h.lt

thick : {b : Vec} {bs : List Vec} → Top b bs → (w : List ℤ) (n : ℤ) → pos 0 <ℤ n → (pos 4 *ℤ (n *ℤ n *ℤ N b)) ≤ℤ (pos 4 *ℤ N (n ⊙ b ⊕ comb w bs) +ℤ pos (length bs) *ℤ (n *ℤ n *ℤ N b))
thick {b} {bs} t w = by-up (λ n. (pos 4 *ℤ (n *ℤ n *ℤ N b)) ≤ℤ (pos 4 *ℤ N (n ⊙ b ⊕ comb w bs) +ℤ pos (length bs) *ℤ (n *ℤ n *ℤ N b)))
    (λ k. by_nn (up k ∷ N b ∷ N (up k ⊙ b ⊕ comb w bs) ∷ loss k w bs ∷ pos (length bs) ∷ [])
    (nn-pos 4 ⊠ le (round-N k (N b) w bs b t.shortest) ⊞ le (loss-bound (pos 4) k (length bs) (dent_fourth k) (nn-sq (up k)) (N-nonneg b) w bs t.longest (le_refl (length bs))))
    (search reads depth 20) (search reads depth 20) tt)

-- ---- one vector more: the bound for its coefficient

-- n·e = x·v, q·n²·b ≤ 4·v and |4·e| ≤ r·M·n·b give |q·x| ≤ r·M
module _ (q r n b v M : ℤ) (n_pos : pos 0 <ℤ n) (b-pos : pos 0 <ℤ b) (r-nn : NN r) (q-nn : NN q) (M-nn : NN M) (thick : (q *ℤ (n *ℤ n *ℤ b)) ≤ℤ (pos 4 *ℤ v)) where
  upper : (x e : ℤ) → NN x → n *ℤ e ≡ x *ℤ v → (pos 4 *ℤ e) ≤ℤ (r *ℤ (M *ℤ (n *ℤ b))) → Between (r *ℤ M) (q *ℤ x)
  upper x e h f g = record {
    low = r-nn ⊠ M-nn ⊞ q-nn ⊠ h;
    high = nn_cancel (*ℤ-pos (*ℤ-pos n_pos n_pos) b-pos)
        (nn_ring (q ∷ r ∷ n ∷ b ∷ v ∷ M ∷ x ∷ e ∷ []) (≤ℤ_of_<ℤ n_pos ⊠ le g ⊞ h ⊠ le thick ⊞ eq (pos 4) f)
        (search reads depth 20 fits 5000) (search reads depth 20 fits 5000) tt);
  }

  top-bound : (x e : ℤ) → n *ℤ e ≡ x *ℤ v → Between (r *ℤ (M *ℤ (n *ℤ b))) (pos 4 *ℤ e) → Between (r *ℤ M) (q *ℤ x)
  top-bound x e f g = ⊎_elim
      (λ (h : pos 0 ≤ℤ x). upper x e h f (le_of_nn (pos 4 *ℤ e) (r *ℤ (M *ℤ (n *ℤ b))) g.high))
      (λ (h : x <ℤ pos 0). between-≡ refl (back q x) (between-neg (upper (neg_ℤ x) (neg_ℤ e)
      (nn_ring (x ∷ []) (le (≤ℤ_of_<ℤ h)) (search reads) (search reads) tt)
      (by-eq (n ∷ e ∷ x ∷ v ∷ []) (negsuc 0) f (search reads depth 20) (search reads depth 20) tt)
      (by_nn (r ∷ M ∷ n ∷ b ∷ e ∷ []) g.low (search reads depth 20) (search reads depth 20) tt))))
      (≤ℤ-or-<ℤ (pos 0) x)
    where
      back : (q x : ℤ) → neg_ℤ (q *ℤ neg_ℤ x) ≡ q *ℤ x
      back q x = by_ring (q ∷ x ∷ []) (search reads) (search reads) tt

-- ---- the table of bounds, twice the size: 0, 1, 2, 8, 216

abbrev pub bound : ℕ → ℕ
bound zero = 0
bound (suc zero) = 1
bound (suc (suc zero)) = 2
bound (suc (suc (suc zero))) = 8
bound (suc (suc (suc (suc k)))) = 216

abbrev part : ℕ → ℤ
part k = pos 4 -ℤ pos k

abbrev gross : ℕ → ℤ
gross k = pos 2 +ℤ pos k *ℤ pos (bound k)

-- what the induction needs of the table
record Fine (k : ℕ) : Type 0 where
  part-pos : pos 0 <ℤ part k
  gross_nn : NN (gross k)
  first : (pos 2 *ℤ gross k) ≤ℤ (part k *ℤ pos (bound (suc k)))
  others : (pos (bound k) *ℤ (part k +ℤ gross k)) ≤ℤ (part k *ℤ pos (bound (suc k)))

fine : (k : ℕ) → k ≤ 3 → Fine k
fine zero l = record { part-pos = lt_z_yes tt; gross_nn = le_z_yes tt; first = le_z_yes tt; others = le_z_yes tt }
fine (suc zero) l = record { part-pos = lt_z_yes tt; gross_nn = le_z_yes tt; first = le_z_yes tt; others = le_z_yes tt }
fine (suc (suc zero)) l = record { part-pos = lt_z_yes tt; gross_nn = le_z_yes tt; first = le_z_yes tt; others = le_z_yes tt }
fine (suc (suc (suc zero))) l = record { part-pos = lt_z_yes tt; gross_nn = le_z_yes tt; first = le_z_yes tt; others = le_z_yes tt }
fine (suc (suc (suc (suc k)))) l = absurd (omega arith)

-- ---- the induction

-- |2·<b, c>| ≤ N(c)
pair-between : {b c : Vec} → Pair b c → Between (N c) (pos 2 *ℤ dot b c)
pair-between {b} {c} p = record {
  low = nn_ring (N c ∷ dot b c ∷ []) (p.right (pos 1) refl) (search reads depth 20) (search reads depth 20) tt;
  high = nn_ring (N c ∷ dot b c ∷ []) (p.right (negsuc 0) refl) (search reads depth 20) (search reads depth 20) tt;
}

-- <a·h + k·b, c> where |2·<h, c>| ≤ M·N(c), |k| ≤ K
slight-sum : (h b : Vec) (M : ℤ) {v : Vec} {K : ℤ} (a k : ℤ) → NN a → Between K k → v ≈ a ⊙ h ⊕ k ⊙ b → (bs : List Vec) → Slight M h bs → Paired b bs → Slight (a *ℤ M +ℤ K) v bs
slight-sum h b M a k n i e [] g p = tt
slight-sum h b M {K = K} a k n i e (c ∷ bs) g p = (
  between-≡ (bounds a M K (N c)) (products (dot h c) (dot b c) ∙ ap (λ z. pos 2 *ℤ z) (sym (e.on c ∙ split))) (between-add (between-mul (between_self n) g.0) (between-mul i (pair-between p.0))),
  slight-sum h b M a k n i e bs g.1 p.1,
)
  where
    split : dot (a ⊙ h ⊕ k ⊙ b) c ≡ a *ℤ dot h c +ℤ k *ℤ dot b c
    split = simp bilinear

    bounds : (a M K n : ℤ) → a *ℤ (M *ℤ n) +ℤ K *ℤ n ≡ (a *ℤ M +ℤ K) *ℤ n
    bounds a M K n = by_ring (a ∷ M ∷ K ∷ n ∷ []) (search reads depth 20) (search reads depth 20) tt

    products : (x y : ℤ) → a *ℤ (pos 2 *ℤ x) +ℤ k *ℤ (pos 2 *ℤ y) ≡ pos 2 *ℤ (a *ℤ x +ℤ k *ℤ y)
    products x y = by_ring (a ∷ k ∷ x ∷ y ∷ []) (search reads depth 20) (search reads depth 20) tt

-- the combination that the projection of b takes away
slight_projection : {b : Vec} {bs : List Vec} (p : Projection bs b) (cs : List Vec) → Orthogonal (p.factor ⊙ b ⊕ comb p.coefficients bs) cs → Paired b cs → Slight p.factor (comb p.coefficients bs) cs
slight_projection p [] o q = tt
slight_projection {b} {bs} p (c ∷ cs) o q =
    (between-≡ refl turn (between-neg (between-mul (between_self (≤ℤ_of_<ℤ p.positive)) (pair-between q.0))), slight_projection p cs o.1 q.1)
  where
    y : ℤ
    y = dot (comb p.coefficients bs) c

    turn : neg_ℤ (p.factor *ℤ (pos 2 *ℤ dot b c)) ≡ pos 2 *ℤ y
    turn = by-eq (p.factor ∷ dot b c ∷ y ∷ []) (negsuc 1)
        (sym (dot-⊕ (p.factor ⊙ b) (comb p.coefficients bs) c ∙ ap (λ z. z +ℤ y) (dot-⊙ p.factor b c)) ∙ o.0) (search reads depth 20) (search reads depth 20) tt

-- every combination of bs that is slight has small coefficients
abbrev pub Settles : List Vec → Type 0
Settles bs = (M : ℤ) → NN M → (z : List ℤ) → length z ≡ length bs → Slight M (comb z bs) bs → (j : ℕ) → Between (pos (bound (length bs)) *ℤ M) (pos 2 *ℤ nth z j)

settle-more : (b : Vec) (bs : List Vec) → Top b bs → Paired b bs → length bs ≤ 3 → Settles bs → (M : ℤ) → NN M → (x : ℤ) (xs : List ℤ) → length xs ≡ length bs → Slight M (comb (x ∷ xs) (b ∷ bs)) (b ∷ bs)
    → (j : ℕ) → Between (pos (bound (suc (length bs))) *ℤ M) (pos 2 *ℤ nth (x ∷ xs) j)
settle-more b bs t q l settles M m x xs c g = both
  where
    k : ℕ
    k = length bs

    p : Projection bs b
    p = project bs b

    n : ℤ
    n = p.factor

    w : List ℤ
    w = p.coefficients

    v : Vec
    v = n ⊙ b ⊕ comb w bs

    h : Vec
    h = comb (x ∷ xs) (b ∷ bs)

    n_nn : NN n
    n_nn = ≤ℤ_of_<ℤ p.positive

    f : Fine k
    f = fine k l

    small : (i : ℕ) → Between (pos (bound k) *ℤ n) (pos 2 *ℤ nth w i)
    small = settles n n_nn w p.count (slight_projection p bs p.orthogonal q)

    open_h : (u : Vec) → dot h u ≡ x *ℤ dot b u +ℤ dot (comb xs bs) u
    open_h u = (comb_cons x xs b bs).on u ∙ dot-⊕ (x ⊙ b) (comb xs bs) u ∙ ap (λ z. z +ℤ dot (comb xs bs) u) (dot-⊙ x b u)

    open_v : (u : Vec) → dot u v ≡ n *ℤ dot u b +ℤ dot u (comb w bs)
    open_v u = dot-⊕ʳ (n ⊙ b) (comb w bs) u ∙ ap (λ z. z +ℤ dot u (comb w bs)) (dot-⊙ʳ n b u)

    cross : n *ℤ dot h v ≡ x *ℤ N v
    cross = ap (λ z. n *ℤ z) (open_h v ∙ ap (λ z. x *ℤ dot b v +ℤ z) (dot_comm (comb xs bs) v ∙ orthogonal-comb v xs bs p.orthogonal))
        ∙ swap n x (dot b v)
        ∙ ap (λ z. x *ℤ z) (sym (open_v v ∙ ap₂ (λ y z. n *ℤ y +ℤ z) (dot_comm v b) (orthogonal-comb v w bs p.orthogonal)))
      where
        swap : (n x y : ℤ) → n *ℤ (x *ℤ y +ℤ pos 0) ≡ x *ℤ (n *ℤ y +ℤ pos 0)
        swap n x y = by_ring (n ∷ x ∷ y ∷ []) (search reads depth 20) (search reads depth 20) tt

    whole : Between (gross k *ℤ (M *ℤ (n *ℤ N b))) (pos 4 *ℤ dot h v)
    whole = between-≡ (bounds (pos k) (pos (bound k)) n M (N b)) (products n (dot h b) (dot h (comb w bs)) ∙ ap (λ z. pos 4 *ℤ z) (sym (open_v h)))
        (between-add (between-mul (between_self (nn-pos 2 ⊠ n_nn)) g.0) (weighted h (nn-pos (bound k) ⊠ n_nn) m (N-nonneg b) w bs small g.1 t.longest))
      where
        bounds : (k c n M b : ℤ) → pos 2 *ℤ n *ℤ (M *ℤ b) +ℤ k *ℤ (c *ℤ n *ℤ (M *ℤ b)) ≡ (pos 2 +ℤ k *ℤ c) *ℤ (M *ℤ (n *ℤ b))
        bounds k c n M b = by_ring (k ∷ c ∷ n ∷ M ∷ b ∷ []) (search reads depth 20) (search reads depth 20) tt

        products : (n y z : ℤ) → pos 2 *ℤ n *ℤ (pos 2 *ℤ y) +ℤ pos 4 *ℤ z ≡ pos 4 *ℤ (n *ℤ y +ℤ z)
        products n y z = by_ring (n ∷ y ∷ z ∷ []) (search reads depth 20) (search reads depth 20) tt

    lean : (part k *ℤ (n *ℤ n *ℤ N b)) ≤ℤ (pos 4 *ℤ N v)
    lean = over (pos k) (n *ℤ n *ℤ N b) (N v) (thick t w n p.positive)
      where
        over : (k y v : ℤ) → (pos 4 *ℤ y) ≤ℤ (pos 4 *ℤ v +ℤ k *ℤ y) → ((pos 4 -ℤ k) *ℤ y) ≤ℤ (pos 4 *ℤ v)
        over k y v h = by_nn (k ∷ y ∷ v ∷ []) (le h) (search reads depth 20) (search reads depth 20) tt

    top : Between (gross k *ℤ M) (part k *ℤ x)
    top = top-bound (part k) (gross k) n (N b) (N v) M p.positive t.positive f.gross_nn (≤ℤ_of_<ℤ f.part-pos) m lean x (dot h v) cross whole

    -- what is below b, `part` times
    below : comb (part k ⊙ xs) bs ≈ part k ⊙ h ⊕ neg_ℤ (part k *ℤ x) ⊙ b
    below = ≈_trans (comb-⊙ (part k) xs bs) (record {
      on = λ u. dot-⊙ (part k) (comb xs bs) u ∙ less (part k) x (dot b u) (dot (comb xs bs) u)
          ∙ sym (dot-⊕ (part k ⊙ h) (neg_ℤ (part k *ℤ x) ⊙ b) u ∙ ap₂ ◌+ℤ◌ (dot-⊙ (part k) h u ∙ ap (λ z. part k *ℤ z) (open_h u)) (dot-⊙ (neg_ℤ (part k *ℤ x)) b u));
    })
      where
        less : (a x y z : ℤ) → a *ℤ z ≡ a *ℤ (x *ℤ y +ℤ z) +ℤ neg_ℤ (a *ℤ x) *ℤ y
        less a x y z = by_ring (a ∷ x ∷ y ∷ z ∷ []) (search reads depth 20) (search reads depth 20) tt

    rest : (i : ℕ) → Between (pos (bound k) *ℤ (part k *ℤ M +ℤ gross k *ℤ M)) (pos 2 *ℤ nth (part k ⊙ xs) i)
    rest = settles (part k *ℤ M +ℤ gross k *ℤ M) (≤ℤ_of_<ℤ f.part-pos ⊠ m ⊞ f.gross_nn ⊠ m) (part k ⊙ xs) (length-⊙ (part k) xs ∙ c)
        (slight-sum h b M (part k) (neg_ℤ (part k *ℤ x)) (≤ℤ_of_<ℤ f.part-pos) (between-neg top) below bs g.1 q)

    finish : (a b c M x : ℤ) → pos 0 <ℤ a → NN M → b ≤ℤ (a *ℤ c) → Between (b *ℤ M) (a *ℤ x) → Between (c *ℤ M) x
    finish a b c M x p m u h = between-cancel a p (between-up h (by_nn (a ∷ b ∷ c ∷ M ∷ []) (le u ⊠ m) (search reads depth 20) (search reads depth 20) tt))

    both : (j : ℕ) → Between (pos (bound (suc k)) *ℤ M) (pos 2 *ℤ nth (x ∷ xs) j)
    both zero = finish (part k) (pos 2 *ℤ gross k) (pos (bound (suc k))) M (pos 2 *ℤ x) f.part-pos m f.first
        (between-≡ (one (gross k) M) (two (part k) x) (between-mul (between_self (nn-pos 2)) top))
      where
        one : (r M : ℤ) → pos 2 *ℤ (r *ℤ M) ≡ pos 2 *ℤ r *ℤ M
        one r M = by_ring (r ∷ M ∷ []) (search reads depth 20) (search reads depth 20) tt

        two : (a x : ℤ) → pos 2 *ℤ (a *ℤ x) ≡ a *ℤ (pos 2 *ℤ x)
        two a x = by_ring (a ∷ x ∷ []) (search reads depth 20) (search reads depth 20) tt
    both (suc i) = finish (part k) (pos (bound k) *ℤ (part k +ℤ gross k)) (pos (bound (suc k))) M (pos 2 *ℤ nth xs i) f.part-pos m f.others
        (between-≡ (one (pos (bound k)) (part k) (gross k) M) (ap (λ z. pos 2 *ℤ z) (nth-⊙ (part k) xs i) ∙ two (part k) (nth xs i)) (rest i))
      where
        one : (c a r M : ℤ) → c *ℤ (a *ℤ M +ℤ r *ℤ M) ≡ c *ℤ (a +ℤ r) *ℤ M
        one c a r M = by_ring (c ∷ a ∷ r ∷ M ∷ []) (search reads depth 20) (search reads depth 20) tt

        two : (a x : ℤ) → pos 2 *ℤ (a *ℤ x) ≡ a *ℤ (pos 2 *ℤ x)
        two a x = by_ring (a ∷ x ∷ []) (search reads depth 20) (search reads depth 20) tt

pub settled : (bs : List Vec) → Descending bs → length bs ≤ 4 → Settles bs
settled [] d l M m [] c g j = between-≡ (sym (zero-*ℤ M)) refl (between-zero (nn-pos 0))
settled [] d l M m (x ∷ xs) c g j = absurd (omega arith)
settled (b ∷ bs) d l M m [] c g j = absurd (omega arith)
settled (b ∷ bs) d l M m (x ∷ xs) c g j = settle-more b bs d.0 (pairs (b ∷ bs) d).0 (omega arith) (settled bs d.1 (omega arith)) M m x xs (omega arith) g j

-- ---- the list with the shortest vector first

get_d_last : {A : Type 0} (l : List A) (a d : A) → get_or (l ++ (a ∷ [])) (length l) d ≡ a
get_d_last [] a d = refl
get_d_last (x ∷ l) a d = get_d_last l a d

get_d_reverse : {A : Type 0} (l : List A) (d : A) (i k : ℕ) → suc (i + k) ≡ length l → get_or (reverse l) k d ≡ get_or l i d
get_d_reverse [] d i k e = absurd (omega arith)
get_d_reverse (x ∷ l) d zero k e =
    ap (λ r. get_or r k d) (reverse-cons x l) ∙ ap (λ n. get_or (reverse l ++ (x ∷ [])) n d) (omega (arith, length-reverse l)) ∙ get_d_last (reverse l) x d
get_d_reverse (x ∷ l) d (suc i) k e =
    ap (λ r. get_or r k d) (reverse-cons x l) ∙ get_or-append (reverse l) (x ∷ []) d k (omega (arith, length-reverse l)) ∙ get_d_reverse l d i k (omega arith)

all-reverse : {A : Type 0} (P : A → Type 0) (l : List A) → All P l → All P (reverse l)
all-reverse P [] h = tt
all-reverse P (a ∷ l) h = subst (All P) (sym (reverse-cons a l)) (all_snoc P (reverse l) a (all-reverse P l h.1) h.0)

slight-≈ : (M : ℤ) {u v : Vec} → u ≈ v → (bs : List Vec) → Slight M u bs → Slight M v bs
slight-≈ M e bs g = all_imp (λ b h. subst (λ z. Between (M *ℤ N b) (pos 2 *ℤ z)) (e.on b) h) bs g

pub settled-reduced : (bs : List Vec) → Reduced bs → length bs ≤ 4 → Settles bs
settled-reduced bs d l M m z c g j = by (dec_lt j (length bs))
  where
    turned : (k : ℕ) → Between (pos (bound (length bs)) *ℤ M) (pos 2 *ℤ nth (reverse z) k)
    turned k = subst (λ n. Between (pos (bound n) *ℤ M) (pos 2 *ℤ nth (reverse z) k)) (length-reverse bs)
        (settled (reverse bs) d (omega (arith, length-reverse bs)) M m (reverse z) (length-reverse z ∙ c ∙ sym (length-reverse bs))
        (slight-≈ M (≈_sym (comb-reverse z bs c)) (reverse bs) (all-reverse (λ b. Between (M *ℤ N b) (pos 2 *ℤ dot (comb z bs) b)) bs g)) k)

    by : Dec (j < length bs) → Between (pos (bound (length bs)) *ℤ M) (pos 2 *ℤ nth z j)
    by (yes h) = between-≡ refl (ap (λ y. pos 2 *ℤ y) (get_d_reverse z (pos 0) j (length bs - suc j) (omega arith))) (turned (length bs - suc j))
    by (no h) = subst (λ y. Between (pos (bound (length bs)) *ℤ M) (pos 2 *ℤ y)) (sym (get_or-eq_default z (pos 0) (omega arith))) (between-zero (nn-pos (bound (length bs)) ⊠ m))
