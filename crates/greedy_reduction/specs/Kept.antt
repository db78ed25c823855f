-- The squared volume is kept by every move, so a list that is independent stays so.
use Rattle.std.specs.Prelude.{◌≡◌, refl, true, false, List, [], ◌∷◌, ◌++◌, ℕ, suc, ℤ, pos, negsuc, ◌-ℤ◌, ◌*ℤ◌, ◌≤ℤ◌, ◌<ℤ◌, length}
use Rattle.std.proofs.Common.{sym, ap, ap₂, ◌∙◌, subst, ⊎_elim, append-nil, arith}
use Rattle.integers.specs.Identity.{by_ring, reads}
use Rattle.integers.specs.Order.{≤ℤ-or-<ℤ}
use Rattle.integers.specs.Certificate.{◌⊞◌, ◌⊠◌, le, lt, by-lt, nn-false}
use Rattle.lattices.specs.Vector.{Vec, N, nth, dot, ◌⊕◌, ◌⊙◌, ◌⊖◌, comb}
use Rattle.lattices.specs.Laws.Vector.{◌≈◌, ≈-nth, N-nonneg, bilinear, comb-⊙, comb_cons}
use Rattle.lattices.specs.Laws.Permutation.{Perm, same, skip, swap, then, perm_map, perm_last}
use Rattle.lattices.specs.Volume.{Index, Form, head, rest, wedge, volume, squared_volume}
use Rattle.lattices.specs.Greedy.{Row, vectors, less, credited}
use Rattle.exterior_algebra.specs.Forms.{inner-on, inner_comm}
use Rattle.exterior_algebra.specs.Exterior.{wedge-bound}
use Rattle.exterior_algebra.specs.Hadamard.{hadamard}
use Rattle.exterior_algebra.specs.Cramer.{step_keeps, perm_keeps}
use Rattle.greedy_reduction.specs.Moves.{Moves, none, after, exchange, subtract, vectors-credited, vectors-append, length-vectors}

-- ---- the exterior product looks at the entries of a vector only
head-nth : (u : Vec) → head u ≡ nth u 0
head-nth [] = refl
head-nth (x ∷ u) = refl

rest-nth : (u : Vec) (i : ℕ) → nth (rest u) i ≡ nth u (suc i)
rest-nth [] i = refl
rest-nth (x ∷ u) i = refl

pub wedge-nth : (u v : Vec) → ((i : ℕ) → nth u i ≡ nth v i) → (ω : Form) (s : Index) → wedge u ω s ≡ wedge v ω s
wedge-nth u v e ω [] = refl
wedge-nth u v e ω (false ∷ s) = wedge-nth (rest u) (rest v) (λ i. rest-nth u i ∙ e (suc i) ∙ sym (rest-nth v i)) (λ t. ω (false ∷ t)) s
wedge-nth u v e ω (true ∷ s) = ap₂ (λ a b. a *ℤ ω (false ∷ s) -ℤ b) (head-nth u ∙ e 0 ∙ sym (head-nth v))
    (wedge-nth (rest u) (rest v) (λ i. rest-nth u i ∙ e (suc i) ∙ sym (rest-nth v i)) (λ t. ω (true ∷ t)) s)

first-≈ : (m : ℕ) {u v : Vec} (bs : List Vec) → u ≈ v → squared_volume m (u ∷ bs) ≡ squared_volume m (v ∷ bs)
unfolding squared_volume
first-≈ m {u} {v} bs e =
    inner-on m (volume (u ∷ bs)) (volume (u ∷ bs)) (volume (v ∷ bs)) (λ s l. same_at s)
    ∙ inner_comm m (volume (u ∷ bs)) (volume (v ∷ bs))
    ∙ inner-on m (volume (v ∷ bs)) (volume (u ∷ bs)) (volume (v ∷ bs)) (λ s l. same_at s)
  where
    same_at : (s : Index) → wedge u (volume bs) s ≡ wedge v (volume bs) s
    same_at s = wedge-nth u v (≈-nth e) (volume bs) s

-- ---- a pass
-- a combination of the first vectors is one of all
comb-left : (x : List ℤ) (bs cs : List Vec) → length x ≡ length bs → comb x (bs ++ cs) ≡ comb x bs
unfolding comb
comb-left [] bs cs e = refl
comb-left (x ∷ xs) [] cs e = absurd (omega arith)
comb-left (x ∷ xs) (b ∷ bs) cs e = ap (λ v. x ⊙ b ⊕ v) (comb-left xs bs cs (omega arith))

perm_middle : {A : Type 0} (k : List A) (x : A) (l : List A) → Perm (k ++ (x ∷ l)) (x ∷ (k ++ l))
perm_middle [] x l = same (x ∷ l)
perm_middle (y ∷ k) x l = then (skip y (perm_middle k x l)) (swap y x (k ++ l))

pass-keeps : (m : ℕ) (x : List ℤ) (b : Vec) (bs cs : List Vec) → length x ≡ length bs
    → squared_volume m (b ∷ (bs ++ cs)) ≡ squared_volume m ((b ⊖ comb x bs) ∷ (bs ++ cs))
pass-keeps m x b bs cs e = sym (step_keeps m 0 (pos 1 ∷ (negsuc 0 ⊙ x)) (b ∷ (bs ++ cs)) (omega arith) refl) ∙ first-≈ m (bs ++ cs) (record { on = same-dot })
  where
    same-dot : (w : Vec) → dot (comb (pos 1 ∷ (negsuc 0 ⊙ x)) (b ∷ (bs ++ cs))) w ≡ dot (b ⊖ comb x bs) w
    same-dot w = (comb_cons (pos 1) (negsuc 0 ⊙ x) b (bs ++ cs)).on w
        ∙ simp (bilinear, (comb-⊙ (negsuc 0) x (bs ++ cs)).on w, comb-left x bs cs e) (by_ring (dot b w ∷ dot (comb x bs) w ∷ []) (search reads) (search reads) tt)

pub moves_keep : (m : ℕ) {a b : List Row} → Moves a b → squared_volume m (vectors a) ≡ squared_volume m (vectors b)
moves_keep m (none a) = refl
moves_keep m (after p q) = moves_keep m p ∙ moves_keep m q
moves_keep m (exchange p) = perm_keeps m (perm_map (λ r. r.vector) p)
moves_keep m (subtract x rows r rest e k) =
    let vs = vectors rows in
    ap (squared_volume m) (vectors-append rows (r ∷ rest))
    ∙ perm_keeps m (perm_middle vs r.vector (vectors rest))
    ∙ pass-keeps m x r.vector vs (vectors rest) (e ∙ sym (length-vectors rows))
    ∙ sym (perm_keeps m (perm_middle vs (less x rows r).vector (vectors rest)))
    ∙ ap (λ l. squared_volume m (l ++ ((less x rows r).vector ∷ vectors rest))) (sym (vectors-credited x r.v rows))
    ∙ ap (squared_volume m) (sym (vectors-append (credited x r.v rows) (less x rows r ∷ rest)))

-- ---- parts of a list with positive volume
pub positive-rest : (m : ℕ) (b : Vec) (bs : List Vec) → pos 0 <ℤ squared_volume m (b ∷ bs) → pos 0 <ℤ squared_volume m bs
unfolding squared_volume
positive-rest m b bs h = ⊎_elim
    (λ (k : squared_volume m bs ≤ℤ pos 0). nn-false (squared_volume m bs ∷ squared_volume m (b ∷ bs) ∷ N b ∷ [])
    (lt h ⊞ le (wedge-bound m b (volume bs)) ⊞ N-nonneg b ⊠ le k) (search reads depth 20) tt)
    (λ k. k)
    (≤ℤ-or-<ℤ (squared_volume m bs) (pos 0))

pub positive-before : (m : ℕ) (bs : List Vec) (b : Vec) → pos 0 <ℤ squared_volume m (bs ++ (b ∷ [])) → pos 0 <ℤ squared_volume m bs
positive-before m bs b h = positive-rest m b bs (subst (λ s. pos 0 <ℤ s) (perm_keeps m (perm_last bs b)) h)

pub positive-one : (m : ℕ) (b : Vec) → pos 0 <ℤ squared_volume m (b ∷ []) → pos 0 <ℤ N b
positive-one m b h = by-lt (N b ∷ squared_volume m (b ∷ []) ∷ []) (lt h ⊞ le (hadamard m (b ∷ []))) (search reads depth 20) (search reads depth 20) tt

pub positive-left : (m : ℕ) (bs cs : List Vec) → pos 0 <ℤ squared_volume m (bs ++ cs) → pos 0 <ℤ squared_volume m bs
positive-left m bs [] h = subst (λ l. pos 0 <ℤ squared_volume m l) (append-nil bs) h
positive-left m bs (c ∷ cs) h = positive-left m bs cs (positive-rest m c (bs ++ cs) (subst (λ s. pos 0 <ℤ s) (perm_keeps m (perm_middle bs c cs)) h))
