-- The volume of combinations is the determinant of their coefficients times the volume.
use Rattle.std.specs.Prelude.{◌≡◌, refl, ◌≢◌, Bool, true, false, List, [], ◌∷◌, map, suc, ℤ, pos, negsuc, neg_ℤ, ◌+ℤ◌, ◌*ℤ◌, length, replicate}
use Rattle.std.proofs.Common.{sym, ap, ap₂, ◌∙◌, arith}
use Rattle.std.proofs.Math.IntN.{zero-*ℤ, +ℤ_idr, +ℤ_idl}
use Rattle.integers.specs.Identity.{by_ring, reads}
use Rattle.integers.specs.Ring.{pos-one-*ℤ}
use Rattle.lattices.specs.Vector.{Vec, dot, comb, ◌⊕◌, ◌⊙◌}
use Rattle.lattices.specs.Laws.Vector.{◌≈◌, ≈_refl, ≈-nth, bilinear, nil-dot}
use Rattle.lattices.specs.Volume.{Index, Form, head, rest, unit, wedge, volume}
use Rattle.exterior_algebra.specs.Forms.{half, Lin, wedge-lin, wedge-step, wedge-nil, wedge-zero, multiple_of, wedge-multiple}
use Rattle.exterior_algebra.specs.Exterior.{anti, square}
use Rattle.exterior_algebra.specs.Minors.{marks, marks-≤, volume_off}
use Rattle.greedy_reduction.specs.Kept.{wedge-nth}

-- the exterior product of forms that agree
pub wedge-same : (a : Vec) (f g : Form) → ((s : Index) → g s ≡ f s) → (s : Index) → wedge a g s ≡ wedge a f s
wedge-same a f g e s = (wedge-multiple a (multiple_of (pos 1) f (λ t. e t ∙ sym (pos-one-*ℤ (f t))))).multiple s ∙ pos-one-*ℤ (wedge a f s)

-- ---- the form that ω on the coefficients makes of the vectors

push : List Vec → Form → Form
push [] ω s = ω [] *ℤ unit s
push (b ∷ bs) ω s = push bs (half false ω) s +ℤ wedge b (push bs (half true ω)) s

lin-half : (c : Bool) {j k : ℤ} {f g h : Form} → Lin j f k g h → Lin j (half c f) k (half c g) (half c h)
lin-half c p = record { lin = λ s. p.lin (c ∷ s) }

push-lin : (bs : List Vec) {j k : ℤ} {f g h : Form} → Lin j f k g h → Lin j (push bs f) k (push bs g) (push bs h)
unfolding push
push-lin [] {j} {k} {f} {g} p = record {
  lin = λ s. ap (λ z. z *ℤ unit s) (p.lin []) ∙ by_ring (j ∷ k ∷ f [] ∷ g [] ∷ unit s ∷ []) (search reads depth 20) (search reads depth 20) tt;
}
push-lin (b ∷ bs) {j} {k} {f} {g} {h} p = record {
  lin = λ s. ap₂ ◌+ℤ◌ ((push-lin bs (lin-half false p)).lin s) ((wedge-lin b (push-lin bs (lin-half true p))).lin s)
      ∙ by_ring (j ∷ k ∷ push bs (half false f) s ∷ push bs (half false g) s ∷ wedge b (push bs (half true f)) s ∷ wedge b (push bs (half true g)) s ∷ []) (search reads depth 20) (search reads depth 20) tt;
}

push-zero : (bs : List Vec) (ω : Form) → ((t : Index) → length t ≡ length bs → ω t ≡ pos 0) → (s : Index) → push bs ω s ≡ pos 0
unfolding push
push-zero [] ω p s = ap (λ z. z *ℤ unit s) (p [] refl) ∙ zero-*ℤ (unit s)
push-zero (b ∷ bs) ω p s = ap₂ ◌+ℤ◌ (push-zero bs (half false ω) (λ t e. p (false ∷ t) (ap suc e)) s)
    (wedge-zero b (push bs (half true ω)) (push-zero bs (half true ω) (λ t e. p (true ∷ t) (ap suc e))) s)

-- ---- a combination times such a form: its coefficients are multiplied

open_comb : (x : List ℤ) (b : Vec) (bs : List Vec) → comb x (b ∷ bs) ≈ head x ⊙ b ⊕ comb (rest x) bs
unfolding comb
open_comb [] b bs = record { on = λ k. simp (bilinear, nil-dot) (by_ring (dot b k ∷ []) (search reads) (search reads) tt) }
open_comb (x ∷ xs) b bs = ≈_refl

wedge-none : (x : List ℤ) (ω : Form) (s : Index) → wedge (comb x []) ω s ≡ pos 0
unfolding comb
wedge-none [] ω s = wedge-nil ω s
wedge-none (x ∷ xs) ω s = wedge-nil ω s

wedge-push : (bs : List Vec) (x : List ℤ) (ω : Form) (s : Index) → wedge (comb x bs) (push bs ω) s ≡ push bs (wedge x ω) s
unfolding push
wedge-push [] x ω s = wedge-none x (push [] ω) s ∙ sym (zero-*ℤ (unit s))
wedge-push (b ∷ bs) x ω s =
    wedge-nth (comb x (b ∷ bs)) (k ⊙ b ⊕ v) (≈-nth (open_comb x b bs)) F s
    ∙ (wedge-step k b v F).lin s
    ∙ ap₂ (λ y z. k *ℤ y +ℤ pos 1 *ℤ z) ((wedge-lin b sum).lin s) ((wedge-lin v sum).lin s)
    ∙ ap₂ (λ y z. k *ℤ (pos 1 *ℤ wedge b f s +ℤ pos 1 *ℤ y) +ℤ pos 1 *ℤ (pos 1 *ℤ wedge v f s +ℤ pos 1 *ℤ z)) (square b g s) (anti v b g s)
    ∙ ap₂ (λ y z. k *ℤ (pos 1 *ℤ wedge b f s +ℤ pos 1 *ℤ pos 0) +ℤ pos 1 *ℤ (pos 1 *ℤ y +ℤ pos 1 *ℤ neg_ℤ z)) (wedge-push bs (rest x) (half false ω) s)
    (wedge-same b (push bs (wedge (rest x) (half true ω))) (wedge v g) (wedge-push bs (rest x) (half true ω)) s)
    ∙ by_ring (k ∷ wedge b f s ∷ p ∷ q ∷ []) (search reads depth 20) (search reads depth 20) tt
    ∙ ap (λ z. p +ℤ z) (sym ((wedge-lin b (push-lin bs less)).lin s))
  where
    k : ℤ
    k = head x

    v : Vec
    v = comb (rest x) bs

    f : Form
    f = push bs (half false ω)

    g : Form
    g = push bs (half true ω)

    F : Form
    F s = f s +ℤ wedge b g s

    p : ℤ
    p = push bs (wedge (rest x) (half false ω)) s

    q : ℤ
    q = wedge b (push bs (wedge (rest x) (half true ω))) s

    sum : Lin (pos 1) f (pos 1) (wedge b g) F
    sum = record { lin = λ t. by_ring (f t ∷ wedge b g t ∷ []) (search reads) (search reads) tt }

    less : Lin k (half false ω) (negsuc 0) (wedge (rest x) (half true ω)) (half true (wedge x ω))
    less = record { lin = λ t. by_ring (k ∷ ω (false ∷ t) ∷ wedge (rest x) (half true ω) t ∷ []) (search reads depth 20) (search reads depth 20) tt }

push-unit : (bs : List Vec) (s : Index) → push bs unit s ≡ unit s
unfolding push
push-unit [] s = by_ring (unit s ∷ []) (search reads) (search reads) tt
push-unit (b ∷ bs) s = ap₂ ◌+ℤ◌ (push-unit bs s) (wedge-zero b (push bs (half true unit)) (push-zero bs (half true unit) (λ t e. refl)) s) ∙ +ℤ_idr (unit s)

volume-push : (bs : List Vec) (X : List (List ℤ)) (s : Index) → volume (map (λ x. comb x bs) X) s ≡ push bs (volume X) s
volume-push bs [] s = sym (push-unit bs s)
volume-push bs (x ∷ X) s = wedge-same (comb x bs) (push bs (volume X)) (volume (map (λ x. comb x bs) X)) (volume-push bs X) s ∙ wedge-push bs x (volume X) s

-- ---- of as many combinations as vectors only the determinant is left

push-top : (bs : List Vec) (ω : Form) → ((t : Index) → marks t ≢ length bs → ω t ≡ pos 0) → (s : Index) → push bs ω s ≡ ω (replicate (length bs) true) *ℤ volume bs s
unfolding push
push-top [] ω p s = refl
push-top (b ∷ bs) ω p s =
    ap₂ ◌+ℤ◌ (push-zero bs (half false ω) (λ t e. p (false ∷ t) (λ f. absurd (omega (arith, marks-≤ t)))) s)
    ((wedge-multiple b (multiple_of (ω (replicate (suc (length bs)) true)) (volume bs) (push-top bs (half true ω) (λ t f. p (true ∷ t) (λ e. f (omega arith)))))).multiple s)
    ∙ +ℤ_idl (ω (replicate (suc (length bs)) true) *ℤ wedge b (volume bs) s)

-- at every choice of coordinates: the minor of the combinations is that of the vectors times the determinant of the coefficients
pub volume-comb : (bs : List Vec) (X : List (List ℤ)) → length X ≡ length bs → (s : Index) → volume (map (λ x. comb x bs) X) s ≡ volume X (replicate (length bs) true) *ℤ volume bs s
volume-comb bs X e s = volume-push bs X s ∙ push-top bs (volume X) (λ t f. volume_off X t (λ g. f (g ∙ e))) s
