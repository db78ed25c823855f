-- Lists with a last entry and reversed lists: inner products and squared lengths. Then lists as combinations of unit lists, and
-- lists cut or filled to a length.
use Rattle.std.specs.Prelude.{◌≡◌, refl, ℕ, zero, suc, ℤ, pos, ◌+ℤ◌, ◌*ℤ◌, length, drop}
use Rattle.std.proofs.Common.{sym, ap, ap₂, ◌∙◌, arith}
use mathlib.Core.List.{List, [], ◌∷◌, ◌++◌, reverse, reverse-cons}
use Rattle.std.proofs.Math.IntN.{zero-*ℤ, *ℤ-zero, +ℤ_comm, +ℤ_assoc}
use Rattle.lattices.specs.Answer.{padded}
use Rattle.lattices.specs.Laws.Answer.{length-padded}
use Rattle.integers.specs.Identity.{by_ring, reads}
use Rattle.lattices.specs.Vector.{Vec, N, nth, dot, comb, ◌⊕◌, ◌⊙◌}
use Rattle.lattices.specs.Laws.Vector.{dot_comm, dot-nil, nil-dot, bilinear, comb-dot, against, unit, nth-dot, ◌≈◌, ≈_sym, ≈_trans}

-- ---- a last entry
dot_snoc : (x : List ℤ) (j : ℤ) (w : Vec) → dot (x ++ (j ∷ [])) w ≡ dot x w +ℤ j *ℤ nth w (length x)
unfolding dot
dot_snoc [] j [] = by_ring (j ∷ []) (search reads) (search reads) tt
dot_snoc [] j (y ∷ w) = +ℤ_comm (j *ℤ y) (pos 0)
dot_snoc (x ∷ xs) j [] = by_ring (j ∷ []) (search reads) (search reads) tt
dot_snoc (x ∷ xs) j (y ∷ w) = ap (λ n. x *ℤ y +ℤ n) (dot_snoc xs j w) ∙ sym (+ℤ_assoc (x *ℤ y) (dot xs w) (j *ℤ nth w (length xs)))

-- it is a multiple of a unit list
pub snoc_≈ : (x : List ℤ) (j : ℤ) {m : ℕ} → length x ≡ m → x ++ (j ∷ []) ≈ j ⊙ unit m ⊕ x
snoc_≈ x j {m} e = record { on = λ w. dot_snoc x j w ∙ ap (λ n. dot x w +ℤ j *ℤ n) (ap (nth w) e ∙ nth-dot w m ∙ dot_comm w (unit m)) ∙ +ℤ_comm (dot x w) (j *ℤ dot (unit m) w) ∙ sym (simp bilinear) }

N_snoc : (x : List ℤ) (j : ℤ) → N (x ++ (j ∷ [])) ≡ N x +ℤ j *ℤ j
unfolding dot
N_snoc [] j = +ℤ_comm (j *ℤ j) (pos 0)
N_snoc (x ∷ xs) j = ap (λ n. x *ℤ x +ℤ n) (N_snoc xs j) ∙ sym (+ℤ_assoc (x *ℤ x) (N xs) (j *ℤ j))

-- ---- reversed lists
pub N-reverse : (x : List ℤ) → N (reverse x) ≡ N x
unfolding dot
N-reverse [] = refl
N-reverse (x ∷ xs) = ap (λ l. N l) (reverse-cons x xs) ∙ N_snoc (reverse xs) x ∙ ap (λ n. n +ℤ x *ℤ x) (N-reverse xs) ∙ +ℤ_comm (N xs) (x *ℤ x)

-- ---- a coefficient list as the combination of unit lists
-- unit i, unit (i + 1), …
unfoldable pub units_from : ℕ → ℕ → List Vec
units_from i zero = []
units_from i (suc m) = unit i ∷ units_from (suc i) m

length-units : (i m : ℕ) → length (units_from i m) ≡ m
unfolding units_from
length-units i zero = refl
length-units i (suc m) = ap suc (length-units (suc i) m)

dot-drop : (x : ℤ) (z : List ℤ) (i : ℕ) (w : Vec) → x *ℤ nth w i +ℤ dot z (drop (suc i) w) ≡ dot (x ∷ z) (drop i w)
unfolding dot
dot-drop x z zero [] = ap₂ ◌+ℤ◌ (*ℤ-zero x) (dot-nil z)
dot-drop x z zero (y ∷ w) = refl
dot-drop x z (suc i) [] = ap₂ ◌+ℤ◌ (*ℤ-zero x) (dot-nil z)
dot-drop x z (suc i) (y ∷ w) = dot-drop x z i w

dot-units : (z : List ℤ) (i m : ℕ) → length z ≡ m → (w : Vec) → dot z (against (units_from i m) w) ≡ dot z (drop i w)
unfolding units_from dot
dot-units [] i m e w = nil-dot (against (units_from i m) w) ∙ sym (nil-dot (drop i w))
dot-units (x ∷ z) i zero e w = absurd (omega arith)
dot-units (x ∷ z) i (suc m) e w =
    ap₂ (λ a b. x *ℤ a +ℤ b) (dot_comm (unit i) w ∙ sym (nth-dot w i)) (dot-units z (suc i) m (omega arith) w) ∙ dot-drop x z i w

pub comb-units : (z : List ℤ) (m : ℕ) → length z ≡ m → comb z (units_from 0 m) ≈ z
comb-units z m e = record { on = λ w. comb-dot z (units_from 0 m) w ∙ dot-units z 0 m e w }

-- ---- a list cut or filled with zeros to m entries
dot-fit : (m : ℕ) (z : List ℤ) (v : Vec) → length v ≡ m → dot (padded m z) v ≡ dot z v
unfolding dot
dot-fit m z [] e = dot-nil (padded m z) ∙ sym (dot-nil z)
dot-fit zero z (y ∷ v) e = absurd (omega arith)
dot-fit (suc m) [] (y ∷ v) e = ap₂ ◌+ℤ◌ (zero-*ℤ y) (dot-fit m [] v (omega arith))
dot-fit (suc m) (x ∷ z) (y ∷ v) e = ap (λ n. x *ℤ y +ℤ n) (dot-fit m z v (omega arith))

pub length-against : (bs : List Vec) (w : Vec) → length (against bs w) ≡ length bs
length-against [] w = refl
length-against (b ∷ bs) w = ap suc (length-against bs w)

-- it has the same combinations of m vectors
pub comb-fit : (m : ℕ) (z : List ℤ) (bs : List Vec) → length bs ≡ m → comb (padded m z) bs ≈ comb z bs
comb-fit m z bs e = record { on = λ w. comb-dot (padded m z) bs w ∙ dot-fit m z (against bs w) (length-against bs w ∙ e) ∙ sym (comb-dot z bs w) }

-- so the unit lists give it back
pub fit-units : (m : ℕ) (z : List ℤ) → padded m z ≈ comb z (units_from 0 m)
fit-units m z = ≈_trans (≈_sym (comb-units (padded m z) m (length-padded m z))) (comb-fit m z (units_from 0 m) (length-units 0 m))
