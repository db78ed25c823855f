-- Laws of the inner product and of combinations, for vectors of any length. Two vectors are compared by their inner products with
-- every vector (`◌≈◌`): then sums need no word on lengths, and every vector equation is one of integers.
use Rattle.std.specs.Prelude.{◌≡◌, refl, ℕ, zero, suc, ℤ, pos, negsuc, ◌+ℤ◌, ◌-ℤ◌, ◌*ℤ◌, ◌≤ℤ◌, length}
use Rattle.std.proofs.Common.{sym, ap, ap₂, ◌∙◌, arith}
use mathlib.Core.List.{List, [], ◌∷◌, ◌++◌, reverse, reverse-cons}
use Rattle.std.proofs.Math.IntN.{zero-*ℤ, *ℤ-zero, *ℤ_comm, +ℤ_comm, +ℤ_idl, +ℤ_idr}
use Rattle.std.specs.Int.Signed.{≤ℤ_refl}
use Rattle.std.proofs.lemmas.List.{length-reverse}
use Rattle.integers.specs.Ring.{*ℤ-pos-one, +ℤ-left_comm}
use Rattle.integers.specs.Identity.{by_ring, reads}
use Rattle.integers.specs.Order.{≤ℤ_trans, ≤ℤ_antisymm, ≤ℤ_of_≡, zero_of_square}
use Rattle.integers.specs.Certificate.{nn-sq, ◌⊞◌, le, by_nn}
use Rattle.integers.specs.ListLaws.{same}
use Rattle.lattices.specs.Vector.{Vec, N, Zero, nth, dot, ◌⊕◌, ◌⊙◌, ◌⊖◌, comb}

-- ---- the inner product is symmetric and linear in each vector
pub dot-nil : (u : Vec) → dot u [] ≡ pos 0
unfolding dot
dot-nil [] = refl
dot-nil (x ∷ u) = refl

pub nil-dot : (u : Vec) → dot [] u ≡ pos 0
unfolding dot
nil-dot u = refl

pub dot_comm : (u v : Vec) → dot u v ≡ dot v u
unfolding dot
dot_comm [] v = sym (dot-nil v)
dot_comm (x ∷ u) [] = refl
dot_comm (x ∷ u) (y ∷ v) = ap₂ ◌+ℤ◌ (*ℤ_comm x y) (dot_comm u v)

pub dot-⊕ : (u v w : Vec) → dot (u ⊕ v) w ≡ dot u w +ℤ dot v w
unfolding dot ◌⊕◌
dot-⊕ [] v w = sym (+ℤ_idl (dot v w))
dot-⊕ (x ∷ u) [] w = sym (+ℤ_idr (dot (x ∷ u) w))
dot-⊕ (x ∷ u) (y ∷ v) [] = refl
dot-⊕ (x ∷ u) (y ∷ v) (z ∷ w) = ap (λ s. (x +ℤ y) *ℤ z +ℤ s) (dot-⊕ u v w) ∙ regroup x y z (dot u w) (dot v w)
  where
    regroup : (x y z a b : ℤ) → (x +ℤ y) *ℤ z +ℤ (a +ℤ b) ≡ (x *ℤ z +ℤ a) +ℤ (y *ℤ z +ℤ b)
    regroup x y z a b = by_ring (x ∷ y ∷ z ∷ a ∷ b ∷ []) (search reads) (search reads) tt

pub dot-⊙ : (k : ℤ) (u w : Vec) → dot (k ⊙ u) w ≡ k *ℤ dot u w
unfolding dot ◌⊙◌
dot-⊙ k [] w = sym (*ℤ-zero k)
dot-⊙ k (x ∷ u) [] = sym (*ℤ-zero k)
dot-⊙ k (x ∷ u) (z ∷ w) = ap (λ s. k *ℤ x *ℤ z +ℤ s) (dot-⊙ k u w) ∙ regroup k x z (dot u w)
  where
    regroup : (k x z a : ℤ) → k *ℤ x *ℤ z +ℤ k *ℤ a ≡ k *ℤ (x *ℤ z +ℤ a)
    regroup k x z a = by_ring (k ∷ x ∷ z ∷ a ∷ []) (search reads) (search reads) tt

pub dot-⊕ʳ : (u v w : Vec) → dot w (u ⊕ v) ≡ dot w u +ℤ dot w v
dot-⊕ʳ u v w = dot_comm w (u ⊕ v) ∙ dot-⊕ u v w ∙ ap₂ ◌+ℤ◌ (dot_comm u w) (dot_comm v w)

pub dot-⊙ʳ : (k : ℤ) (u w : Vec) → dot w (k ⊙ u) ≡ k *ℤ dot w u
dot-⊙ʳ k u w = dot_comm w (k ⊙ u) ∙ dot-⊙ k u w ∙ ap (λ s. k *ℤ s) (dot_comm u w)

pub ruleset bilinear = (dot-⊕, dot-⊙, dot-⊕ʳ, dot-⊙ʳ)

-- the squared length of a difference
pub N-⊖ : (u v : Vec) → N (u ⊖ v) ≡ N u -ℤ pos 2 *ℤ dot u v +ℤ N v
N-⊖ u v = simp (bilinear, dot_comm v u) (by_ring (N u ∷ N v ∷ dot u v ∷ []) (search reads depth 20) (search reads depth 20) tt)

pub N-nonneg : (u : Vec) → pos 0 ≤ℤ N u
unfolding dot
N-nonneg [] = ≤ℤ_refl (pos 0)
N-nonneg (x ∷ u) = nn-sq x ⊞ N-nonneg u

-- the square of an entry is at most the squared length
pub square-≤ : (v : Vec) (j : ℕ) → (nth v j *ℤ nth v j) ≤ℤ N v
unfolding dot
square-≤ [] j = ≤ℤ_refl (pos 0)
square-≤ (x ∷ v) zero = by_nn ((x *ℤ x) ∷ N v ∷ []) (N-nonneg v) (search reads) (search reads) tt
square-≤ (x ∷ v) (suc j) = ≤ℤ_trans (square-≤ v j) (by_nn ((x *ℤ x) ∷ N v ∷ []) (nn-sq x) (search reads) (search reads) tt)

-- ---- vectors compared by their inner products
infix 4 ◌≈◌
pub record ◌≈◌ (u v : Vec) : Type 0 where
  pub on : (w : Vec) → dot u w ≡ dot v w

pub ≈_refl : {u : Vec} → u ≈ u
≈_refl = record { on = λ w. refl }

pub ≈_of_≡ : {u v : Vec} → u ≡ v → u ≈ v
≈_of_≡ e = record { on = λ w. ap (λ u. dot u w) e }

pub ≈_sym : {u v : Vec} → u ≈ v → v ≈ u
≈_sym e = record { on = λ w. sym (e.on w) }

pub ≈_trans : {u v w : Vec} → u ≈ v → v ≈ w → u ≈ w
≈_trans e f = record { on = λ w. e.on w ∙ f.on w }

pub ≈-⊕ : {u v x y : Vec} → u ≈ v → x ≈ y → (u ⊕ x) ≈ (v ⊕ y)
≈-⊕ {u} {v} {x} {y} e f = record { on = λ w. dot-⊕ u x w ∙ ap₂ ◌+ℤ◌ (e.on w) (f.on w) ∙ sym (dot-⊕ v y w) }

pub ≈-⊙ : (k : ℤ) {u v : Vec} → u ≈ v → (k ⊙ u) ≈ (k ⊙ v)
≈-⊙ k {u} {v} e = record { on = λ w. dot-⊙ k u w ∙ ap (λ s. k *ℤ s) (e.on w) ∙ sym (dot-⊙ k v w) }

pub ⊕-left_comm : (u v x : Vec) → u ⊕ (v ⊕ x) ≈ v ⊕ (u ⊕ x)
⊕-left_comm u v x = record { on = λ w. simp dot-⊕ (+ℤ-left_comm (dot u w) (dot v w) (dot x w)) }

pub ≈-dot : {u v x y : Vec} → u ≈ v → x ≈ y → dot u x ≡ dot v y
≈-dot {u} {v} {x} {y} e f = e.on x ∙ dot_comm v x ∙ f.on v ∙ dot_comm y v

pub ≈-N : {u v : Vec} → u ≈ v → N u ≡ N v
≈-N e = ≈-dot e e

-- entry i is the inner product with the i-th unit vector
pub unit : ℕ → Vec
unit zero = pos 1 ∷ []
unit (suc i) = pos 0 ∷ unit i

pub nth-dot : (u : Vec) (i : ℕ) → nth u i ≡ dot u (unit i)
unfolding dot unit
nth-dot [] i = refl
nth-dot (x ∷ u) zero = sym (ap₂ ◌+ℤ◌ (*ℤ-pos-one x) (dot-nil u) ∙ +ℤ_idr x)
nth-dot (x ∷ u) (suc i) = nth-dot u i ∙ sym (ap (λ s. s +ℤ dot u (unit i)) (*ℤ-zero x) ∙ +ℤ_idl (dot u (unit i)))

pub ≈-nth : {u v : Vec} → u ≈ v → (i : ℕ) → nth u i ≡ nth v i
≈-nth {u} {v} e i = nth-dot u i ∙ e.on (unit i) ∙ sym (nth-dot v i)

pub zero-dot : (v : Vec) → Zero v → (w : Vec) → dot v w ≡ pos 0
unfolding dot
zero-dot [] e w = refl
zero-dot (x ∷ v) e [] = refl
zero-dot (x ∷ v) e (z ∷ w) = ap₂ (λ a b. a *ℤ z +ℤ b) (e 0) (zero-dot v (λ i. e (suc i)) w) ∙ +ℤ_idr (pos 0 *ℤ z) ∙ zero-*ℤ z

pub nth-≈ : (u v : Vec) → ((i : ℕ) → nth u i ≡ nth v i) → u ≈ v
unfolding dot
nth-≈ u v e = record { on = λ w. go u v e w }
  where
    go : (u v : Vec) → ((i : ℕ) → nth u i ≡ nth v i) → (w : Vec) → dot u w ≡ dot v w
    go [] v e w = nil-dot w ∙ sym (zero-dot v (λ i. sym (e i)) w)
    go (x ∷ u) [] e w = zero-dot (x ∷ u) e w ∙ sym (nil-dot w)
    go (x ∷ u) (y ∷ v) e [] = dot-nil (x ∷ u) ∙ sym (dot-nil (y ∷ v))
    go (x ∷ u) (y ∷ v) e (z ∷ w) = ap₂ (λ a b. a *ℤ z +ℤ b) (e 0) (go u v (λ i. e (suc i)) w)

sum-zero : {a b : ℤ} → pos 0 ≤ℤ a → pos 0 ≤ℤ b → a +ℤ b ≡ pos 0 → a ≡ pos 0
sum-zero {a} {b} h k e = ≤ℤ_antisymm (by_nn (a ∷ b ∷ []) (k ⊞ le (≤ℤ_of_≡ e)) (search reads) (search reads) tt) h

-- a vector is zero exactly when its squared length is, and then it is ≈ []
pub Zero-≈ : (v : Vec) → Zero v → v ≈ []
Zero-≈ v e = record { on = λ w. zero-dot v e w ∙ sym (nil-dot w) }

pub ≈-Zero : {v : Vec} → v ≈ [] → Zero v
≈-Zero e i = ≈-nth e i

pub N-zero : (v : Vec) → Zero v → N v ≡ pos 0
N-zero v e = zero-dot v e v

pub definite : (v : Vec) → N v ≡ pos 0 → Zero v
unfolding dot
definite [] e i = refl
definite (x ∷ v) e zero = zero_of_square x (≤ℤ_of_≡ (sum-zero (nn-sq x) (N-nonneg v) e))
definite (x ∷ v) e (suc i) = definite v (sum-zero (N-nonneg v) (nn-sq x) (+ℤ_comm (N v) (x *ℤ x) ∙ e)) i

-- equal lists from ≈
pub ≈-≡ : (u v : Vec) → length u ≡ length v → u ≈ v → u ≡ v
≈-≡ u v l e = same l (≈-nth e)

-- ---- combinations
-- the inner products of all vectors of a list with one
abbrev pub against : List Vec → Vec → List ℤ
against [] w = []
against (b ∷ bs) w = dot b w ∷ against bs w

pub comb-dot : (x : List ℤ) (bs : List Vec) (w : Vec) → dot (comb x bs) w ≡ dot x (against bs w)
unfolding comb dot
comb-dot [] bs w = refl
comb-dot (x ∷ xs) [] w = refl
comb-dot (x ∷ xs) (b ∷ bs) w = dot-⊕ (x ⊙ b) (comb xs bs) w ∙ ap₂ ◌+ℤ◌ (dot-⊙ x b w) (comb-dot xs bs w)

pub comb-⊕ : (x y : List ℤ) (bs : List Vec) → comb (x ⊕ y) bs ≈ comb x bs ⊕ comb y bs
comb-⊕ x y bs = record { on = λ w. simp (comb-dot, dot-⊕) }

pub comb-⊙ : (k : ℤ) (x : List ℤ) (bs : List Vec) → comb (k ⊙ x) bs ≈ k ⊙ comb x bs
comb-⊙ k x bs = record { on = λ w. simp (comb-dot, dot-⊙) }

pub comb_cons : (x : ℤ) (xs : List ℤ) (b : Vec) (bs : List Vec) → comb (x ∷ xs) (b ∷ bs) ≈ x ⊙ b ⊕ comb xs bs
unfolding comb
comb_cons x xs b bs = ≈_refl

pub comb-≈ : {x y : List ℤ} (bs : List Vec) → x ≈ y → comb x bs ≈ comb y bs
comb-≈ {x} {y} bs e = record { on = λ w. comb-dot x bs w ∙ e.on (against bs w) ∙ sym (comb-dot y bs w) }

pub comb-nil : (bs : List Vec) → comb [] bs ≈ []
unfolding comb
comb-nil bs = ≈_refl

pub comb-none : (x : List ℤ) → comb x [] ≈ []
unfolding comb
comb-none [] = ≈_refl
comb-none (x ∷ xs) = ≈_refl

pub comb-zero : (x : List ℤ) → Zero x → (bs : List Vec) → comb x bs ≈ []
unfolding comb
comb-zero x e bs = comb-≈ {x = x} bs (Zero-≈ x e)

pub ⊖-zero : (t : Vec) {v : Vec} → v ≈ [] → t ⊖ v ≈ t
⊖-zero t {v} e = record { on = λ w. dot-⊕ t (negsuc 0 ⊙ v) w ∙ ap (λ s. dot t w +ℤ s) (dot-⊙ (negsuc 0) v w ∙ ap (λ s. negsuc 0 *ℤ s) (e.on w ∙ nil-dot w)) ∙ +ℤ_idr (dot t w) }

-- ---- combinations from the last vector on, and in reverse
pub comb_snoc : (x : List ℤ) (bs : List Vec) (j : ℤ) (b : Vec) → length x ≡ length bs → comb (x ++ (j ∷ [])) (bs ++ (b ∷ [])) ≈ j ⊙ b ⊕ comb x bs
unfolding comb
comb_snoc [] [] j b e = ≈_refl
comb_snoc [] (c ∷ bs) j b e = absurd (omega arith)
comb_snoc (x ∷ xs) [] j b e = absurd (omega arith)
comb_snoc (x ∷ xs) (c ∷ bs) j b e = ≈_trans (≈-⊕ ≈_refl (comb_snoc xs bs j b (omega arith))) (⊕-left_comm (x ⊙ c) (j ⊙ b) (comb xs bs))

pub comb-reverse : (x : List ℤ) (bs : List Vec) → length x ≡ length bs → comb (reverse x) (reverse bs) ≈ comb x bs
comb-reverse [] [] e = ≈_refl
comb-reverse [] (c ∷ bs) e = absurd (omega arith)
comb-reverse (x ∷ xs) [] e = absurd (omega arith)
comb-reverse (x ∷ xs) (c ∷ bs) e =
    rw (reverse-cons x xs, reverse-cons c bs)
    (≈_trans (comb_snoc (reverse xs) (reverse bs) x c (length-reverse xs ∙ omega arith ∙ sym (length-reverse bs)))
    (≈_trans (≈-⊕ ≈_refl (comb-reverse xs bs (omega arith))) (≈_sym (comb_cons x xs c bs))))
