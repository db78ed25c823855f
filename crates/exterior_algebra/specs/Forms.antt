-- The linear maps on forms: the exterior product with a vector, the contraction by a vector, the inner product with a form.
-- Every law is an equation of integers at one index, by induction on the index; one statement serves sums, multiples and congruence.
use Rattle.std.specs.Prelude.{◌≡◌, refl, Bool, true, false, [], ◌∷◌, ℕ, zero, suc, ℤ, pos, neg_ℤ, ◌+ℤ◌, ◌-ℤ◌, ◌*ℤ◌, length}
use Rattle.std.proofs.Common.{sym, ap, ap₂, ◌∙◌}
use Rattle.std.proofs.Math.IntN.{*ℤ_comm, zero-*ℤ, *ℤ-zero}
use Rattle.integers.specs.Identity.{by_ring, reads}
use Rattle.integers.specs.Ring.{*ℤ_assoc}
use Rattle.lattices.specs.Vector.{Vec, ◌⊕◌, ◌⊙◌}
use Rattle.lattices.specs.Volume.{Index, Form, head, rest, wedge, inner}

-- the half of a form whose choices begin with b
abbrev pub half : Bool → Form → Form
half b ω s = ω (b ∷ s)

-- contraction: the adjoint of the exterior product, by expansion at the first coordinate
abbrev pub contract : Vec → Form → Form
contract a ω [] = pos 0
contract a ω (false ∷ s) = contract (rest a) (half false ω) s +ℤ head a *ℤ ω (true ∷ s)
contract a ω (true ∷ s) = neg_ℤ (contract (rest a) (half true ω) s)

-- inner product of the first m coordinates: the one that forms over m coordinates see
abbrev pub dot_on : ℕ → Vec → Vec → ℤ
dot_on zero u v = pos 0
dot_on (suc m) u v = head u *ℤ head v +ℤ dot_on m (rest u) (rest v)

-- h is the combination j·f + k·g. A record, so that the forms are inferred
pub record Lin (j : ℤ) (f : Form) (k : ℤ) (g h : Form) : Type 0 where
  pub lin : (s : Index) → h s ≡ j *ℤ f s +ℤ k *ℤ g s

lin-half : (b : Bool) {j k : ℤ} {f g h : Form} → Lin j f k g h → Lin j (half b f) k (half b g) (half b h)
lin-half b p = record { lin = λ s. p.lin (b ∷ s) }

-- ---- linear in the form

wedge_lin' : (a : Vec) {j k : ℤ} {f g h : Form} → Lin j f k g h → (s : Index) → wedge a h s ≡ j *ℤ wedge a f s +ℤ k *ℤ wedge a g s
wedge_lin' a {j} {k} p [] = by_ring (j ∷ k ∷ []) (search reads) (search reads) tt
wedge_lin' a p (false ∷ s) = wedge_lin' (rest a) (lin-half false p) s
wedge_lin' a {j} {k} {f} {g} p (true ∷ s) =
    ap₂ (λ x y. head a *ℤ x -ℤ y) (p.lin (false ∷ s)) (wedge_lin' (rest a) (lin-half true p) s)
    ∙ regroup (head a) (f (false ∷ s)) (g (false ∷ s)) (wedge (rest a) (half true f) s) (wedge (rest a) (half true g) s)
  where
    regroup : (c x y u v : ℤ) → c *ℤ (j *ℤ x +ℤ k *ℤ y) -ℤ (j *ℤ u +ℤ k *ℤ v) ≡ j *ℤ (c *ℤ x -ℤ u) +ℤ k *ℤ (c *ℤ y -ℤ v)
    regroup c x y u v = by_ring (j ∷ k ∷ c ∷ x ∷ y ∷ u ∷ v ∷ []) (search reads depth 20) (search reads depth 20) tt

pub wedge-lin : (a : Vec) {j k : ℤ} {f g h : Form} → Lin j f k g h → Lin j (wedge a f) k (wedge a g) (wedge a h)
wedge-lin a p = record { lin = wedge_lin' a p }

contract_lin' : (a : Vec) {j k : ℤ} {f g h : Form} → Lin j f k g h → (s : Index) → contract a h s ≡ j *ℤ contract a f s +ℤ k *ℤ contract a g s
contract_lin' a {j} {k} p [] = by_ring (j ∷ k ∷ []) (search reads) (search reads) tt
contract_lin' a {j} {k} {f} {g} p (false ∷ s) =
    ap₂ (λ x y. x +ℤ head a *ℤ y) (contract_lin' (rest a) (lin-half false p) s) (p.lin (true ∷ s))
    ∙ regroup (head a) (f (true ∷ s)) (g (true ∷ s)) (contract (rest a) (half false f) s) (contract (rest a) (half false g) s)
  where
    regroup : (c x y u v : ℤ) → (j *ℤ u +ℤ k *ℤ v) +ℤ c *ℤ (j *ℤ x +ℤ k *ℤ y) ≡ j *ℤ (u +ℤ c *ℤ x) +ℤ k *ℤ (v +ℤ c *ℤ y)
    regroup c x y u v = by_ring (j ∷ k ∷ c ∷ x ∷ y ∷ u ∷ v ∷ []) (search reads depth 20) (search reads depth 20) tt
contract_lin' a {j} {k} {f} {g} p (true ∷ s) =
    ap neg_ℤ (contract_lin' (rest a) (lin-half true p) s) ∙ regroup (contract (rest a) (half true f) s) (contract (rest a) (half true g) s)
  where
    regroup : (u v : ℤ) → neg_ℤ (j *ℤ u +ℤ k *ℤ v) ≡ j *ℤ neg_ℤ u +ℤ k *ℤ neg_ℤ v
    regroup u v = by_ring (j ∷ k ∷ u ∷ v ∷ []) (search reads depth 20) (search reads depth 20) tt

pub contract-lin : (a : Vec) {j k : ℤ} {f g h : Form} → Lin j f k g h → Lin j (contract a f) k (contract a g) (contract a h)
contract-lin a p = record { lin = contract_lin' a p }

pub inner-lin : (m : ℕ) (e : Form) {j k : ℤ} {f g h : Form} → Lin j f k g h → inner m e h ≡ j *ℤ inner m e f +ℤ k *ℤ inner m e g
inner-lin zero e {j} {k} {f} {g} p = ap (λ x. e [] *ℤ x) (p.lin []) ∙ regroup (e []) (f []) (g [])
  where
    regroup : (c x y : ℤ) → c *ℤ (j *ℤ x +ℤ k *ℤ y) ≡ j *ℤ (c *ℤ x) +ℤ k *ℤ (c *ℤ y)
    regroup c x y = by_ring (j ∷ k ∷ c ∷ x ∷ y ∷ []) (search reads depth 20) (search reads depth 20) tt
inner-lin (suc m) e {j} {k} {f} {g} p =
    ap₂ ◌+ℤ◌ (inner-lin m (half false e) (lin-half false p)) (inner-lin m (half true e) (lin-half true p))
    ∙ regroup (i false f) (i false g) (i true f) (i true g)
  where
    i : Bool → Form → ℤ
    i b ω = inner m (half b e) (half b ω)

    regroup : (u v x y : ℤ) → (j *ℤ u +ℤ k *ℤ v) +ℤ (j *ℤ x +ℤ k *ℤ y) ≡ j *ℤ (u +ℤ x) +ℤ k *ℤ (v +ℤ y)
    regroup u v x y = by_ring (j ∷ k ∷ u ∷ v ∷ x ∷ y ∷ []) (search reads depth 20) (search reads depth 20) tt

-- over m coordinates only the indices of length m count
pub inner-on : (m : ℕ) (f g h : Form) → ((s : Index) → length s ≡ m → g s ≡ h s) → inner m f g ≡ inner m f h
inner-on zero f g h p = ap (λ x. f [] *ℤ x) (p [] refl)
inner-on (suc m) f g h p =
    ap (λ z. z +ℤ inner m (half true f) (half true g)) (inner-on m (half false f) (half false g) (half false h) (λ s q. p (false ∷ s) (ap suc q)))
    ∙ ap (λ z. inner m (half false f) (half false h) +ℤ z) (inner-on m (half true f) (half true g) (half true h) (λ s q. p (true ∷ s) (ap suc q)))

pub inner_comm : (m : ℕ) (f g : Form) → inner m f g ≡ inner m g f
inner_comm zero f g = *ℤ_comm (f []) (g [])
inner_comm (suc m) f g = ap₂ ◌+ℤ◌ (inner_comm m (half false f) (half false g)) (inner_comm m (half true f) (half true g))

pub inner-linˡ : (m : ℕ) (e : Form) {j k : ℤ} {f g h : Form} → Lin j f k g h → inner m h e ≡ j *ℤ inner m f e +ℤ k *ℤ inner m g e
inner-linˡ m e {j} {k} {f} {g} {h} p =
    inner_comm m h e ∙ inner-lin m e p ∙ ap₂ (λ x y. j *ℤ x +ℤ k *ℤ y) (inner_comm m e f) (inner_comm m e g)

-- ---- forms that are multiples of another

-- g is k·f
pub record Multiple (k : ℤ) (f g : Form) : Type 0 where
  pub multiple : (s : Index) → g s ≡ k *ℤ f s

pub multiple_of : (k : ℤ) (f : Form) {g : Form} → ((s : Index) → g s ≡ k *ℤ f s) → Multiple k f g
multiple_of k f p = record { multiple = p }

pub multiple-multiple : {j k : ℤ} {f g h : Form} → Multiple j g h → Multiple k f g → Multiple (j *ℤ k) f h
multiple-multiple {j} {k} {f} p q = record { multiple = λ s. p.multiple s ∙ ap (λ z. j *ℤ z) (q.multiple s) ∙ sym (*ℤ_assoc j k (f s)) }

lin_of_multiple : {k : ℤ} {f g : Form} → Multiple k f g → Lin k f (pos 0) f g
lin_of_multiple {k} {f} p =
    record { lin = λ s. p.multiple s ∙ by_ring (k ∷ f s ∷ []) (search reads depth 20) (search reads depth 20) tt }

pub wedge-multiple : (a : Vec) {k : ℤ} {f g : Form} → Multiple k f g → Multiple k (wedge a f) (wedge a g)
wedge-multiple a {k} {f} p =
    record { multiple = λ s. (wedge-lin a (lin_of_multiple p)).lin s ∙ by_ring (k ∷ wedge a f s ∷ []) (search reads) (search reads) tt }

pub inner-scale : (m : ℕ) (e : Form) {k : ℤ} {f g : Form} → Multiple k f g → inner m e g ≡ k *ℤ inner m e f
inner-scale m e {k} {f} p = inner-lin m e (lin_of_multiple p) ∙ by_ring (k ∷ inner m e f ∷ []) (search reads) (search reads) tt

pub inner-multiple : (m : ℕ) {k : ℤ} {f g : Form} → Multiple k f g → inner m g g ≡ k *ℤ k *ℤ inner m f f
inner-multiple m {k} {f} {g} p =
    inner-scale m g p ∙ ap (λ z. k *ℤ z) (inner_comm m g f ∙ inner-scale m f p) ∙ sym (*ℤ_assoc k k (inner m f f))

pub wedge-zero : (a : Vec) (ω : Form) → ((s : Index) → ω s ≡ pos 0) → (s : Index) → wedge a ω s ≡ pos 0
wedge-zero a ω p s = (wedge-multiple a (multiple_of (pos 0) ω (λ t. p t ∙ sym (zero-*ℤ (ω t))))).multiple s ∙ zero-*ℤ (wedge a ω s)

pub inner-zero : (m : ℕ) (f g : Form) → ((s : Index) → length s ≡ m → g s ≡ pos 0) → inner m f g ≡ pos 0
inner-zero m f g p =
    inner-on m f g (λ s. pos 0 *ℤ g s) (λ s e. p s e ∙ sym (zero-*ℤ (g s)))
    ∙ inner-scale m f (multiple_of (pos 0) g (λ s. refl))
    ∙ zero-*ℤ (inner m f g)

-- ---- linear in the vector: one more term of a combination

⊕-nil : (u : Vec) → u ⊕ [] ≡ u
unfolding ◌⊕◌
⊕-nil [] = refl
⊕-nil (x ∷ u) = refl

head_step : (k : ℤ) (b v : Vec) → head (k ⊙ b ⊕ v) ≡ k *ℤ head b +ℤ head v
unfolding ◌⊕◌ ◌⊙◌
head_step k [] v = by_ring (k ∷ head v ∷ []) (search reads) (search reads) tt
head_step k (x ∷ b) [] = by_ring (k ∷ x ∷ []) (search reads) (search reads) tt
head_step k (x ∷ b) (y ∷ v) = refl

rest-step : (k : ℤ) (b v : Vec) → rest (k ⊙ b ⊕ v) ≡ k ⊙ rest b ⊕ rest v
unfolding ◌⊕◌ ◌⊙◌
rest-step k [] v = refl
rest-step k (x ∷ b) [] = sym (⊕-nil (k ⊙ b))
rest-step k (x ∷ b) (y ∷ v) = refl

wedge_step' : (k : ℤ) (b v : Vec) (ω : Form) (s : Index) → wedge (k ⊙ b ⊕ v) ω s ≡ k *ℤ wedge b ω s +ℤ pos 1 *ℤ wedge v ω s
wedge_step' k b v ω [] = by_ring (k ∷ []) (search reads) (search reads) tt
wedge_step' k b v ω (false ∷ s) = ap (λ u. wedge u (half false ω) s) (rest-step k b v) ∙ wedge_step' k (rest b) (rest v) (half false ω) s
wedge_step' k b v ω (true ∷ s) =
    ap₂ (λ x u. x *ℤ ω (false ∷ s) -ℤ wedge u (half true ω) s) (head_step k b v) (rest-step k b v)
    ∙ ap (λ z. (k *ℤ head b +ℤ head v) *ℤ ω (false ∷ s) -ℤ z) (wedge_step' k (rest b) (rest v) (half true ω) s)
    ∙ regroup (head b) (head v) (ω (false ∷ s)) (wedge (rest b) (half true ω) s) (wedge (rest v) (half true ω) s)
  where
    regroup : (x y c u v : ℤ) → (k *ℤ x +ℤ y) *ℤ c -ℤ (k *ℤ u +ℤ pos 1 *ℤ v) ≡ k *ℤ (x *ℤ c -ℤ u) +ℤ pos 1 *ℤ (y *ℤ c -ℤ v)
    regroup x y c u v = by_ring (k ∷ x ∷ y ∷ c ∷ u ∷ v ∷ []) (search reads depth 20) (search reads depth 20) tt

pub wedge-step : (k : ℤ) (b v : Vec) (ω : Form) → Lin k (wedge b ω) (pos 1) (wedge v ω) (wedge (k ⊙ b ⊕ v) ω)
wedge-step k b v ω = record { lin = wedge_step' k b v ω }

pub wedge-nil : (ω : Form) (s : Index) → wedge [] ω s ≡ pos 0
wedge-nil ω [] = refl
wedge-nil ω (false ∷ s) = wedge-nil (half false ω) s
wedge-nil ω (true ∷ s) = ap₂ ◌-ℤ◌ (zero-*ℤ (ω (false ∷ s))) (wedge-nil (half true ω) s)

pub dot_on-step : (m : ℕ) (w : Vec) (k : ℤ) (b v : Vec) → dot_on m w (k ⊙ b ⊕ v) ≡ k *ℤ dot_on m w b +ℤ dot_on m w v
dot_on-step zero w k b v = by_ring (k ∷ []) (search reads) (search reads) tt
dot_on-step (suc m) w k b v =
    ap₂ (λ x u. head w *ℤ x +ℤ dot_on m (rest w) u) (head_step k b v) (rest-step k b v)
    ∙ ap (λ z. head w *ℤ (k *ℤ head b +ℤ head v) +ℤ z) (dot_on-step m (rest w) k (rest b) (rest v))
    ∙ regroup (head w) (head b) (head v) (dot_on m (rest w) (rest b)) (dot_on m (rest w) (rest v))
  where
    regroup : (c x y u v : ℤ) → c *ℤ (k *ℤ x +ℤ y) +ℤ (k *ℤ u +ℤ v) ≡ k *ℤ (c *ℤ x +ℤ u) +ℤ (c *ℤ y +ℤ v)
    regroup c x y u v = by_ring (k ∷ c ∷ x ∷ y ∷ u ∷ v ∷ []) (search reads depth 20) (search reads depth 20) tt

pub dot_on-nil : (m : ℕ) (w : Vec) → dot_on m w [] ≡ pos 0
dot_on-nil zero w = refl
dot_on-nil (suc m) w = ap₂ ◌+ℤ◌ (*ℤ-zero (head w)) (dot_on-nil m (rest w))
