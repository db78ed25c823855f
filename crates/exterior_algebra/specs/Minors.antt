-- Minors: a list is dependent exactly when every minor of as many coordinates as vectors is zero; a minor is the volume of the chosen coordinates.
use Rattle.std.specs.Prelude.{◌≡◌, refl, ◌≢◌, ◌⊎◌, true, false, List, [], ◌∷◌, ◌++◌, map, ℕ, zero, suc, ◌≤◌, ℤ, pos, ◌-ℤ◌, ◌*ℤ◌, length, ◌<ℤ◌}
use Rattle.std.proofs.Common.{sym, ap, ap₂, ◌∙◌, subst, inl, inr, ⊎_elim, true≢false, arith}
use Rattle.std.proofs.Math.Decide.{ℕ_discrete}
use Rattle.std.specs.Int.Signed.{<ℤ-≤ℤ_trans}
use Rattle.integers.specs.Identity.{by_ring, reads}
use Rattle.integers.specs.All.{All, Some}
use Rattle.integers.specs.AllLaws.{all_left, all_right}
use Rattle.integers.specs.Order.{≤ℤ-le_z, <ℤ-le_z, ≤ℤ_of_≡, square-pos, zero_or_not}
use Rattle.lattices.specs.Vector.{Vec}
use Rattle.lattices.specs.Volume.{Index, Form, head, rest, unit, wedge, volume, inner, squared_volume, is_dependent}
use Rattle.exterior_algebra.specs.Forms.{half, inner-zero, wedge-zero}
use Rattle.exterior_algebra.specs.Hadamard.{entry}

-- how many coordinates a choice takes
abbrev pub marks : Index → ℕ
marks [] = zero
marks (false ∷ s) = marks s
marks (true ∷ s) = suc (marks s)

pub marks-≤ : (s : Index) → marks s ≤ length s
marks-≤ [] = omega arith
marks-≤ (false ∷ s) = omega (arith, marks-≤ s)
marks-≤ (true ∷ s) = omega (arith, marks-≤ s)

-- the choices of d among m coordinates
abbrev pub choices : ℕ → ℕ → List Index
choices zero zero = [] ∷ []
choices zero (suc d) = []
choices (suc m) zero = map (λ s. false ∷ s) (choices m zero)
choices (suc m) (suc d) = map (λ s. true ∷ s) (choices m d) ++ map (λ s. false ∷ s) (choices m (suc d))

all_map : {A B : Type 0} (P : B → Type 0) (f : A → B) (l : List A) → All P (map f l) → All (λ a. P (f a)) l
all_map P f [] h = tt
all_map P f (a ∷ l) h = (h.0, all_map P f l h.1)

pub chosen : (P : Index → Type 0) (m d : ℕ) → All P (choices m d) → (s : Index) → length s ≡ m → marks s ≡ d → P s
chosen P zero zero h [] e f = h.0
chosen P zero zero h (c ∷ s) e f = absurd (omega arith)
chosen P zero (suc d) h [] e f = absurd (omega arith)
chosen P zero (suc d) h (c ∷ s) e f = absurd (omega arith)
chosen P (suc m) d h [] e f = absurd (omega arith)
chosen P (suc m) zero h (false ∷ s) e f = chosen (λ s. P (false ∷ s)) m zero (all_map P (λ s. false ∷ s) (choices m zero) h) s (omega arith) f
chosen P (suc m) zero h (true ∷ s) e f = absurd (omega arith)
chosen P (suc m) (suc d) h (true ∷ s) e f = chosen (λ s. P (true ∷ s)) m d
    (all_map P (λ s. true ∷ s) (choices m d) (all_left P (map (λ s. true ∷ s) (choices m d)) (map (λ s. false ∷ s) (choices m (suc d))) h)) s (omega arith) (omega arith)
chosen P (suc m) (suc d) h (false ∷ s) e f = chosen (λ s. P (false ∷ s)) m (suc d)
    (all_map P (λ s. false ∷ s) (choices m (suc d)) (all_right P (map (λ s. true ∷ s) (choices m d)) (map (λ s. false ∷ s) (choices m (suc d))) h)) s (omega arith) f

-- ---- the volume is zero but at choices of as many coordinates as vectors
wedge_off : (k : ℕ) (a : Vec) (ω : Form) → ((t : Index) → marks t ≢ k → ω t ≡ pos 0) → (s : Index) → marks s ≢ suc k → wedge a ω s ≡ pos 0
wedge_off k a ω p [] h = refl
wedge_off k a ω p (false ∷ s) h = wedge_off k (rest a) (half false ω) (λ t. p (false ∷ t)) s h
wedge_off zero a ω p (true ∷ s) h =
    ap₂ (λ x y. head a *ℤ x -ℤ y) (p (false ∷ s) (λ e. h (ap suc e))) (wedge-zero (rest a) (half true ω) (λ t. p (true ∷ t) (λ e. absurd (omega arith))) s)
    ∙ by_ring (head a ∷ []) (search reads) (search reads) tt
wedge_off (suc k) a ω p (true ∷ s) h =
    ap₂ (λ x y. head a *ℤ x -ℤ y) (p (false ∷ s) (λ e. h (ap suc e))) (wedge_off k (rest a) (half true ω) (λ t f. p (true ∷ t) (λ e. f (omega arith))) s (λ e. h (ap suc e)))
    ∙ by_ring (head a ∷ []) (search reads) (search reads) tt

unit_off : (s : Index) → marks s ≢ zero → unit s ≡ pos 0
unit_off [] h = absurd (h refl)
unit_off (false ∷ s) h = unit_off s h
unit_off (true ∷ s) h = refl

pub volume_off : (bs : List Vec) (s : Index) → marks s ≢ length bs → volume bs s ≡ pos 0
volume_off [] s h = unit_off s h
volume_off (b ∷ bs) s h = wedge_off (length bs) b (volume bs) (volume_off bs) s h

-- ---- dependence
pub dependent_of_minors : (m : ℕ) (bs : List Vec) → All (λ s. volume bs s ≡ pos 0) (choices m (length bs)) → is_dependent m bs ≡ true
unfolding is_dependent squared_volume
dependent_of_minors m bs h = ≤ℤ-le_z (≤ℤ_of_≡ (inner-zero m (volume bs) (volume bs) at))
  where
    at : (s : Index) → length s ≡ m → volume bs s ≡ pos 0
    at s e = go (ℕ_discrete (marks s) (length bs))
      where
        go : Dec (marks s ≡ length bs) → volume bs s ≡ pos 0
        go (yes f) = chosen (λ s. volume bs s ≡ pos 0) m (length bs) h s e f
        go (no f) = volume_off bs s f

pub independent_of_minor : (m : ℕ) (bs : List Vec) (s : Index) → length s ≡ m → volume bs s ≢ pos 0 → is_dependent m bs ≡ false
unfolding is_dependent squared_volume
independent_of_minor m bs s e h = <ℤ-le_z (subst (λ n. pos 0 <ℤ inner n (volume bs) (volume bs)) e (<ℤ-≤ℤ_trans (square-pos h) (entry (volume bs) s)))

-- ---- a minor is the volume of the chosen coordinates
abbrev pub pick : Index → Vec → Vec
pick [] v = []
pick (false ∷ s) v = pick s (rest v)
pick (true ∷ s) v = head v ∷ pick s (rest v)

-- all coordinates of those chosen
abbrev pub full : Index → Index
full [] = []
full (false ∷ s) = full s
full (true ∷ s) = true ∷ full s

-- g is f on the chosen coordinates
Restricts : Index → Form → Form → Type 0
Restricts [] f g = f [] ≡ g []
Restricts (false ∷ s) f g = Restricts s (half false f) g
Restricts (true ∷ s) f g = Restricts s (half false f) (half false g) × Restricts s (half true f) (half true g)

at-full : (s : Index) (f g : Form) → Restricts s f g → f s ≡ g (full s)
unfolding Restricts
at-full [] f g h = h
at-full (false ∷ s) f g h = at-full s (half false f) g h
at-full (true ∷ s) f g h = at-full s (half true f) (half true g) h.1

restricts_zero : (s : Index) → Restricts s (λ t. pos 0) (λ t. pos 0)
unfolding Restricts
restricts_zero [] = refl
restricts_zero (false ∷ s) = restricts_zero s
restricts_zero (true ∷ s) = (restricts_zero s, restricts_zero s)

restricts_unit : (s : Index) → Restricts s unit unit
unfolding Restricts
restricts_unit [] = refl
restricts_unit (false ∷ s) = restricts_unit s
restricts_unit (true ∷ s) = (restricts_unit s, restricts_zero s)

restricts_less : (s : Index) (k : ℤ) (f g f' g' : Form) → Restricts s f g → Restricts s f' g' → Restricts s (λ t. k *ℤ f t -ℤ f' t) (λ t. k *ℤ g t -ℤ g' t)
unfolding Restricts
restricts_less [] k f g f' g' p q = ap₂ (λ x y. k *ℤ x -ℤ y) p q
restricts_less (false ∷ s) k f g f' g' p q = restricts_less s k (half false f) g (half false f') g' p q
restricts_less (true ∷ s) k f g f' g' p q =
    (restricts_less s k (half false f) (half false g) (half false f') (half false g') p.0 q.0, restricts_less s k (half true f) (half true g) (half true f') (half true g') p.1 q.1)

restricts_wedge : (s : Index) (a : Vec) (f g : Form) → Restricts s f g → Restricts s (wedge a f) (wedge (pick s a) g)
unfolding Restricts
restricts_wedge [] a f g p = refl
restricts_wedge (false ∷ s) a f g p = restricts_wedge s (rest a) (half false f) g p
restricts_wedge (true ∷ s) a f g p = (
  restricts_wedge s (rest a) (half false f) (half false g) p.0,
  restricts_less s (head a) (half false f) (half false g) (wedge (rest a) (half true f)) (wedge (pick s (rest a)) (half true g)) p.0 (restricts_wedge s (rest a) (half true f) (half true g) p.1),
)

restricts_volume : (s : Index) (bs : List Vec) → Restricts s (volume bs) (volume (map (pick s) bs))
restricts_volume s [] = restricts_unit s
restricts_volume s (b ∷ bs) = restricts_wedge s b (volume bs) (volume (map (pick s) bs)) (restricts_volume s bs)

pub minor-picked : (bs : List Vec) (s : Index) → volume bs s ≡ volume (map (pick s) bs) (full s)
minor-picked bs s = at-full s (volume bs) (volume (map (pick s) bs)) (restricts_volume s bs)

-- ---- an independent list has a minor that is not zero
all-or-some : {A : Type 0} (f : A → ℤ) (l : List A) → All (λ a. f a ≡ pos 0) l ⊎ Some (λ a. f a ≢ pos 0) l
all-or-some f [] = inl tt
all-or-some f (a ∷ l) = pick-one (zero_or_not (f a)) (all-or-some f l)
  where
    pick-one : (f a ≡ pos 0) ⊎ (f a ≢ pos 0) → All (λ a. f a ≡ pos 0) l ⊎ Some (λ a. f a ≢ pos 0) l → All (λ a. f a ≡ pos 0) (a ∷ l) ⊎ Some (λ a. f a ≢ pos 0) (a ∷ l)
    pick-one (inr h) r = inr (inl h)
    pick-one (inl h) (inl r) = inl (h, r)
    pick-one (inl h) (inr r) = inr (inr r)

pub some-minor : (m : ℕ) (bs : List Vec) → is_dependent m bs ≡ false → Some (λ s. volume bs s ≢ pos 0) (choices m (length bs))
some-minor m bs e = ⊎_elim (λ h. absurd (true≢false (sym (dependent_of_minors m bs h) ∙ e))) (λ s. s) (all-or-some (volume bs) (choices m (length bs)))
