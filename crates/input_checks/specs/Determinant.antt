-- The determinant of a table of four rows as code computes it, by pairs of the first two rows and of the last two, and that with unit rows behind d
-- rows it is the minor of their first d coordinates.
use Rattle.std.specs.Prelude.{◌≡◌, refl, List, [], ◌∷◌, ◌++◌, ℕ, zero, suc, ◌-◌, ◌%◌, ◌+◌, ◌*◌, ◌^◌, ◌≤◌, ◌<◌, T, ltb, ℤ, ◌+ℤ◌, ◌-ℤ◌, ◌*ℤ◌, length, get_or, set, drop}
use Rattle.std.proofs.Math.Path.{sym}
use Rattle.std.proofs.Common.{ap₂, ◌∙◌, subst, arith, SFits, to_z, of_z, to_z-of_z}
use Rattle.std.proofs.Math.Bool.{true, false}
use Rattle.std.proofs.Math.IntN.{pos}
use Rattle.std.specs.Int.{w64}
use Rattle.integers.specs.Identity.{by_ring, reads}
use Rattle.integers.specs.Size.{Within, within-add, within-sub, within-mul, fits-within}
use Rattle.lattices.specs.Vector.{Vec, nth, dot}
use Rattle.lattices.specs.Volume.{volume}
use Rattle.input_checks.specs.Choice.{firsts}

-- of two rows: the determinant of their coordinates i and j
abbrev pub pair_of : Vec → Vec → ℕ → ℕ → ℤ
pair_of p q i j = nth p i *ℤ nth q j -ℤ nth p j *ℤ nth q i

-- that of the first two rows, times that of the last two
abbrev pub term_of : List Vec → ℕ → ℕ → ℕ → ℕ → ℤ
term_of t i j k l = pair_of (get_or t 0 []) (get_or t 1 []) i j *ℤ pair_of (get_or t 2 []) (get_or t 3 []) k l

abbrev pub determinant_of : List Vec → ℤ
determinant_of t = term_of t 0 1 2 3 -ℤ term_of t 0 2 1 3 +ℤ term_of t 0 3 1 2 +ℤ term_of t 1 2 0 3 -ℤ term_of t 1 3 0 2 +ℤ term_of t 2 3 0 1

-- the unit rows
abbrev pub unit_rows : List Vec
unit_rows = (pos 1 ∷ pos 0 ∷ pos 0 ∷ pos 0 ∷ []) ∷ (pos 0 ∷ pos 1 ∷ pos 0 ∷ pos 0 ∷ []) ∷ (pos 0 ∷ pos 0 ∷ pos 1 ∷ pos 0 ∷ []) ∷ (pos 0 ∷ pos 0 ∷ pos 0 ∷ pos 1 ∷ []) ∷ []

-- ---- written out

-- a row of four numbers
four : (P : Vec → Type 0) → ((a b c d : ℤ) → P (a ∷ b ∷ c ∷ d ∷ [])) → (v : Vec) → length v ≡ 4 → P v
four P f [] e = absurd (omega arith)
four P f (a ∷ []) e = absurd (omega arith)
four P f (a ∷ b ∷ []) e = absurd (omega arith)
four P f (a ∷ b ∷ c ∷ []) e = absurd (omega arith)
four P f (a ∷ b ∷ c ∷ d ∷ []) e = f a b c d
four P f (a ∷ b ∷ c ∷ d ∷ x ∷ v) e = absurd (omega arith)

-- the determinant with unit rows behind the given ones is the minor at the first coordinates
Behind : List Vec → Type 0
Behind rows = determinant_of (rows ++ drop (length rows) unit_rows) ≡ volume rows (firsts 4 (length rows))

none : Behind []
unfolding Behind
none = refl

one : (a b c d : ℤ) → Behind ((a ∷ b ∷ c ∷ d ∷ []) ∷ [])
unfolding Behind
one a b c d = by_ring (a ∷ b ∷ c ∷ d ∷ []) (search reads depth 30 fits 5000) (search reads depth 30 fits 5000) tt

two : (a b c d e f g h : ℤ) → Behind ((a ∷ b ∷ c ∷ d ∷ []) ∷ (e ∷ f ∷ g ∷ h ∷ []) ∷ [])
unfolding Behind
two a b c d e f g h = by_ring (a ∷ b ∷ c ∷ d ∷ e ∷ f ∷ g ∷ h ∷ []) (search reads depth 30 fits 5000) (search reads depth 30 fits 5000) tt

three : (a b c d e f g h i j k l : ℤ) → Behind ((a ∷ b ∷ c ∷ d ∷ []) ∷ (e ∷ f ∷ g ∷ h ∷ []) ∷ (i ∷ j ∷ k ∷ l ∷ []) ∷ [])
unfolding Behind
three a b c d e f g h i j k l = by_ring (a ∷ b ∷ c ∷ d ∷ e ∷ f ∷ g ∷ h ∷ i ∷ j ∷ k ∷ l ∷ []) (search reads depth 30 fits 5000) (search reads depth 30 fits 5000) tt

-- four rows, by expansion at the first
minor : (a b c d e f g h i : ℤ) → ℤ
minor a b c d e f g h i = a *ℤ (e *ℤ i -ℤ f *ℤ h) -ℤ b *ℤ (d *ℤ i -ℤ f *ℤ g) +ℤ c *ℤ (d *ℤ h -ℤ e *ℤ g)

module _ (e f g h i j k l m n o p : ℤ) where
  abbrev rows : List Vec
  rows = (e ∷ f ∷ g ∷ h ∷ []) ∷ (i ∷ j ∷ k ∷ l ∷ []) ∷ (m ∷ n ∷ o ∷ p ∷ []) ∷ []

  abbrev atoms : List ℤ
  atoms = e ∷ f ∷ g ∷ h ∷ i ∷ j ∷ k ∷ l ∷ m ∷ n ∷ o ∷ p ∷ []

  without_0 : volume rows (false ∷ true ∷ true ∷ true ∷ []) ≡ minor f g h j k l n o p
  unfolding minor
  without_0 = by_ring atoms (search reads depth 30 fits 5000) (search reads depth 30 fits 5000) tt

  without_1 : volume rows (true ∷ false ∷ true ∷ true ∷ []) ≡ minor e g h i k l m o p
  unfolding minor
  without_1 = by_ring atoms (search reads depth 30 fits 5000) (search reads depth 30 fits 5000) tt

  without_2 : volume rows (true ∷ true ∷ false ∷ true ∷ []) ≡ minor e f h i j l m n p
  unfolding minor
  without_2 = by_ring atoms (search reads depth 30 fits 5000) (search reads depth 30 fits 5000) tt

  without_3 : volume rows (true ∷ true ∷ true ∷ false ∷ []) ≡ minor e f g i j k m n o
  unfolding minor
  without_3 = by_ring atoms (search reads depth 30 fits 5000) (search reads depth 30 fits 5000) tt

  expanded : (a b c d : ℤ) → determinant_of ((a ∷ b ∷ c ∷ d ∷ []) ∷ rows)
      ≡ a *ℤ minor f g h j k l n o p -ℤ (b *ℤ minor e g h i k l m o p -ℤ (c *ℤ minor e f h i j l m n p -ℤ (d *ℤ minor e f g i j k m n o -ℤ pos 0)))
  unfolding minor
  expanded a b c d = by_ring (a ∷ b ∷ c ∷ d ∷ atoms) (search reads depth 30 fits 5000) (search reads depth 30 fits 5000) tt

  all : (a b c d : ℤ) → Behind ((a ∷ b ∷ c ∷ d ∷ []) ∷ rows)
  unfolding Behind
  all a b c d = expanded a b c d
      ∙ sym (ap₂ (λ x y. a *ℤ x -ℤ (b *ℤ y -ℤ (c *ℤ minor e f h i j l m n p -ℤ (d *ℤ minor e f g i j k m n o -ℤ pos 0)))) without_0 without_1)
      ∙ sym (ap₂ (λ x y. a *ℤ volume rows (false ∷ true ∷ true ∷ true ∷ []) -ℤ (b *ℤ volume rows (true ∷ false ∷ true ∷ true ∷ []) -ℤ (c *ℤ x -ℤ (d *ℤ y -ℤ pos 0)))) without_2 without_3)

-- of any number of rows
pub behind : (rows : List Vec) → length rows ≤ 4 → ((i : ℕ) → i < length rows → length (get_or rows i []) ≡ 4) → determinant_of (rows ++ drop (length rows) unit_rows) ≡ volume rows (firsts 4 (length rows))
unfolding Behind
behind [] h w = none
behind (p ∷ []) h w = four (λ p. Behind (p ∷ [])) one p (w 0 (omega arith))
behind (p ∷ q ∷ []) h w = four (λ p. Behind (p ∷ q ∷ [])) (λ a b c d. four (λ q. Behind ((a ∷ b ∷ c ∷ d ∷ []) ∷ q ∷ [])) (two a b c d) q (w 1 (omega arith))) p (w 0 (omega arith))
behind (p ∷ q ∷ r ∷ []) h w =
    four (λ p. Behind (p ∷ q ∷ r ∷ []))
    (λ a b c d. four (λ q. Behind ((a ∷ b ∷ c ∷ d ∷ []) ∷ q ∷ r ∷ []))
    (λ e f g i. four (λ r. Behind ((a ∷ b ∷ c ∷ d ∷ []) ∷ (e ∷ f ∷ g ∷ i ∷ []) ∷ r ∷ [])) (three a b c d e f g i) r (w 2 (omega arith))) q (w 1 (omega arith))) p (w 0 (omega arith))
behind (p ∷ q ∷ r ∷ s ∷ []) h w =
    four (λ p. Behind (p ∷ q ∷ r ∷ s ∷ []))
    (λ a b c d. four (λ q. Behind ((a ∷ b ∷ c ∷ d ∷ []) ∷ q ∷ r ∷ s ∷ []))
    (λ e f g i. four (λ r. Behind ((a ∷ b ∷ c ∷ d ∷ []) ∷ (e ∷ f ∷ g ∷ i ∷ []) ∷ r ∷ s ∷ []))
    (λ j k l m. four (λ s. Behind ((a ∷ b ∷ c ∷ d ∷ []) ∷ (e ∷ f ∷ g ∷ i ∷ []) ∷ (j ∷ k ∷ l ∷ m ∷ []) ∷ s ∷ []))
    (λ n o t u. all e f g i j k l m n o t u a b c d) s (w 3 (omega arith))) r (w 2 (omega arith))) q (w 1 (omega arith))) p (w 0 (omega arith))
behind (p ∷ q ∷ r ∷ s ∷ t ∷ rows) h w = absurd (omega arith)

-- with unit rows behind two rows one term is left
pub pair-behind : (p q : Vec) → determinant_of (p ∷ q ∷ drop 2 unit_rows) ≡ pair_of p q 0 1
pair-behind p q =
    by_ring (nth p 0 ∷ nth p 1 ∷ nth p 2 ∷ nth p 3 ∷ nth q 0 ∷ nth q 1 ∷ nth q 2 ∷ nth q 3 ∷ []) (search reads depth 30 fits 5000) (search reads depth 30 fits 5000) tt

-- ---- expansion at a row

-- of three rows: the determinant of their coordinates i, j and k
abbrev pub three_of : Vec → Vec → Vec → ℕ → ℕ → ℕ → ℤ
three_of p q r i j k = nth p i *ℤ pair_of q r j k -ℤ nth p j *ℤ pair_of q r i k +ℤ nth p k *ℤ pair_of q r i j

-- the list without its entry j
abbrev pub without : {A : Type 0} → ℕ → List A → List A
without j [] = []
without zero (x ∷ l) = l
without (suc j) (x ∷ l) = x ∷ without j l

-- what the coordinates of another row count in the determinant with it in the place of row j: two rows, or two coordinates, change places where
-- the sign does
abbrev pub cofactors_of : List Vec → ℕ → List ℤ
cofactors_of t j =
    let o = without j t in
    let p = get_or o (j % 2) [] in
    let q = get_or o (1 - j % 2) [] in
    let r = get_or o 2 [] in
    three_of p q r 1 2 3 ∷ three_of p q r 0 3 2 ∷ three_of p q r 0 1 3 ∷ three_of p q r 0 2 1 ∷ []

-- the row in the place of row j
Expands : ℕ → List Vec → Vec → Type 0
Expands j t v = dot (cofactors_of t j) v ≡ determinant_of (set t j v)

module _ (a b c d e f g h i j k l w x y z : ℤ) where
  abbrev u : Vec
  u = w ∷ x ∷ y ∷ z ∷ []

  abbrev others : List ℤ
  others = w ∷ x ∷ y ∷ z ∷ a ∷ b ∷ c ∷ d ∷ e ∷ f ∷ g ∷ h ∷ i ∷ j ∷ k ∷ l ∷ []

  at_0 : (v : Vec) → Expands 0 (v ∷ (a ∷ b ∷ c ∷ d ∷ []) ∷ (e ∷ f ∷ g ∷ h ∷ []) ∷ (i ∷ j ∷ k ∷ l ∷ []) ∷ []) u
  unfolding Expands dot
  at_0 v = by_ring others (search reads depth 30 fits 5000) (search reads depth 30 fits 5000) tt

  at_1 : (v : Vec) → Expands 1 ((a ∷ b ∷ c ∷ d ∷ []) ∷ v ∷ (e ∷ f ∷ g ∷ h ∷ []) ∷ (i ∷ j ∷ k ∷ l ∷ []) ∷ []) u
  unfolding Expands dot
  at_1 v = by_ring others (search reads depth 30 fits 5000) (search reads depth 30 fits 5000) tt

  at_2 : (v : Vec) → Expands 2 ((a ∷ b ∷ c ∷ d ∷ []) ∷ (e ∷ f ∷ g ∷ h ∷ []) ∷ v ∷ (i ∷ j ∷ k ∷ l ∷ []) ∷ []) u
  unfolding Expands dot
  at_2 v = by_ring others (search reads depth 30 fits 5000) (search reads depth 30 fits 5000) tt

  at_3 : (v : Vec) → Expands 3 ((a ∷ b ∷ c ∷ d ∷ []) ∷ (e ∷ f ∷ g ∷ h ∷ []) ∷ (i ∷ j ∷ k ∷ l ∷ []) ∷ v ∷ []) u
  unfolding Expands dot
  at_3 v = by_ring others (search reads depth 30 fits 5000) (search reads depth 30 fits 5000) tt

pub expands : (t : List Vec) → length t ≡ 4 → ((i : ℕ) → i < 4 → length (get_or t i []) ≡ 4) → (j : ℕ) → j < 4 → (v : Vec) → length v ≡ 4 → dot (cofactors_of t j) v ≡ determinant_of (set t j v)
unfolding Expands
expands [] e w j h v k = absurd (omega arith)
expands (p ∷ []) e w j h v k = absurd (omega arith)
expands (p ∷ q ∷ []) e w j h v k = absurd (omega arith)
expands (p ∷ q ∷ r ∷ []) e w j h v k = absurd (omega arith)
expands (p ∷ q ∷ r ∷ s ∷ []) e w zero h v k =
    four (λ v. Expands 0 (p ∷ q ∷ r ∷ s ∷ []) v)
    (λ α β γ δ. four (λ q. Expands 0 (p ∷ q ∷ r ∷ s ∷ []) (α ∷ β ∷ γ ∷ δ ∷ []))
    (λ a b c d. four (λ r. Expands 0 (p ∷ (a ∷ b ∷ c ∷ d ∷ []) ∷ r ∷ s ∷ []) (α ∷ β ∷ γ ∷ δ ∷ []))
    (λ e f g i. four (λ s. Expands 0 (p ∷ (a ∷ b ∷ c ∷ d ∷ []) ∷ (e ∷ f ∷ g ∷ i ∷ []) ∷ s ∷ []) (α ∷ β ∷ γ ∷ δ ∷ []))
    (λ l m n o. at_0 a b c d e f g i l m n o α β γ δ p) s (w 3 (omega arith))) r (w 2 (omega arith))) q (w 1 (omega arith))) v k
expands (p ∷ q ∷ r ∷ s ∷ []) e w (suc zero) h v k =
    four (λ v. Expands 1 (p ∷ q ∷ r ∷ s ∷ []) v)
    (λ α β γ δ. four (λ p. Expands 1 (p ∷ q ∷ r ∷ s ∷ []) (α ∷ β ∷ γ ∷ δ ∷ []))
    (λ a b c d. four (λ r. Expands 1 ((a ∷ b ∷ c ∷ d ∷ []) ∷ q ∷ r ∷ s ∷ []) (α ∷ β ∷ γ ∷ δ ∷ []))
    (λ e f g i. four (λ s. Expands 1 ((a ∷ b ∷ c ∷ d ∷ []) ∷ q ∷ (e ∷ f ∷ g ∷ i ∷ []) ∷ s ∷ []) (α ∷ β ∷ γ ∷ δ ∷ []))
    (λ l m n o. at_1 a b c d e f g i l m n o α β γ δ q) s (w 3 (omega arith))) r (w 2 (omega arith))) p (w 0 (omega arith))) v k
expands (p ∷ q ∷ r ∷ s ∷ []) e w (suc (suc zero)) h v k =
    four (λ v. Expands 2 (p ∷ q ∷ r ∷ s ∷ []) v)
    (λ α β γ δ. four (λ p. Expands 2 (p ∷ q ∷ r ∷ s ∷ []) (α ∷ β ∷ γ ∷ δ ∷ []))
    (λ a b c d. four (λ q. Expands 2 ((a ∷ b ∷ c ∷ d ∷ []) ∷ q ∷ r ∷ s ∷ []) (α ∷ β ∷ γ ∷ δ ∷ []))
    (λ e f g i. four (λ s. Expands 2 ((a ∷ b ∷ c ∷ d ∷ []) ∷ (e ∷ f ∷ g ∷ i ∷ []) ∷ r ∷ s ∷ []) (α ∷ β ∷ γ ∷ δ ∷ []))
    (λ l m n o. at_2 a b c d e f g i l m n o α β γ δ r) s (w 3 (omega arith))) q (w 1 (omega arith))) p (w 0 (omega arith))) v k
expands (p ∷ q ∷ r ∷ s ∷ []) e w (suc (suc (suc zero))) h v k =
    four (λ v. Expands 3 (p ∷ q ∷ r ∷ s ∷ []) v)
    (λ α β γ δ. four (λ p. Expands 3 (p ∷ q ∷ r ∷ s ∷ []) (α ∷ β ∷ γ ∷ δ ∷ []))
    (λ a b c d. four (λ q. Expands 3 ((a ∷ b ∷ c ∷ d ∷ []) ∷ q ∷ r ∷ s ∷ []) (α ∷ β ∷ γ ∷ δ ∷ []))
    (λ e f g i. four (λ r. Expands 3 ((a ∷ b ∷ c ∷ d ∷ []) ∷ (e ∷ f ∷ g ∷ i ∷ []) ∷ r ∷ s ∷ []) (α ∷ β ∷ γ ∷ δ ∷ []))
    (λ l m n o. at_3 a b c d e f g i l m n o α β γ δ s) r (w 2 (omega arith))) q (w 1 (omega arith))) p (w 0 (omega arith))) v k
expands (p ∷ q ∷ r ∷ s ∷ []) e w (suc (suc (suc (suc j)))) h v k = absurd (omega arith)
expands (p ∷ q ∷ r ∷ s ∷ t ∷ rows) e w j h v k = absurd (omega arith)

-- ---- what code meets on the way fits

-- coordinates within the limit
abbrev pub Small : Vec → Type 0
Small v = (c : ℕ) → Within 20000 (nth v c)

-- the number that code holds of x is z, which is small
pub record Comes (B : ℕ) (x z : ℤ) : Type 0 where
  pub is : to_z w64 (of_z w64 x) ≡ z
  pub within : Within B z

pub comes : {B : ℕ} {x : ℤ} → SFits w64 x → Within B x → Comes B x x
comes f h = record { is = to_z-of_z {w = w64} f; within = h }

module _ {A B : ℕ} {x y a b : ℤ} (p : Comes A x a) (q : Comes B y b) where
  pub fits_sum : T (ltb (A + B) (2 ^ 63)) → SFits w64 (to_z w64 (of_z w64 x) +ℤ to_z w64 (of_z w64 y))
  fits_sum t = subst (SFits w64) (sym (ap₂ ◌+ℤ◌ p.is q.is)) (fits-within (within-add p.within q.within) t)

  pub sum : T (ltb (A + B) (2 ^ 63)) → Comes (A + B) (to_z w64 (of_z w64 x) +ℤ to_z w64 (of_z w64 y)) (a +ℤ b)
  sum t = record { is = to_z-of_z {w = w64} (fits_sum t) ∙ ap₂ ◌+ℤ◌ p.is q.is; within = within-add p.within q.within }

  pub fits-difference : T (ltb (A + B) (2 ^ 63)) → SFits w64 (to_z w64 (of_z w64 x) -ℤ to_z w64 (of_z w64 y))
  fits-difference t = subst (SFits w64) (sym (ap₂ ◌-ℤ◌ p.is q.is)) (fits-within (within-sub p.within q.within) t)

  pub difference : T (ltb (A + B) (2 ^ 63)) → Comes (A + B) (to_z w64 (of_z w64 x) -ℤ to_z w64 (of_z w64 y)) (a -ℤ b)
  difference t = record { is = to_z-of_z {w = w64} (fits-difference t) ∙ ap₂ ◌-ℤ◌ p.is q.is; within = within-sub p.within q.within }

  pub fits-product : T (ltb (A * B) (2 ^ 63)) → SFits w64 (to_z w64 (of_z w64 x) *ℤ to_z w64 (of_z w64 y))
  fits-product t = subst (SFits w64) (sym (ap₂ ◌*ℤ◌ p.is q.is)) (fits-within (within-mul p.within q.within) t)

  pub product : T (ltb (A * B) (2 ^ 63)) → Comes (A * B) (to_z w64 (of_z w64 x) *ℤ to_z w64 (of_z w64 y)) (a *ℤ b)
  product t = record { is = to_z-of_z {w = w64} (fits-product t) ∙ ap₂ ◌*ℤ◌ p.is q.is; within = within-mul p.within q.within }
