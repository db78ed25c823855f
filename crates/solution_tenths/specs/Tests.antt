-- The tests of a step, on numbers: n is the squared length of a vector, p its inner product with what is left.
use Rattle.std.specs.Prelude.{Option, Some, None, IsNone, ◌≡◌, refl, ◌⊎◌, Bool, true, false, List, [], ◌∷◌, ℕ, ◌+◌, ◌≤◌, ◌<◌, ℤ, pos, negsuc, ◌-ℤ◌, ◌*ℤ◌, ◌≤ℤ◌, ◌<ℤ◌, get_or}
use Rattle.std.proofs.Common.{sym, subst, subst₂, ⊎_elim, le_refl, arith, SFits, to_z, of_z, to_z-of_z}
use Rattle.std.proofs.lemmas.Bool.{false≢true}
use Rattle.std.proofs.Math.Decide.{dec_lt}
use Rattle.std.specs.Int.{w64}
use Rattle.integers.specs.Identity.{reads}
use Rattle.integers.specs.Certificate.{◌⊞◌, nn_ring, nn-false, le, lt}
use Rattle.integers.specs.Size.{Within, within-mul, within-sub, fits-within}
use Rattle.lattices.specs.Vector.{nth}
use Rattle.solutions.specs.Laws.Settled.{Between}

-- |2·p| ≤ 3·n
abbrev pub Flat : ℤ → ℤ → Type 0
Flat n p = Between (pos 3 *ℤ n) (pos 2 *ℤ p)

pub record Level (n p : ℤ) (t : Bool) : Type 0 where
  pub yes : t ≡ true → Flat n p
  pub no : t ≡ false → ¬ (Flat n p)

module _ (n p : ℤ) where
  pub level_above : (pos 3 *ℤ n) <ℤ (pos 2 *ℤ p) → Level n p false
  level_above h = record {
    yes = λ e. absurd (false≢true e);
    no = λ _ f. nn-false (n ∷ p ∷ []) (lt h ⊞ f.high) (search reads depth 20) tt;
  }

  pub level_below : (pos 2 *ℤ p) <ℤ (pos 0 -ℤ pos 3 *ℤ n) → Level n p false
  level_below h = record {
    yes = λ e. absurd (false≢true e);
    no = λ _ f. nn-false (n ∷ p ∷ []) (lt h ⊞ f.low) (search reads depth 20) tt;
  }

  pub level_between : (pos 2 *ℤ p) ≤ℤ (pos 3 *ℤ n) → (pos 0 -ℤ pos 3 *ℤ n) ≤ℤ (pos 2 *ℤ p) → Level n p true
  level_between h k = record {
    yes = λ _. record {
      low = nn_ring (n ∷ p ∷ []) (le k) (search reads depth 20) (search reads depth 20) tt;
      high = nn_ring (n ∷ p ∷ []) (le h) (search reads depth 20) (search reads depth 20) tt;
    };
    no = λ e. absurd (false≢true (sym e));
  }

-- what fits in the test
pub record Tested (n p : ℤ) : Type 0 where
  pub square : SFits w64 n
  pub inner : SFits w64 p
  pub most : SFits w64 (pos 3 *ℤ n)
  pub twice : SFits w64 (pos 2 *ℤ p)
  pub opposite : SFits w64 (pos 0 -ℤ pos 3 *ℤ n)

pub tested : {n p : ℤ} → Within 400000000 n → Within 4000000000000000 p → Tested n p
tested f g = record {
  square = fits-within f tt;
  inner = fits-within g tt;
  most = fits-within (within-mul (literal 3) f) tt;
  twice = fits-within (within-mul (literal 2) g) tt;
  opposite = fits-within (within-sub (literal 0) (within-mul (literal 3) f)) tt;
}
  where
    literal : (n : ℕ) → Within n (pos n)
    literal n = record { within = le_refl n }

-- the test, of numbers as they are stored
pub level-stored : {n p : ℤ} {t : Bool} → Within 400000000 n → Within 4000000000000000 p → Level (to_z w64 (of_z w64 n)) (to_z w64 (of_z w64 p)) t → Level n p t
level-stored {t = t} f g = subst₂ (λ n p. Level n p t) (to_z-of_z {w = w64} (fits-within f tt)) (to_z-of_z {w = w64} (fits-within g tt))

-- ---- the first place that is not level

abbrev pub AllFlat : List (List ℤ) → List ℤ → ℕ → Type 0
AllFlat g h i = (j : ℕ) → j < i → Flat (nth (get_or g j []) j) (nth h j)

-- the first place where more is left, or none
pub record Steep (g : List (List ℤ)) (h : List ℤ) (o : Option ℕ) : Type 0 where
  pub flat : IsNone o → AllFlat g h 4
  pub first : {p : ℕ} → o ≡ Some p → AllFlat g h p
  pub steep : {p : ℕ} → o ≡ Some p → (p < 4) × (¬ (Flat (nth (get_or g p []) p) (nth h p)))

module _ (g : List (List ℤ)) (h : List ℤ) (i : ℕ) where
  pub flat-next : AllFlat g h i → Level (nth (get_or g i []) i) (nth h i) true → AllFlat g h (i + 1)
  flat-next f l j k = pick (dec_lt j i)
    where
      pick : Dec (j < i) → Flat (nth (get_or g j []) j) (nth h j)
      pick (yes e) = f j e
      pick (no e) =
          let same : i ≡ j = omega (arith, e) in
          subst (λ k. Flat (nth (get_or g k []) k) (nth h k)) same (l.yes refl)

  -- a place that is not level is one where more is left
  pub steep-here : i < 4 → Level (nth (get_or g i []) i) (nth h i) false → {p : ℕ} → Some i ≡ Some p → (p < 4) × (¬ (Flat (nth (get_or g p []) p) (nth h p)))
  steep-here k l {p} e = let same : i ≡ p = cc in subst (λ (p : ℕ). (p < 4) × (¬ (Flat (nth (get_or g p []) p) (nth h p)))) same (k, l.no refl)

  -- and the first one where all before it are flat
  pub steep-at : i < 4 → AllFlat g h i → Level (nth (get_or g i []) i) (nth h i) false → Steep g h (Some i)
  steep-at k f l = record {
    flat = λ e. absurd cc;
    first = λ {p} e. let same : i ≡ p = cc in subst (λ (p : ℕ). AllFlat g h p) same f;
    steep = steep-here k l;
  }

  pub steep-none : 4 ≤ i → AllFlat g h i → Steep g h None
  steep-none m f = record { flat = λ e j l. f j (omega arith); first = λ e. absurd cc; steep = λ e. absurd cc }

-- ---- the side

pub record Toward (p q : ℤ) : Type 0 where
  pub side : ((q ≡ pos 1) × (pos 0 <ℤ p)) ⊎ ((q ≡ negsuc 0) × (p ≤ℤ pos 0))

pub toward_unit : {p q : ℤ} → Toward p q → Within 1 q
toward_unit t = ⊎_elim (λ s. subst (Within 1) (sym s.0) (record { within = le_refl 1 })) (λ s. subst (Within 1) (sym s.0) (record { within = le_refl 1 })) t.side

-- as it is stored
pub stored : {p q : ℤ} → Toward p q → Toward p (to_z w64 (of_z w64 q))
stored {p} t = subst (Toward p) (sym (to_z-of_z {w = w64} (fits-within (toward_unit t) tt))) t
