-- The table of steps: the lists with entries 0, 1, −1, not all 0, each once: 26 of three entries, 8 of two, 2 of one.
-- Every list with such entries is in it or all zeros (`in_lists`), and only such lists are (`lists-are`).
use Rattle.std.specs.Prelude.{◌≡◌, refl, ◌⊎◌, ◌↔◌, List, [], ◌∷◌, ◌++◌, map, ℕ, zero, suc, ◌<◌, ℤ, pos, negsuc, length, get_or}
use Rattle.std.proofs.Common.{ap, inl, inr, arith}
use Rattle.std.proofs.Math.Logic.{⊎_map}
use Rattle.integers.specs.All.{All}
use Rattle.integers.specs.AllLaws.{all_imp}
use Rattle.integers.specs.Size.{Within}
use Rattle.lattices.specs.Vector.{Zero}
use Rattle.successive_minima.specs.Laws.Digits.{Bounded, bounded_cons, zero_cons}

-- the lists of s with a 0 before them, then those of t with a 1 and with a −1
abbrev pub fan : List (List ℤ) → List (List ℤ) → List (List ℤ)
fan s t = map (λ e. pos 0 ∷ e) s ++ (map (λ e. pos 1 ∷ e) t ++ map (λ e. negsuc 0 ∷ e) t)

-- all lists of n entries 0, 1, −1
abbrev pub grid : ℕ → List (List ℤ)
grid zero = [] ∷ []
grid (suc n) = fan (grid n) (grid n)

-- the same without the list of zeros
abbrev pub lists : ℕ → List (List ℤ)
lists zero = []
lists (suc n) = fan (lists n) (grid n)

-- ---- what holds of all lists of a table, by recursion and by places

all_of : (P : List ℤ → Type 0) (t : List (List ℤ)) → ((i : ℕ) → i < length t → P (get_or t i [])) → All P t
all_of P [] f = tt
all_of P (e ∷ t) f = (f 0 (omega arith), all_of P t (λ i h. f (suc i) (omega arith)))

all-at : (P : List ℤ → Type 0) (t : List (List ℤ)) → All P t → (i : ℕ) → i < length t → P (get_or t i [])
all-at P [] a i h = absurd (omega arith)
all-at P (e ∷ t) a zero h = a.0
all-at P (e ∷ t) a (suc i) h = all-at P t a.1 i (omega arith)

all-++ : (P : List ℤ → Type 0) (s t : List (List ℤ)) → All P (s ++ t) ↔ (All P s × All P t)
all-++ P [] t = (λ a. (tt, a), λ a. a.1)
all-++ P (e ∷ s) t =
    (λ a. ((a.0, ((all-++ P s t).0 a.1).0), ((all-++ P s t).0 a.1).1), λ a. (a.0.0, (all-++ P s t).1 (a.0.1, a.1)))

all_map : (P : List ℤ → Type 0) (f : List ℤ → List ℤ) (t : List (List ℤ)) → All P (map f t) ↔ All (λ e. P (f e)) t
all_map P f [] = (λ a. tt, λ a. tt)
all_map P f (e ∷ t) = (λ a. (a.0, (all_map P f t).0 a.1), λ a. (a.0, (all_map P f t).1 a.1))

record Fan (P : List ℤ → Type 0) (s t : List (List ℤ)) : Type 0 where
  none : All (λ e. P (pos 0 ∷ e)) s
  plus : All (λ e. P (pos 1 ∷ e)) t
  minus : All (λ e. P (negsuc 0 ∷ e)) t

module _ (P : List ℤ → Type 0) (s t : List (List ℤ)) where
  abbrev first : ℤ → List ℤ → List ℤ
  first x e = x ∷ e

  all-fan : All P (fan s t) → Fan P s t
  all-fan a =
      let p = (all-++ P (map (first (pos 0)) s) (map (first (pos 1)) t ++ map (first (negsuc 0)) t)).0 a in
      let q = (all-++ P (map (first (pos 1)) t) (map (first (negsuc 0)) t)).0 p.1 in
      record { none = (all_map P (first (pos 0)) s).0 p.0; plus = (all_map P (first (pos 1)) t).0 q.0; minus = (all_map P (first (negsuc 0)) t).0 q.1 }

  fan-all : Fan P s t → All P (fan s t)
  fan-all f = (all-++ P (map (first (pos 0)) s) (map (first (pos 1)) t ++ map (first (negsuc 0)) t)).1 (
    (all_map P (first (pos 0)) s).1 f.none,
    (all-++ P (map (first (pos 1)) t) (map (first (negsuc 0)) t)).1
        ((all_map P (first (pos 1)) t).1 f.plus, (all_map P (first (negsuc 0)) t).1 f.minus),
  )

-- ---- every list with entries 0, 1, −1 is in the table, unless it is the list of zeros

in_fan : (P Q : List ℤ → Type 0) (s t : List (List ℤ)) (x : ℤ) (e : List ℤ) → Within 1 x → Fan P s t
    → (All (λ e. P (pos 0 ∷ e)) s → Q (pos 0 ∷ e)) → ((x : ℤ) → All (λ e. P (x ∷ e)) t → Q (x ∷ e)) → Q (x ∷ e)
in_fan P Q s t (pos zero) e h a f g = f a.none
in_fan P Q s t (pos (suc zero)) e h a f g = g (pos 1) a.plus
in_fan P Q s t (pos (suc (suc n))) e h a f g = absurd (omega (arith, h.within))
in_fan P Q s t (negsuc zero) e h a f g = g (negsuc 0) a.minus
in_fan P Q s t (negsuc (suc n)) e h a f g = absurd (omega (arith, h.within))

in_grid : (P : List ℤ → Type 0) (n : ℕ) → All P (grid n) → (e : List ℤ) → length e ≡ n → Bounded 1 e → P e
in_grid P zero a [] l h = a.0
in_grid P zero a (x ∷ e) l h = absurd (omega arith)
in_grid P (suc n) a [] l h = absurd (omega arith)
in_grid P (suc n) a (x ∷ e) l h = in_fan P P (grid n) (grid n) x e (h 0) (all-fan P (grid n) (grid n) a)
    (λ b. in_grid (λ e. P (pos 0 ∷ e)) n b e (omega arith) (λ i. h (suc i)))
    (λ y b. in_grid (λ e. P (y ∷ e)) n b e (omega arith) (λ i. h (suc i)))

zero_or : (P : List ℤ → Type 0) (n : ℕ) → All P (lists n) → (e : List ℤ) → length e ≡ n → Bounded 1 e → P e ⊎ Zero e
zero_or P zero a [] l h = inr (λ i. refl)
zero_or P zero a (x ∷ e) l h = absurd (omega arith)
zero_or P (suc n) a [] l h = absurd (omega arith)
zero_or P (suc n) a (x ∷ e) l h = in_fan P (λ e. P e ⊎ Zero e) (lists n) (grid n) x e (h 0) (all-fan P (lists n) (grid n) a)
    (λ b. ⊎_map (λ p. p) (zero_cons e refl) (zero_or (λ e. P (pos 0 ∷ e)) n b e (omega arith) (λ i. h (suc i))))
    (λ y b. inl (in_grid (λ e. P (y ∷ e)) n b e (omega arith) (λ i. h (suc i))))

pub in_lists : (P : List ℤ → Type 0) (n : ℕ) → ((i : ℕ) → i < length (lists n) → P (get_or (lists n) i []))
    → (e : List ℤ) → length e ≡ n → Bounded 1 e → P e ⊎ Zero e
in_lists P n f = zero_or P n (all_of P (lists n) f)

-- ---- and only such lists are

pub record GridStep (n : ℕ) (e : List ℤ) : Type 0 where
  pub count : length e ≡ n
  pub bounded : Bounded 1 e

step_cons : {n : ℕ} (x : ℤ) → Within 1 x → (e : List ℤ) → GridStep n e → GridStep (suc n) (x ∷ e)
step_cons x h e s = record { count = ap suc s.count; bounded = bounded_cons e h s.bounded }

fan-steps : (n : ℕ) (s t : List (List ℤ)) → All (GridStep n) s → All (GridStep n) t → All (GridStep (suc n)) (fan s t)
fan-steps n s t a b = fan-all (GridStep (suc n)) s t (record { none = at (pos 0) (omega arith) s a; plus = at (pos 1) (omega arith) t b; minus = at (negsuc 0) (omega arith) t b })
  where
    at : (x : ℤ) → Within 1 x → (t : List (List ℤ)) → All (GridStep n) t → All (λ e. GridStep (suc n) (x ∷ e)) t
    at x h t c = all_imp (step_cons x h) t c

grid-steps : (n : ℕ) → All (GridStep n) (grid n)
grid-steps zero = (record { count = refl; bounded = λ i. record { within = omega arith } }, tt)
grid-steps (suc n) = fan-steps n (grid n) (grid n) (grid-steps n) (grid-steps n)

lists-steps : (n : ℕ) → All (GridStep n) (lists n)
lists-steps zero = tt
lists-steps (suc n) = fan-steps n (lists n) (grid n) (lists-steps n) (grid-steps n)

pub lists-are : (n i : ℕ) → i < length (lists n) → GridStep n (get_or (lists n) i [])
lists-are n = all-at (GridStep n) (lists n) (lists-steps n)

pub twenty_six : length (lists 3) ≡ 26
twenty_six = refl
