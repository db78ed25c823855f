-- The test of a list of the table and its opposite by two numbers: the square of the list (what its vector's squared length is) and its sum
-- (twice its vector's inner product with the residual). The list improves where the square is below the sum, its opposite where the sum is at
-- most the square with the other sign: at equality the first is not below the list of zeros, and its opposite is.
use Rattle.std.specs.Prelude.{◌≡◌, refl, true, false, ℕ, zero, suc, ◌+◌, ◌*◌, ◌<◌, ◌+ℤ◌, ◌-ℤ◌, ◌*ℤ◌, length, get_or, ◌≤ℤ◌, ◌<ℤ◌}
use Rattle.std.proofs.Common.{sym, ◌∙◌, subst, arith}
use Rattle.std.proofs.Math.Path.{ap, ap₂}
use Rattle.std.proofs.Math.Logic.{⊎_elim}
use mathlib.Core.List.{List, [], ◌∷◌}
use Rattle.std.proofs.Math.IntN.{ℤ, pos, negsuc, neg_ℤ, *ℤ-zero}
use Rattle.integers.specs.Identity.{by_ring, reads}
use Rattle.integers.specs.Order.{≤ℤ-or-<ℤ, ≤ℤ_antisymm}
use Rattle.integers.specs.Certificate.{le, lt, by_nn, by-lt}
use Rattle.integers.specs.Lex.{below-<, below->, below-≡}
use Rattle.lattices.specs.Vector.{nth, dot, comb, ◌⊙◌}
use Rattle.lattices.specs.Laws.Vector.{≈_refl, ≈-dot, bilinear, dot-⊙ʳ, comb-⊙}
use Rattle.successive_minima.specs.Laws.Digits.{zeros}
use Rattle.nearest_steps.specs.Numbers.{gain_of, negative, improves_of}
use Rattle.nearest_steps.specs.Link.{column, nth-column, nth-comb}
use Rattle.nearest_steps.specs.Steps.{steps, steps-long, opposite-at}

-- a·x² + b·xy + c·xz + d·y² + e·yz + f·z², and a·x + b·y + c·z
abbrev pub square : ℤ → ℤ → ℤ → ℤ → ℤ → ℤ → List ℤ → ℤ
square a b c d e f l =
    nth l 0 *ℤ nth l 0 *ℤ a +ℤ nth l 0 *ℤ nth l 1 *ℤ b +ℤ nth l 0 *ℤ nth l 2 *ℤ c +ℤ nth l 1 *ℤ nth l 1 *ℤ d +ℤ nth l 1 *ℤ nth l 2 *ℤ e +ℤ nth l 2 *ℤ nth l 2 *ℤ f

abbrev pub sum : ℤ → ℤ → ℤ → List ℤ → ℤ
sum a b c l = nth l 0 *ℤ a +ℤ nth l 1 *ℤ b +ℤ nth l 2 *ℤ c

-- the squares and the sums of the first lists of the pairs, by additions alone
abbrev pub squares_of : ℤ → ℤ → ℤ → ℤ → ℤ → ℤ → List ℤ
squares_of a b c d e f =
    a ∷ d ∷ (a +ℤ d +ℤ b) ∷ (a +ℤ d -ℤ b) ∷ f ∷ (a +ℤ f +ℤ c) ∷ (a +ℤ f -ℤ c) ∷ (d +ℤ f +ℤ e) ∷ (d +ℤ f -ℤ e)
    ∷ (a +ℤ d +ℤ f +ℤ b +ℤ (c +ℤ e)) ∷ (a +ℤ d +ℤ f +ℤ b -ℤ (c +ℤ e)) ∷ (a +ℤ d +ℤ f -ℤ b +ℤ (c -ℤ e)) ∷ (a +ℤ d +ℤ f -ℤ b -ℤ (c -ℤ e)) ∷ []

abbrev pub sums_of : ℤ → ℤ → ℤ → List ℤ
sums_of a b c =
    a ∷ b ∷ (a +ℤ b) ∷ (a -ℤ b) ∷ c ∷ (a +ℤ c) ∷ (a -ℤ c) ∷ (b +ℤ c) ∷ (b -ℤ c) ∷ (a +ℤ b +ℤ c) ∷ (a +ℤ b -ℤ c) ∷ (a -ℤ b +ℤ c) ∷ (a -ℤ b -ℤ c) ∷ []

thirteen : (P : ℕ → Type 0) → P 0 → P 1 → P 2 → P 3 → P 4 → P 5 → P 6 → P 7 → P 8 → P 9 → P 10 → P 11 → P 12 → (i : ℕ) → i < 13 → P i
thirteen P a b c d e f g h i j k l m zero q = a
thirteen P a b c d e f g h i j k l m (suc zero) q = b
thirteen P a b c d e f g h i j k l m (suc (suc zero)) q = c
thirteen P a b c d e f g h i j k l m (suc (suc (suc zero))) q = d
thirteen P a b c d e f g h i j k l m (suc (suc (suc (suc zero)))) q = e
thirteen P a b c d e f g h i j k l m (suc (suc (suc (suc (suc zero))))) q = f
thirteen P a b c d e f g h i j k l m (suc (suc (suc (suc (suc (suc zero)))))) q = g
thirteen P a b c d e f g h i j k l m (suc (suc (suc (suc (suc (suc (suc zero))))))) q = h
thirteen P a b c d e f g h i j k l m (suc (suc (suc (suc (suc (suc (suc (suc zero)))))))) q = i
thirteen P a b c d e f g h i j k l m (suc (suc (suc (suc (suc (suc (suc (suc (suc zero))))))))) q = j
thirteen P a b c d e f g h i j k l m (suc (suc (suc (suc (suc (suc (suc (suc (suc (suc zero)))))))))) q = k
thirteen P a b c d e f g h i j k l m (suc (suc (suc (suc (suc (suc (suc (suc (suc (suc (suc zero))))))))))) q = l
thirteen P a b c d e f g h i j k l m (suc (suc (suc (suc (suc (suc (suc (suc (suc (suc (suc (suc zero)))))))))))) q = m
thirteen P a b c d e f g h i j k l m (suc (suc (suc (suc (suc (suc (suc (suc (suc (suc (suc (suc (suc n))))))))))))) q = absurd (omega arith)

squares-are : (a b c d e f : ℤ) (i : ℕ) → i < 13 → nth (squares_of a b c d e f) i ≡ square a b c d e f (get_or steps (2 * i) [])
unfolding steps
squares-are a b c d e f = thirteen (λ i. nth (squares_of a b c d e f) i ≡ square a b c d e f (get_or steps (2 * i) [])) ring0 ring1 ring2 ring3 ring4 ring5 ring6 ring7 ring8 ring9 ring10 ring11 ring12
  where
    ring0 : a ≡ pos 1 *ℤ a +ℤ pos 0 *ℤ b +ℤ pos 0 *ℤ c +ℤ pos 0 *ℤ d +ℤ pos 0 *ℤ e +ℤ pos 0 *ℤ f
    ring0 = by_ring (a ∷ b ∷ c ∷ d ∷ e ∷ f ∷ []) (search reads depth 20) (search reads depth 20) tt

    ring1 : d ≡ pos 0 *ℤ a +ℤ pos 0 *ℤ b +ℤ pos 0 *ℤ c +ℤ pos 1 *ℤ d +ℤ pos 0 *ℤ e +ℤ pos 0 *ℤ f
    ring1 = by_ring (a ∷ b ∷ c ∷ d ∷ e ∷ f ∷ []) (search reads depth 20) (search reads depth 20) tt

    ring2 : a +ℤ d +ℤ b ≡ pos 1 *ℤ a +ℤ pos 1 *ℤ b +ℤ pos 0 *ℤ c +ℤ pos 1 *ℤ d +ℤ pos 0 *ℤ e +ℤ pos 0 *ℤ f
    ring2 = by_ring (a ∷ b ∷ c ∷ d ∷ e ∷ f ∷ []) (search reads depth 20) (search reads depth 20) tt

    ring3 : a +ℤ d -ℤ b ≡ pos 1 *ℤ a +ℤ negsuc 0 *ℤ b +ℤ pos 0 *ℤ c +ℤ pos 1 *ℤ d +ℤ pos 0 *ℤ e +ℤ pos 0 *ℤ f
    ring3 = by_ring (a ∷ b ∷ c ∷ d ∷ e ∷ f ∷ []) (search reads depth 20) (search reads depth 20) tt

    ring4 : f ≡ pos 0 *ℤ a +ℤ pos 0 *ℤ b +ℤ pos 0 *ℤ c +ℤ pos 0 *ℤ d +ℤ pos 0 *ℤ e +ℤ pos 1 *ℤ f
    ring4 = by_ring (a ∷ b ∷ c ∷ d ∷ e ∷ f ∷ []) (search reads depth 20) (search reads depth 20) tt

    ring5 : a +ℤ f +ℤ c ≡ pos 1 *ℤ a +ℤ pos 0 *ℤ b +ℤ pos 1 *ℤ c +ℤ pos 0 *ℤ d +ℤ pos 0 *ℤ e +ℤ pos 1 *ℤ f
    ring5 = by_ring (a ∷ b ∷ c ∷ d ∷ e ∷ f ∷ []) (search reads depth 20) (search reads depth 20) tt

    ring6 : a +ℤ f -ℤ c ≡ pos 1 *ℤ a +ℤ pos 0 *ℤ b +ℤ negsuc 0 *ℤ c +ℤ pos 0 *ℤ d +ℤ pos 0 *ℤ e +ℤ pos 1 *ℤ f
    ring6 = by_ring (a ∷ b ∷ c ∷ d ∷ e ∷ f ∷ []) (search reads depth 20) (search reads depth 20) tt

    ring7 : d +ℤ f +ℤ e ≡ pos 0 *ℤ a +ℤ pos 0 *ℤ b +ℤ pos 0 *ℤ c +ℤ pos 1 *ℤ d +ℤ pos 1 *ℤ e +ℤ pos 1 *ℤ f
    ring7 = by_ring (a ∷ b ∷ c ∷ d ∷ e ∷ f ∷ []) (search reads depth 20) (search reads depth 20) tt

    ring8 : d +ℤ f -ℤ e ≡ pos 0 *ℤ a +ℤ pos 0 *ℤ b +ℤ pos 0 *ℤ c +ℤ pos 1 *ℤ d +ℤ negsuc 0 *ℤ e +ℤ pos 1 *ℤ f
    ring8 = by_ring (a ∷ b ∷ c ∷ d ∷ e ∷ f ∷ []) (search reads depth 20) (search reads depth 20) tt

    ring9 : a +ℤ d +ℤ f +ℤ b +ℤ (c +ℤ e) ≡ pos 1 *ℤ a +ℤ pos 1 *ℤ b +ℤ pos 1 *ℤ c +ℤ pos 1 *ℤ d +ℤ pos 1 *ℤ e +ℤ pos 1 *ℤ f
    ring9 = by_ring (a ∷ b ∷ c ∷ d ∷ e ∷ f ∷ []) (search reads depth 20) (search reads depth 20) tt

    ring10 : a +ℤ d +ℤ f +ℤ b -ℤ (c +ℤ e) ≡ pos 1 *ℤ a +ℤ pos 1 *ℤ b +ℤ negsuc 0 *ℤ c +ℤ pos 1 *ℤ d +ℤ negsuc 0 *ℤ e +ℤ pos 1 *ℤ f
    ring10 = by_ring (a ∷ b ∷ c ∷ d ∷ e ∷ f ∷ []) (search reads depth 20) (search reads depth 20) tt

    ring11 : a +ℤ d +ℤ f -ℤ b +ℤ (c -ℤ e) ≡ pos 1 *ℤ a +ℤ negsuc 0 *ℤ b +ℤ pos 1 *ℤ c +ℤ pos 1 *ℤ d +ℤ negsuc 0 *ℤ e +ℤ pos 1 *ℤ f
    ring11 = by_ring (a ∷ b ∷ c ∷ d ∷ e ∷ f ∷ []) (search reads depth 20) (search reads depth 20) tt

    ring12 : a +ℤ d +ℤ f -ℤ b -ℤ (c -ℤ e) ≡ pos 1 *ℤ a +ℤ negsuc 0 *ℤ b +ℤ negsuc 0 *ℤ c +ℤ pos 1 *ℤ d +ℤ pos 1 *ℤ e +ℤ pos 1 *ℤ f
    ring12 = by_ring (a ∷ b ∷ c ∷ d ∷ e ∷ f ∷ []) (search reads depth 20) (search reads depth 20) tt

sums-are : (a b c : ℤ) (i : ℕ) → i < 13 → nth (sums_of a b c) i ≡ sum a b c (get_or steps (2 * i) [])
unfolding steps
sums-are a b c = thirteen (λ i. nth (sums_of a b c) i ≡ sum a b c (get_or steps (2 * i) [])) ring0 ring1 ring2 ring3 ring4 ring5 ring6 ring7 ring8 ring9 ring10 ring11 ring12
  where
    ring0 : a ≡ pos 1 *ℤ a +ℤ pos 0 *ℤ b +ℤ pos 0 *ℤ c
    ring0 = by_ring (a ∷ b ∷ c ∷ []) (search reads depth 20) (search reads depth 20) tt

    ring1 : b ≡ pos 0 *ℤ a +ℤ pos 1 *ℤ b +ℤ pos 0 *ℤ c
    ring1 = by_ring (a ∷ b ∷ c ∷ []) (search reads depth 20) (search reads depth 20) tt

    ring2 : a +ℤ b ≡ pos 1 *ℤ a +ℤ pos 1 *ℤ b +ℤ pos 0 *ℤ c
    ring2 = by_ring (a ∷ b ∷ c ∷ []) (search reads depth 20) (search reads depth 20) tt

    ring3 : a -ℤ b ≡ pos 1 *ℤ a +ℤ negsuc 0 *ℤ b +ℤ pos 0 *ℤ c
    ring3 = by_ring (a ∷ b ∷ c ∷ []) (search reads depth 20) (search reads depth 20) tt

    ring4 : c ≡ pos 0 *ℤ a +ℤ pos 0 *ℤ b +ℤ pos 1 *ℤ c
    ring4 = by_ring (a ∷ b ∷ c ∷ []) (search reads depth 20) (search reads depth 20) tt

    ring5 : a +ℤ c ≡ pos 1 *ℤ a +ℤ pos 0 *ℤ b +ℤ pos 1 *ℤ c
    ring5 = by_ring (a ∷ b ∷ c ∷ []) (search reads depth 20) (search reads depth 20) tt

    ring6 : a -ℤ c ≡ pos 1 *ℤ a +ℤ pos 0 *ℤ b +ℤ negsuc 0 *ℤ c
    ring6 = by_ring (a ∷ b ∷ c ∷ []) (search reads depth 20) (search reads depth 20) tt

    ring7 : b +ℤ c ≡ pos 0 *ℤ a +ℤ pos 1 *ℤ b +ℤ pos 1 *ℤ c
    ring7 = by_ring (a ∷ b ∷ c ∷ []) (search reads depth 20) (search reads depth 20) tt

    ring8 : b -ℤ c ≡ pos 0 *ℤ a +ℤ pos 1 *ℤ b +ℤ negsuc 0 *ℤ c
    ring8 = by_ring (a ∷ b ∷ c ∷ []) (search reads depth 20) (search reads depth 20) tt

    ring9 : a +ℤ b +ℤ c ≡ pos 1 *ℤ a +ℤ pos 1 *ℤ b +ℤ pos 1 *ℤ c
    ring9 = by_ring (a ∷ b ∷ c ∷ []) (search reads depth 20) (search reads depth 20) tt

    ring10 : a +ℤ b -ℤ c ≡ pos 1 *ℤ a +ℤ pos 1 *ℤ b +ℤ negsuc 0 *ℤ c
    ring10 = by_ring (a ∷ b ∷ c ∷ []) (search reads depth 20) (search reads depth 20) tt

    ring11 : a -ℤ b +ℤ c ≡ pos 1 *ℤ a +ℤ negsuc 0 *ℤ b +ℤ pos 1 *ℤ c
    ring11 = by_ring (a ∷ b ∷ c ∷ []) (search reads depth 20) (search reads depth 20) tt

    ring12 : a -ℤ b -ℤ c ≡ pos 1 *ℤ a +ℤ negsuc 0 *ℤ b +ℤ negsuc 0 *ℤ c
    ring12 = by_ring (a ∷ b ∷ c ∷ []) (search reads depth 20) (search reads depth 20) tt

-- the first of a pair is not below the list of zeros, its opposite is
first-sign : (i : ℕ) → i < 13 → negative (get_or steps (2 * i) []) ≡ false
unfolding steps ◌⊙◌
first-sign = thirteen (λ i. negative (get_or steps (2 * i) []) ≡ false) refl refl refl refl refl refl refl refl refl refl refl refl refl

opposite-sign : (i : ℕ) → i < 13 → negative (get_or steps (2 * i + 1) []) ≡ true
unfolding steps ◌⊙◌
opposite-sign = thirteen (λ i. negative (get_or steps (2 * i + 1) []) ≡ true) refl refl refl refl refl refl refl refl refl refl refl refl refl

-- ---- what a list changes

dot-three : (x y z : ℤ) (v : List ℤ) → dot (x ∷ y ∷ z ∷ []) v ≡ x *ℤ nth v 0 +ℤ y *ℤ nth v 1 +ℤ z *ℤ nth v 2
unfolding dot
dot-three x y z [] = sym (ap₂ (λ a b. a +ℤ b +ℤ z *ℤ pos 0) (*ℤ-zero x) (*ℤ-zero y) ∙ ap (λ c. pos 0 +ℤ pos 0 +ℤ c) (*ℤ-zero z))
dot-three x y z (a ∷ []) = by_ring (x ∷ y ∷ z ∷ a ∷ []) (search reads depth 8) (search reads depth 8) tt
dot-three x y z (a ∷ b ∷ []) = by_ring (x ∷ y ∷ z ∷ a ∷ b ∷ []) (search reads depth 8) (search reads depth 8) tt
dot-three x y z (a ∷ b ∷ c ∷ v) = by_ring (x ∷ y ∷ z ∷ a ∷ b ∷ c ∷ []) (search reads depth 8) (search reads depth 8) tt

-- the numbers of the table's lists
abbrev pub squares_in : List (List ℤ) → List ℤ
squares_in g = squares_of (nth (get_or g 0 []) 0) (pos 2 *ℤ nth (get_or g 0 []) 1) (pos 2 *ℤ nth (get_or g 0 []) 2) (nth (get_or g 1 []) 1) (pos 2 *ℤ nth (get_or g 1 []) 2) (nth (get_or g 2 []) 2)

abbrev pub sums_in : List ℤ → List ℤ
sums_in r = sums_of (pos 2 *ℤ nth r 0) (pos 2 *ℤ nth r 1) (pos 2 *ℤ nth r 2)

module _ (g : List (List ℤ)) (r : List ℤ) (mirror : (i j : ℕ) → nth (get_or g i []) j ≡ nth (get_or g j []) i) where
  abbrev at : ℕ → ℕ → ℤ
  at i j = nth (get_or g i []) j

  gain-three : (x y z : ℤ) → gain_of g r (x ∷ y ∷ z ∷ [])
      ≡ square (at 0 0) (pos 2 *ℤ at 0 1) (pos 2 *ℤ at 0 2) (at 1 1) (pos 2 *ℤ at 1 2) (at 2 2) (x ∷ y ∷ z ∷ []) -ℤ sum (pos 2 *ℤ nth r 0) (pos 2 *ℤ nth r 1) (pos 2 *ℤ nth r 2) (x ∷ y ∷ z ∷ [])
  unfolding gain_of
  gain-three x y z =
      ap₂ (λ a b. a -ℤ pos 2 *ℤ b) (dot-three x y z (comb e g)) (dot-three x y z r)
      ∙ ap₂ (λ a b. x *ℤ a +ℤ y *ℤ b +ℤ z *ℤ nth (comb e g) 2 -ℤ pos 2 *ℤ rest) (entry 0) (entry 1)
      ∙ ap (λ c. x *ℤ (x *ℤ at 0 0 +ℤ y *ℤ at 1 0 +ℤ z *ℤ at 2 0) +ℤ y *ℤ (x *ℤ at 0 1 +ℤ y *ℤ at 1 1 +ℤ z *ℤ at 2 1) +ℤ z *ℤ c -ℤ pos 2 *ℤ rest) (entry 2)
      ∙ rw (mirror 1 0, mirror 2 0, mirror 2 1) (law (at 0 0) (at 0 1) (at 0 2) (at 1 1) (at 1 2) (at 2 2) (nth r 0) (nth r 1) (nth r 2))
    where
      e : List ℤ
      e = x ∷ y ∷ z ∷ []

      rest : ℤ
      rest = x *ℤ nth r 0 +ℤ y *ℤ nth r 1 +ℤ z *ℤ nth r 2

      entry : (j : ℕ) → nth (comb e g) j ≡ x *ℤ at 0 j +ℤ y *ℤ at 1 j +ℤ z *ℤ at 2 j
      entry j = nth-comb e g j ∙ dot-three x y z (column j g) ∙ ap₂ (λ a b. x *ℤ a +ℤ y *ℤ b +ℤ z *ℤ nth (column j g) 2) (nth-column j g 0) (nth-column j g 1)
          ∙ ap (λ c. x *ℤ at 0 j +ℤ y *ℤ at 1 j +ℤ z *ℤ c) (nth-column j g 2)

      law : (a b c d f h p q s : ℤ) → x *ℤ (x *ℤ a +ℤ y *ℤ b +ℤ z *ℤ c) +ℤ y *ℤ (x *ℤ b +ℤ y *ℤ d +ℤ z *ℤ f) +ℤ z *ℤ (x *ℤ c +ℤ y *ℤ f +ℤ z *ℤ h) -ℤ pos 2 *ℤ (x *ℤ p +ℤ y *ℤ q +ℤ z *ℤ s)
          ≡ x *ℤ x *ℤ a +ℤ x *ℤ y *ℤ (pos 2 *ℤ b) +ℤ x *ℤ z *ℤ (pos 2 *ℤ c) +ℤ y *ℤ y *ℤ d +ℤ y *ℤ z *ℤ (pos 2 *ℤ f) +ℤ z *ℤ z *ℤ h -ℤ (x *ℤ (pos 2 *ℤ p) +ℤ y *ℤ (pos 2 *ℤ q) +ℤ z *ℤ (pos 2 *ℤ s))
      law a b c d f h p q s = by_ring (a ∷ b ∷ c ∷ d ∷ f ∷ h ∷ p ∷ q ∷ s ∷ x ∷ y ∷ z ∷ []) (search reads depth 20 fits 5000) (search reads depth 20 fits 5000) tt

  gain-list : (l : List ℤ) → length l ≡ 3 → gain_of g r l
      ≡ square (at 0 0) (pos 2 *ℤ at 0 1) (pos 2 *ℤ at 0 2) (at 1 1) (pos 2 *ℤ at 1 2) (at 2 2) l -ℤ sum (pos 2 *ℤ nth r 0) (pos 2 *ℤ nth r 1) (pos 2 *ℤ nth r 2) l
  gain-list (x ∷ y ∷ z ∷ []) h = gain-three x y z
  gain-list [] h = absurd (omega arith)
  gain-list (x ∷ []) h = absurd (omega arith)
  gain-list (x ∷ y ∷ []) h = absurd (omega arith)
  gain-list (x ∷ y ∷ z ∷ w ∷ l) h = absurd (omega arith)

  module _ (i : ℕ) (h : i < 13) where
    first-gain : gain_of g r (get_or steps (2 * i) []) ≡ nth (squares_in g) i -ℤ nth (sums_in r) i
    first-gain = gain-list (get_or steps (2 * i) []) (steps-long (2 * i) (omega arith))
        ∙ sym (ap₂ ◌-ℤ◌ (squares-are (at 0 0) (pos 2 *ℤ at 0 1) (pos 2 *ℤ at 0 2) (at 1 1) (pos 2 *ℤ at 1 2) (at 2 2) i h) (sums-are (pos 2 *ℤ nth r 0) (pos 2 *ℤ nth r 1) (pos 2 *ℤ nth r 2) i h))

    opposite-gain : gain_of g r (get_or steps (2 * i + 1) []) ≡ nth (squares_in g) i +ℤ nth (sums_in r) i
    unfolding gain_of
    opposite-gain = ap (gain_of g r) (opposite-at i h) ∙ turned (get_or steps (2 * i) []) ∙ ap (λ n. n +ℤ pos 2 *ℤ (pos 2 *ℤ dot (get_or steps (2 * i) []) r)) first-gain ∙ twice
      where
        turned : (e : List ℤ) → gain_of g r (negsuc 0 ⊙ e) ≡ gain_of g r e +ℤ pos 2 *ℤ (pos 2 *ℤ dot e r)
        turned e = simp (bilinear, flipped) (by_ring (dot e (comb e g) ∷ dot e r ∷ []) (search reads depth 20) (search reads depth 20) tt)
          where
            flipped : dot e (comb (negsuc 0 ⊙ e) g) ≡ negsuc 0 *ℤ dot e (comb e g)
            flipped = ≈-dot (≈_refl {u = e}) (comb-⊙ (negsuc 0) e g) ∙ dot-⊙ʳ (negsuc 0) (comb e g) e

        doubled : (l : List ℤ) → length l ≡ 3 → pos 2 *ℤ dot l r ≡ sum (pos 2 *ℤ nth r 0) (pos 2 *ℤ nth r 1) (pos 2 *ℤ nth r 2) l
        doubled (x ∷ y ∷ z ∷ []) h = ap (λ s. pos 2 *ℤ s) (dot-three x y z r) ∙ by_ring (x ∷ y ∷ z ∷ nth r 0 ∷ nth r 1 ∷ nth r 2 ∷ []) (search reads depth 20) (search reads depth 20) tt
        doubled [] h = absurd (omega arith)
        doubled (x ∷ []) h = absurd (omega arith)
        doubled (x ∷ y ∷ []) h = absurd (omega arith)
        doubled (x ∷ y ∷ z ∷ w ∷ l) h = absurd (omega arith)

        twice : nth (squares_in g) i -ℤ nth (sums_in r) i +ℤ pos 2 *ℤ (pos 2 *ℤ dot (get_or steps (2 * i) []) r) ≡ nth (squares_in g) i +ℤ nth (sums_in r) i
        twice = ap (λ s. nth (squares_in g) i -ℤ nth (sums_in r) i +ℤ pos 2 *ℤ s) (doubled (get_or steps (2 * i) []) (steps-long (2 * i) (omega arith)) ∙ sym (sums-are (pos 2 *ℤ nth r 0) (pos 2 *ℤ nth r 1) (pos 2 *ℤ nth r 2) i h))
            ∙ law (nth (squares_in g) i) (nth (sums_in r) i)
          where
            law : (q s : ℤ) → q -ℤ s +ℤ pos 2 *ℤ s ≡ q +ℤ s
            law q s = by_ring (q ∷ s ∷ []) (search reads depth 8) (search reads depth 8) tt

    pub first-improves : nth (squares_in g) i <ℤ nth (sums_in r) i → improves_of g r (get_or steps (2 * i) []) ≡ true
    unfolding improves_of
    first-improves l = below-< (get_or steps (2 * i) []) (zeros (get_or steps (2 * i) [])) (subst (λ n. n <ℤ pos 0) (sym first-gain) (law (nth (squares_in g) i) (nth (sums_in r) i) l))
      where
        law : (q s : ℤ) → q <ℤ s → (q -ℤ s) <ℤ pos 0
        law q s l = by-lt (q ∷ s ∷ []) (lt l) (search reads) (search reads) tt

    pub first-not : nth (sums_in r) i ≤ℤ nth (squares_in g) i → improves_of g r (get_or steps (2 * i) []) ≡ false
    unfolding improves_of
    first-not l = ⊎_elim
        (λ (o : gain_of g r (get_or steps (2 * i) []) ≤ℤ pos 0). below-≡ {x = gain_of g r (get_or steps (2 * i) [])} {y = pos 0} (get_or steps (2 * i) []) (zeros (get_or steps (2 * i) [])) (≤ℤ_antisymm o nonneg) ∙ first-sign i h)
        (λ (o : pos 0 <ℤ gain_of g r (get_or steps (2 * i) [])). below-> (get_or steps (2 * i) []) (zeros (get_or steps (2 * i) [])) o) (≤ℤ-or-<ℤ (gain_of g r (get_or steps (2 * i) [])) (pos 0))
      where
        law : (q s : ℤ) → s ≤ℤ q → pos 0 ≤ℤ (q -ℤ s)
        law q s l = by_nn (q ∷ s ∷ []) (le l) (search reads) (search reads) tt

        nonneg : pos 0 ≤ℤ gain_of g r (get_or steps (2 * i) [])
        nonneg = subst (λ n. pos 0 ≤ℤ n) (sym first-gain) (law (nth (squares_in g) i) (nth (sums_in r) i) l)

    pub opposite-improves : nth (sums_in r) i ≤ℤ neg_ℤ (nth (squares_in g) i) → improves_of g r (get_or steps (2 * i + 1) []) ≡ true
    unfolding improves_of
    opposite-improves l = ⊎_elim
        (λ (o : pos 0 ≤ℤ gain_of g r (get_or steps (2 * i + 1) [])). below-≡ {x = gain_of g r (get_or steps (2 * i + 1) [])} {y = pos 0} (get_or steps (2 * i + 1) []) (zeros (get_or steps (2 * i + 1) [])) (≤ℤ_antisymm low o) ∙ opposite-sign i h)
        (λ (o : gain_of g r (get_or steps (2 * i + 1) []) <ℤ pos 0). below-< (get_or steps (2 * i + 1) []) (zeros (get_or steps (2 * i + 1) [])) o) (≤ℤ-or-<ℤ (pos 0) (gain_of g r (get_or steps (2 * i + 1) [])))
      where
        law : (q s : ℤ) → s ≤ℤ neg_ℤ q → (q +ℤ s) ≤ℤ pos 0
        law q s l = by_nn (q ∷ s ∷ []) (le l) (search reads) (search reads) tt

        low : gain_of g r (get_or steps (2 * i + 1) []) ≤ℤ pos 0
        low = subst (λ n. n ≤ℤ pos 0) (sym opposite-gain) (law (nth (squares_in g) i) (nth (sums_in r) i) l)

    pub opposite-not : neg_ℤ (nth (squares_in g) i) <ℤ nth (sums_in r) i → improves_of g r (get_or steps (2 * i + 1) []) ≡ false
    unfolding improves_of
    opposite-not l = below-> (get_or steps (2 * i + 1) []) (zeros (get_or steps (2 * i + 1) [])) (subst (λ n. pos 0 <ℤ n) (sym opposite-gain) (law (nth (squares_in g) i) (nth (sums_in r) i) l))
      where
        law : (q s : ℤ) → neg_ℤ q <ℤ s → pos 0 <ℤ (q +ℤ s)
        law q s l = by-lt (q ∷ s ∷ []) (lt l) (search reads) (search reads) tt
