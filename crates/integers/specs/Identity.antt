-- Identities of polynomials over ℤ in one line: `by_ring (a ∷ b ∷ []) (search reads) (search reads) tt`, where the list holds the atoms.
-- An atom is any term: a variable, a stuck call, a product. `search reads depth 20 fits 5000` reads an expression of any usual size.
use Rattle.std.specs.Prelude.{◌≡◌, refl, List, ◌∷◌, ℕ, T, ℤ, pos, negsuc, neg_ℤ, ◌+ℤ◌, ◌-ℤ◌, ◌*ℤ◌, get_or}
use Rattle.std.proofs.Common.{sym, ◌∙◌, ap, ap₂}
use Rattle.std.proofs.Math.IntN.{+ℤ_invr, *ℤ-zero}
use Rattle.integers.specs.Ring.{ -ℤ-zero}
use Rattle.integers.specs.Polynomial.{Expr, atom, const, ◌:+◌, ◌:-◌, ◌:*◌, opp, eval, norm, is_nil, norm-sound}

-- x is the value of an expression in the atoms ρ. `search` finds the expression, since the type shows the value
pub data Is (ρ : List ℤ) : ℤ → Type 0 where
  is_at : (i : ℕ) → Is ρ (get_or ρ i (pos 0))
  is_pos : (n : ℕ) → Is ρ (pos n)
  is-neg : (n : ℕ) → Is ρ (negsuc n)
  is-add : {x y : ℤ} → Is ρ x → Is ρ y → Is ρ (x +ℤ y)
  is-sub : {x y : ℤ} → Is ρ x → Is ρ y → Is ρ (x -ℤ y)
  is_mul : {x y : ℤ} → Is ρ x → Is ρ y → Is ρ (x *ℤ y)
  is-opp : {x : ℤ} → Is ρ x → Is ρ (neg_ℤ x)

abbrev pub tree : {ρ : List ℤ} {x : ℤ} → Is ρ x → Expr
tree (is_at i) = atom i
tree (is_pos n) = const (pos n)
tree (is-neg n) = const (negsuc n)
tree (is-add p q) = tree p :+ tree q
tree (is-sub p q) = tree p :- tree q
tree (is_mul p q) = tree p :* tree q
tree (is-opp p) = opp (tree p)

pub tree_is : {ρ : List ℤ} {x : ℤ} (p : Is ρ x) → eval ρ (tree p) ≡ x
tree_is (is_at i) = refl
tree_is (is_pos n) = refl
tree_is (is-neg n) = refl
tree_is (is-add p q) = ap₂ ◌+ℤ◌ (tree_is p) (tree_is q)
tree_is (is-sub p q) = ap₂ ◌-ℤ◌ (tree_is p) (tree_is q)
tree_is (is_mul p q) = ap₂ ◌*ℤ◌ (tree_is p) (tree_is q)
tree_is (is-opp p) = ap neg_ℤ (tree_is p)

-- ---- the atoms by their places: is_at with the entry computed, which is what `search` can match
abbrev pub at0 : {a : ℤ} {ρ : List ℤ} → Is (a ∷ ρ) a
at0 = is_at 0

abbrev pub at1 : {a b : ℤ} {ρ : List ℤ} → Is (a ∷ b ∷ ρ) b
at1 = is_at 1

abbrev pub at2 : {a b c : ℤ} {ρ : List ℤ} → Is (a ∷ b ∷ c ∷ ρ) c
at2 = is_at 2

abbrev pub at3 : {a b c d : ℤ} {ρ : List ℤ} → Is (a ∷ b ∷ c ∷ d ∷ ρ) d
at3 = is_at 3

abbrev pub at4 : {a b c d e : ℤ} {ρ : List ℤ} → Is (a ∷ b ∷ c ∷ d ∷ e ∷ ρ) e
at4 = is_at 4

abbrev pub at5 : {a b c d e f : ℤ} {ρ : List ℤ} → Is (a ∷ b ∷ c ∷ d ∷ e ∷ f ∷ ρ) f
at5 = is_at 5

abbrev pub at6 : {a b c d e f g : ℤ} {ρ : List ℤ} → Is (a ∷ b ∷ c ∷ d ∷ e ∷ f ∷ g ∷ ρ) g
at6 = is_at 6

abbrev pub at7 : {a b c d e f g h : ℤ} {ρ : List ℤ} → Is (a ∷ b ∷ c ∷ d ∷ e ∷ f ∷ g ∷ h ∷ ρ) h
at7 = is_at 7

abbrev pub at8 : {a b c d e f g h i : ℤ} {ρ : List ℤ} → Is (a ∷ b ∷ c ∷ d ∷ e ∷ f ∷ g ∷ h ∷ i ∷ ρ) i
at8 = is_at 8

abbrev pub at9 : {a b c d e f g h i j : ℤ} {ρ : List ℤ} → Is (a ∷ b ∷ c ∷ d ∷ e ∷ f ∷ g ∷ h ∷ i ∷ j ∷ ρ) j
at9 = is_at 9

abbrev pub at10 : {a b c d e f g h i j k : ℤ} {ρ : List ℤ} → Is (a ∷ b ∷ c ∷ d ∷ e ∷ f ∷ g ∷ h ∷ i ∷ j ∷ k ∷ ρ) k
at10 = is_at 10

abbrev pub at11 : {a b c d e f g h i j k l : ℤ} {ρ : List ℤ} → Is (a ∷ b ∷ c ∷ d ∷ e ∷ f ∷ g ∷ h ∷ i ∷ j ∷ k ∷ l ∷ ρ) l
at11 = is_at 11

abbrev pub at12 : {a b c d e f g h i j k l m : ℤ} {ρ : List ℤ} → Is (a ∷ b ∷ c ∷ d ∷ e ∷ f ∷ g ∷ h ∷ i ∷ j ∷ k ∷ l ∷ m ∷ ρ) m
at12 = is_at 12

abbrev pub at13 : {a b c d e f g h i j k l m n : ℤ} {ρ : List ℤ} → Is (a ∷ b ∷ c ∷ d ∷ e ∷ f ∷ g ∷ h ∷ i ∷ j ∷ k ∷ l ∷ m ∷ n ∷ ρ) n
at13 = is_at 13

abbrev pub at14 : {a b c d e f g h i j k l m n o : ℤ} {ρ : List ℤ} → Is (a ∷ b ∷ c ∷ d ∷ e ∷ f ∷ g ∷ h ∷ i ∷ j ∷ k ∷ l ∷ m ∷ n ∷ o ∷ ρ) o
at14 = is_at 14

abbrev pub at15 : {a b c d e f g h i j k l m n o p : ℤ} {ρ : List ℤ} → Is (a ∷ b ∷ c ∷ d ∷ e ∷ f ∷ g ∷ h ∷ i ∷ j ∷ k ∷ l ∷ m ∷ n ∷ o ∷ p ∷ ρ) p
at15 = is_at 15

pub ruleset reads = (at0, at1, at2, at3, at4, at5, at6, at7, at8, at9, at10, at11, at12, at13, at14, at15, is_pos, is-neg, is-add, is-sub, is_mul, is-opp)

-- ---- the two ways to conclude
pub by_ring : (ρ : List ℤ) {x y : ℤ} (p : Is ρ x) (q : Is ρ y) → T (is_nil (norm (tree p :- tree q))) → x ≡ y
by_ring ρ p q t = sym (tree_is p) ∙ norm-sound ρ (tree p) (tree q) t ∙ tree_is q

-- from the equation l ≡ r, where x − y = c · (l − r)
pub by-eq : (ρ : List ℤ) (c : ℤ) {l r x y : ℤ} → l ≡ r → (p : Is ρ (x -ℤ y)) (q : Is ρ (c *ℤ (l -ℤ r))) → T (is_nil (norm (tree p :- tree q))) → x ≡ y
by-eq ρ c {l} {r} {x} {y} h p q t =
    -ℤ-zero x y (by_ring ρ p q t ∙ ap (λ z. c *ℤ (z -ℤ r)) h ∙ ap (λ z. c *ℤ z) (+ℤ_invr r) ∙ *ℤ-zero c)
