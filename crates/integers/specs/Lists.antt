-- Lists of integers added entry by entry; a shorter list counts as if zeros followed.
use Rattle.std.specs.Prelude.{List, [], ◌∷◌, ℕ, ℤ, pos, negsuc, ◌+ℤ◌, ◌*ℤ◌, get_or}

infixl 8 ◌⊕◌ ◌⊖◌
infixr 9 ◌⊙◌
-- entry i, 0 beyond the end
abbrev pub nth : List ℤ → ℕ → ℤ
nth l i = get_or l i (pos 0)

-- R1.1: sum
unfoldable pub ◌⊕◌ : List ℤ → List ℤ → List ℤ
[] ⊕ v = v
(x ∷ u) ⊕ [] = x ∷ u
(x ∷ u) ⊕ (y ∷ v) = (x +ℤ y) ∷ (u ⊕ v)

-- R1.1: multiple
unfoldable pub ◌⊙◌ : ℤ → List ℤ → List ℤ
k ⊙ [] = []
k ⊙ (x ∷ v) = (k *ℤ x) ∷ (k ⊙ v)

-- R1.1: difference
abbrev pub ◌⊖◌ : List ℤ → List ℤ → List ℤ
u ⊖ v = u ⊕ negsuc 0 ⊙ v
