-- Permutations of a list, by exchanges of neighbours.
use Rattle.std.specs.Prelude.{◌≡◌, refl, List, [], ◌∷◌, ◌++◌, map, suc, length}
use Rattle.std.proofs.Common.{ap, ◌∙◌}

pub data Perm {A : Type 0} : List A → List A → Type 0 where
  same : (l : List A) → Perm l l
  skip : (x : A) {k l : List A} → Perm k l → Perm (x ∷ k) (x ∷ l)
  swap : (x y : A) (l : List A) → Perm (x ∷ y ∷ l) (y ∷ x ∷ l)
  then : {k l m : List A} → Perm k l → Perm l m → Perm k m

pub perm_map : {A B : Type 0} (f : A → B) {k l : List A} → Perm k l → Perm (map f k) (map f l)
perm_map f (same l) = same (map f l)
perm_map f (skip x p) = skip (f x) (perm_map f p)
perm_map f (swap x y l) = swap (f x) (f y) (map f l)
perm_map f (then p q) = then (perm_map f p) (perm_map f q)

pub perm_append : {A : Type 0} {k l : List A} → Perm k l → (m : List A) → Perm (k ++ m) (l ++ m)
perm_append (same l) m = same (l ++ m)
perm_append (skip x p) m = skip x (perm_append p m)
perm_append (swap x y l) m = swap x y (l ++ m)
perm_append (then p q) m = then (perm_append p m) (perm_append q m)

-- the last element comes to the front
pub perm_last : {A : Type 0} (l : List A) (x : A) → Perm (l ++ (x ∷ [])) (x ∷ l)
perm_last [] x = same (x ∷ [])
perm_last (y ∷ l) x = then (skip y (perm_last l x)) (swap y x l)

pub perm_length : {A : Type 0} {k l : List A} → Perm k l → length k ≡ length l
perm_length (same l) = refl
perm_length (skip x p) = ap suc (perm_length p)
perm_length (swap x y l) = refl
perm_length (then p q) = perm_length p ∙ perm_length q
