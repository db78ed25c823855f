-- The first n elements of a list, z where it has fewer.
use Rattle.std.specs.Prelude.{List, [], ◌∷◌, ℕ, zero, suc}

abbrev pub filled : {A : Type 0} → A → ℕ → List A → List A
filled z zero l = []
filled z (suc n) [] = z ∷ filled z n []
filled z (suc n) (x ∷ l) = x ∷ filled z n l
