-- Lists of integers compared from the first entry on as signed numbers: the order of the tie rule (document 01).
use Rattle.std.specs.Prelude.{Bool, true, false, List, [], ◌∷◌, ℤ}
use Rattle.std.specs.Int.Signed.{lt_z}

-- R1.8: is the first list below the second?
abbrev pub below : List ℤ → List ℤ → Bool
below [] l = false
below (x ∷ k) [] = false
below (x ∷ k) (y ∷ l) = elim (lt_z x y) [ true ↦ true | false ↦ elim (lt_z y x) [ true ↦ false | false ↦ below k l ] ]
