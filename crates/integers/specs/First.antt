-- The first that a function gives, element by element.
use Rattle.std.specs.Prelude.{List, [], ◌∷◌}
use Rattle.std.proofs.Math.Option.{Option, none, some}

-- none where nothing is given
abbrev pub first_given : {A B : Type 0} → (A → Option B) → List A → Option B
first_given f [] = none
first_given f (a ∷ l) = elim (f a) [ some b ↦ some b | none ↦ first_given f l ]
