-- The volume of a list of vectors, and from it the test for dependence. The entries of the volume are the minors of the list;
-- `Dependent` of Vector.antt is the meaning, and `dependent_exactly` of exterior_algebra/specs/Dependence.antt says that this test decides it.
use Rattle.std.specs.Prelude.{Bool, true, false, List, [], ◌∷◌, ℕ, zero, suc, ℤ, pos, ◌+ℤ◌, ◌-ℤ◌, ◌*ℤ◌}
use Rattle.std.specs.Int.Signed.{le_z}
use Rattle.lattices.specs.Vector.{Vec}

-- a choice among coordinates: true where one is taken
abbrev pub Index : Type 0
Index = List Bool

-- an element of the exterior algebra: a number at each choice of coordinates
abbrev pub Form : Type 0
Form = Index → ℤ

abbrev pub head : Vec → ℤ
head [] = pos 0
head (x ∷ v) = x

abbrev pub rest : Vec → Vec
rest [] = []
rest (x ∷ v) = v

-- the unit of the exterior product: 1 at the empty choice
abbrev pub unit : Form
unit [] = pos 1
unit (false ∷ s) = unit s
unit (true ∷ s) = pos 0

-- R1.6, R9.5: the exterior product of a vector and a form, by expansion at the first coordinate
abbrev pub wedge : Vec → Form → Form
wedge a ω [] = pos 0
wedge a ω (false ∷ s) = wedge (rest a) (λ t. ω (false ∷ t)) s
wedge a ω (true ∷ s) = head a *ℤ ω (false ∷ s) -ℤ wedge (rest a) (λ t. ω (true ∷ t)) s

-- R1.6, R9.5: volume: the exterior product of the list
abbrev pub volume : List Vec → Form
volume [] = unit
volume (b ∷ bs) = wedge b (volume bs)

-- inner product of two forms over m coordinates
abbrev pub inner : ℕ → Form → Form → ℤ
inner zero f g = f [] *ℤ g []
inner (suc m) f g = inner m (λ s. f (false ∷ s)) (λ s. g (false ∷ s)) +ℤ inner m (λ s. f (true ∷ s)) (λ s. g (true ∷ s))

-- R1.6, R9.5: squared volume: the sum of the squares of the minors
unfoldable pub squared_volume : ℕ → List Vec → ℤ
squared_volume m bs = inner m (volume bs) (volume bs)

-- R1.6, R9.5: the test for dependence of vectors of m coordinates: the volume is zero
unfoldable pub is_dependent : ℕ → List Vec → Bool
is_dependent m bs = le_z (squared_volume m bs) (pos 0)
