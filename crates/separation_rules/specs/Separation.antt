-- What separates two entries (document 02, ask 2): "answer one of: same lattice; different m; different d; a vector of the first outside the
-- second's lattice, with its position and squared distance to it; or the same with the two exchanged. The first true one is given, with the lowest
-- position, from 1, among the vectors as entered. An unknown number gives 17."
use Rattle.std.specs.Prelude.{true, false, List, [], ◌∷◌, ℕ, suc, ℤ, eqb}
use Rattle.std.proofs.Math.Option.{Option, none, some}
use Rattle.lattices.specs.Vector.{Vec}
use Rattle.successive_minima.specs.Member.{squared_to, is_member}
use Rattle.catalogue_rules.specs.Catalogue.{Entry, Outcome, refused, accepted}
use Rattle.catalogue_rules.specs.Read.{is_numbered, read}
use Rattle.fold_rules.specs.Fold.{reduced_of, same_lattice}

-- R17.2: one of the five; a vector outside has a position and a squared distance
pub data Separation : Type 0 where
  same : Separation
  different_m : Separation
  different_d : Separation
  first_outside : (position : ℕ) (square : ℤ) → Separation
  second_outside : (position : ℕ) (square : ℤ) → Separation

-- R17.2: their order
abbrev pub rank : Separation → ℕ
rank same = 1
rank different_m = 2
rank different_d = 3
rank (first_outside position square) = 4
rank (second_outside position square) = 5

-- R17.3, R17.4: of some vectors, counted from n on, the first outside the lattice of the reduced vectors bs, told with its position and its squared
-- distance to that lattice; `other` where all are inside
abbrev pub outside_from : (tell : ℕ → ℤ → Separation) → (n : ℕ) → (bs vs : List Vec) → (other : Separation) → Separation
outside_from tell n bs [] other = other
outside_from tell n bs (v ∷ vs) other = elim (is_member bs v) [ false ↦ tell n (squared_to bs v) | true ↦ outside_from tell (suc n) bs vs other ]

-- R17.3: the vectors of the first, then those of the second. Where all are inside, both are one lattice (`one_of_five`)
abbrev pub outsides : Entry → Entry → Separation
outsides e f = outside_from first_outside 1 (reduced_of f) e.vectors (outside_from second_outside 1 (reduced_of e) f.vectors same)

-- R17.2: "The first true one is given"
unfoldable pub separation : Entry → Entry → Separation
separation e f = elim (same_lattice e f) [
  | true ↦ same
  | false ↦ elim (eqb e.head.m f.head.m) [
    | false ↦ different_m
    | true ↦ elim (eqb e.head.d f.head.d) [ false ↦ different_d | true ↦ outsides e f ]
  ]
]

-- ---- for every list of bytes and every two numbers

-- R17.1: a refusal with its place, or what separates the two
pub data Separated : Type 0 where
  refused_at : (number place : ℕ) → Separated
  told : Separation → Separated

-- R17.1: the entry with number n, if there is one
abbrev pub with_number : ℕ → List Entry → Option Entry
with_number n [] = none
with_number n (e ∷ es) = elim (is_numbered n e) [ true ↦ some e | false ↦ with_number n es ]

-- R9.17, R17.1: "An unknown number gives 17"
abbrev pub separated_by : (first second : Option Entry) → Separated
separated_by none second = refused_at 17 0
separated_by (some e) none = refused_at 17 0
separated_by (some e) (some f) = told (separation e f)

-- R8.7, R17.1: the catalogue's own refusals first
abbrev pub separated_in : Outcome → (first second : ℕ) → Separated
separated_in (refused n p) first second = refused_at n p
separated_in (accepted es) first second = separated_by (with_number first es) (with_number second es)

-- R8.7, R9.17, R17.1
unfoldable pub separate_of : (file : List ℕ) (first second : ℕ) → Separated
separate_of file first second = separated_in (read file) first second
