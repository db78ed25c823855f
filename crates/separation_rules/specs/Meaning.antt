-- What is said of two entries, in plain mathematics: no test and no reduction, only lattices, distances and the order of the vectors.
use Rattle.std.specs.Prelude.{◌≡◌, ◌⊎◌, ◌≢◌, ◌↔◌, List, ◌∷◌, ◌++◌, ℕ, suc, ◌≤◌, ℤ, length, ◌≤ℤ◌}
use Rattle.integers.specs.All.{All}
use Rattle.lattices.specs.Vector.{Vec, distance, In}
use Rattle.catalogue_rules.specs.Catalogue.{Entry}
use Rattle.fold_rules.specs.Meaning.{Among, OneLattice}
use Rattle.separation_rules.specs.Separation.{Separation, same, different_m, different_d, first_outside, second_outside, rank, refused_at, told, separate_of}

-- R12.3, R17.3, R17.4: the vector of e at this position, from 1, is not in the lattice of f, all before it are, and `square` is its squared
-- distance to that lattice: a lattice vector has it, and none is nearer
pub record Outside (e f : Entry) (position : ℕ) (square : ℤ) : Type 0 where
  pub before : List Vec
  pub vector : Vec
  pub after : List Vec
  pub split : e.vectors ≡ before ++ (vector ∷ after)
  pub counted : position ≡ suc (length before)
  pub inside : All (In f.vectors) before
  pub outside : ¬ In f.vectors vector
  pub nearest : Vec
  pub member : In f.vectors nearest
  pub reached : distance vector nearest ≡ square
  pub least : (w : Vec) → In f.vectors w → square ≤ℤ distance vector w

-- R12.3, R17.2: what each of the five says of e and f
abbrev pub Says : Entry → Entry → Separation → Type 0
Says e f same = OneLattice e f
Says e f different_m = e.head.m ≢ f.head.m
Says e f different_d = e.head.d ≢ f.head.d
Says e f (first_outside position square) = Outside e f position square
Says e f (second_outside position square) = Outside f e position square

-- R12.3, R17.2: it is true, none before it in the order is, and it is `same` exactly when both generate one lattice
pub record Separates (e f : Entry) (s : Separation) : Type 0 where
  pub says : Says e f s
  pub first : (t : Separation) → Says e f t → rank s ≤ rank t
  pub one : (s ≡ same) ↔ OneLattice e f

-- R12.3: what is answered to the numbers of e and f
pub record Answers (file : List ℕ) (e f : Entry) : Type 0 where
  pub given : Separation
  pub answered : separate_of file e.head.number f.head.number ≡ told given
  pub separates : Separates e f given

-- R12.3: every two numbers of entries are answered; no others are
pub record SeparatesAll (file : List ℕ) (es : List Entry) : Type 0 where
  pub entries : (e f : Entry) → Among e es → Among f es → Answers file e f
  pub others : (first second : ℕ) → All (λ e. e.head.number ≢ first) es ⊎ All (λ e. e.head.number ≢ second) es → separate_of file first second ≡ refused_at 17 0
