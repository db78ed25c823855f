-- What the fold and the lookup promise, in plain mathematics: no test and no reduction, only lattices, lengths and the order of the file.
use Rattle.std.specs.Prelude.{◌≡◌, ◌≢◌, ◌↔◌, true, false, List, [], ◌∷◌, ◌++◌, map, ℕ, ◌≤◌, ◌<◌, length, get_or, ◌≤ℤ◌}
use Rattle.std.proofs.Math.Option.{some}
use Rattle.integers.specs.All.{All, Some}
use Rattle.lattices.specs.Vector.{Vec, N, In, Independent}
use Rattle.catalogue_rules.specs.Catalogue.{Form, other_form, See, Entry, accepted}
use Rattle.catalogue_rules.specs.Read.{read}
use Rattle.catalogue_rules.specs.Write.{write}
use Rattle.catalogue_rules.specs.Output.{untouched, filled_with}
use Rattle.catalogue_rules.specs.Moving.{to_form, move_of, bare}
use Rattle.fold_rules.specs.Fold.{folded}
use Rattle.fold_rules.specs.Services.{fold_of, nowhere, lookup_of, list_of}

-- ---- entries of a file

-- e is one of the entries
abbrev pub Among : Entry → List Entry → Type 0
Among e es = Some (λ f. f ≡ e) es

-- f has P, and no entry before it in the file has
pub record First (P : Entry → Type 0) (es : List Entry) (f : Entry) : Type 0 where
  pub before : List Entry
  pub after : List Entry
  pub split : es ≡ before ++ (f ∷ after)
  pub has : P f
  pub none : All (λ g. ¬ P g) before

-- R12.3: both generate one lattice: the same m, and the same vectors are combinations
pub record OneLattice (e f : Entry) : Type 0 where
  pub m : e.head.m ≡ f.head.m
  pub lattice : (v : Vec) → In e.vectors v ↔ In f.vectors v

-- `One` says what one lattice is
module _ (One : Entry → Entry → Type 0) where
  -- R12.3: f is the standing entry of e: the first that generates the lattice of e and is no draft; or all that generate it are drafts, and it is the
  -- first of these
  pub data StandsBy (es : List Entry) (e f : Entry) : Type 0 where
    checked : First (λ g. One g e × (g.draft ≡ false)) es f → StandsBy es e f
    drafts : All (λ g. One g e → g.draft ≡ true) es → First (λ g. One g e) es f → StandsBy es e f

  -- R12.3: the see word of f leads from the standing entry s to the number n: it names an entry whose standing entry is another than s and has
  -- that number
  pub record LeadsBy (es : List Entry) (s f : Entry) (n : ℕ) : Type 0 where
    pub word : See
    pub carried : f.see ≡ some word
    pub named : Entry
    pub among : Among named es
    pub number : named.head.number ≡ word.number
    pub standing : Entry
    pub stands : StandsBy es named standing
    pub other : standing ≢ s
    pub there : standing.head.number ≡ n

  -- R12.3: f generates the lattice of s and has a word that leads from s to some other standing entry
  pub record UsefulBy (es : List Entry) (s f : Entry) : Type 0 where
    pub one : One f s
    pub number : ℕ
    pub leads : LeadsBy es s f number

  -- R12.3: the standing entry s carries a see word to n: its own word leads there; or its own leads to no other standing entry, and that of the first
  -- entry of its lattice whose word leads to one leads to n
  pub data CarriesBy (es : List Entry) (s : Entry) (n : ℕ) : Type 0 where
    its_own : LeadsBy es s s n → CarriesBy es s n
    folded_in : ((k : ℕ) → ¬ LeadsBy es s s k) → (f : Entry) → First (UsefulBy es s) es f → LeadsBy es s f n → CarriesBy es s n

-- R12.3: the same for the lattices of entries
abbrev pub Stands : List Entry → Entry → Entry → Type 0
Stands = StandsBy OneLattice

abbrev pub Carries : List Entry → Entry → ℕ → Type 0
Carries = CarriesBy OneLattice

-- ---- what is printed

-- g has a see word, and it names n
pub record Sees (g : Entry) (n : ℕ) : Type 0 where
  pub word : See
  pub carried : g.see ≡ some word
  pub number : word.number ≡ n

-- R12.3: g is what is printed for the entry e of the file
pub record Prints (es : List Entry) (e g : Entry) : Type 0 where
  pub form : g.head.form ≡ e.head.form
  pub number : g.head.number ≡ e.head.number
  pub d : g.head.d ≡ e.head.d
  pub count : length g.vectors ≡ e.head.d
  pub draft : g.draft ≡ e.draft
  -- the vectors printed generate the lattice of e and no other
  pub one : OneLattice g e
  -- whichever independent vectors of that lattice anyone picks, more than k of them: some one is at least as long as vector k printed
  pub minima : (vs : List Vec) → All (In e.vectors) vs → Independent vs → (k : ℕ) → k < length vs → k < e.head.d → Some (λ v. N (get_or g.vectors k []) ≤ℤ N v) vs
  -- a see word to n is printed exactly when e carries one
  pub see : (n : ℕ) → Sees g n ↔ Carries es e n

-- from entry to entry of a file, the standing ones are printed and the others passed over
pub data Printing (all : List Entry) : List Entry → List Entry → Type 0 where
  done : Printing all [] []
  print : (e g : Entry) {es gs : List Entry} → Stands all e e → Prints all e g → Printing all es gs → Printing all (e ∷ es) (g ∷ gs)
  pass : (e : Entry) {es gs : List Entry} → ¬ Stands all e e → Printing all es gs → Printing all (e ∷ es) gs

-- no two entries generate one lattice
abbrev pub Apart : List Entry → Type 0
Apart [] = Unit {0}
Apart (g ∷ gs) = All (λ h. ¬ OneLattice g h) gs × Apart gs

-- ---- the fold of an accepted file with entries es
-- R12.3
pub record Folds (file : List ℕ) (es : List Entry) : Type 0 where
  -- an output that is long enough receives the folded catalogue and keeps the rest; a shorter one is refused and stays as it was
  pub written : (out : List ℕ) → length (write (folded es)) ≤ length out → fold_of file out ≡ filled_with (write (folded es)) out
  pub short : (out : List ℕ) → length out < length (write (folded es)) → fold_of file out ≡ untouched 16 0 out
  -- which is an accepted catalogue
  pub readable : read (write (folded es)) ≡ accepted (folded es)
  -- and folds to the same bytes
  pub again : (out : List ℕ) → fold_of (write (folded es)) out ≡ fold_of file out
  -- it prints the standing entries in file order, and no others
  pub printing : Printing es es (folded es)
  -- no two standing entries generate one lattice, and no two entries printed
  pub unique : (e f : Entry) → Stands es e e → Stands es f f → OneLattice e f → e ≡ f
  pub apart : Apart (folded es)
  -- each see word printed names an entry printed there
  pub named : All (λ g. (n : ℕ) → Sees g n → Some (λ h. h.head.number ≡ n) (folded es)) (folded es)

-- ---- the lookup of a number, which the entry e has
pub record Finds (file : List ℕ) (es : List Entry) (n : ℕ) (e : Entry) : Type 0 where
  pub accepted : (lookup_of file n).refusal ≡ 0
  -- it gives the number of the standing entry of e
  pub standing : Some (λ f. (f.head.number ≡ (lookup_of file n).standing) × Stands es e f) es
  -- an entry is printed under that number, and whatever is printed under it generates the lattice of e
  pub printed : Some (λ g. g.head.number ≡ (lookup_of file n).standing) (folded es)
  pub one : All (λ g. g.head.number ≡ (lookup_of file n).standing → OneLattice g e) (folded es)

-- R12.3: every number of an entry is found, and every number in a see word; no other is
pub record LooksUp (file : List ℕ) (es : List Entry) : Type 0 where
  pub entries : All (λ e. Finds file es e.head.number e) es
  pub sees : All (λ e. (n : ℕ) → Sees e n → Some (λ f. (f.head.number ≡ n) × Finds file es n f) es) es
  pub others : (n : ℕ) → All (λ e. e.head.number ≢ n) es → lookup_of file n ≡ nowhere 17 0

-- ---- the move of an accepted file with entries es to the form f
-- R12.3, R18
pub record MovesTo (f : Form) (file : List ℕ) (es : List Entry) : Type 0 where
  -- all heads were of the other form; they are of this one now, and nothing else is changed but where words stand
  pub before : All (λ e. e.head.form ≡ other_form f) es
  pub after : All (λ e. e.head.form ≡ f) (to_form f es)
  pub kept : map bare (to_form f es) ≡ map bare es
  -- an output that is long enough receives the moved catalogue and keeps the rest; a shorter one is refused and stays as it was
  pub written : (out : List ℕ) → length (write (to_form f es)) ≤ length out → move_of f file out ≡ filled_with (write (to_form f es)) out
  pub short : (out : List ℕ) → length out < length (write (to_form f es)) → move_of f file out ≡ untouched 16 0 out
  -- which is an accepted catalogue
  pub readable : read (write (to_form f es)) ≡ accepted (to_form f es)
  -- and moves back to the same bytes
  pub back : (out : List ℕ) → length file ≤ length out → move_of (other_form f) (write (to_form f es)) out ≡ filled_with file out
  -- its fold is the moved fold; its lookups and its listing are those of the file
  pub folds : (out : List ℕ) → fold_of (write (to_form f es)) out ≡ move_of f (write (folded es)) out
  pub lookups : (n : ℕ) → lookup_of (write (to_form f es)) n ≡ lookup_of file n
  pub lists : (out : List ℕ) → list_of (write (to_form f es)) out ≡ list_of file out
