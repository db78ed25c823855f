-- What an accepted catalogue holds, said without its bytes: limits, numbers, vectors and see words; and where the words of entries stand.
use Rattle.std.specs.Prelude.{◌≡◌, Bool, true, false, List, [], ◌∷◌, ℕ, suc, ◌+◌, ◌≤◌, length}
use Rattle.std.proofs.Math.Option.{Option, none, some}
use Rattle.lattices.specs.Vector.{Vec}
use Rattle.lattices.specs.Volume.{is_dependent}
use Rattle.integers.specs.Every.{any}
use Rattle.lattices.specs.Refusal.{one_to, too_long, most_vectors, most_coordinates}
use Rattle.integers.specs.All.{All}
use Rattle.catalogue_rules.specs.Catalogue.{Form, head_length, most_number, Head, See, Entry, coordinates, most_entries}
use Rattle.catalogue_rules.specs.Read.{is_numbered}

-- R2.7, R6.3, R6.13: a number that the form has room for
pub record HeadFits (h : Head) : Type 0 where
  pub number : one_to (most_number h.form) h.number ≡ true
  pub d : one_to most_vectors h.d ≡ true
  pub m : one_to most_coordinates h.m ≡ true

-- R2.1 to R2.4, R6.8
pub record VectorFits (m : ℕ) (v : Vec) : Type 0 where
  pub full : length v ≡ m
  pub short : too_long v ≡ false

-- R2.1 to R2.4, R6.8: d vectors of m coordinates, within the limits
pub record EntryFits (e : Entry) : Type 0 where
  pub head : HeadFits e.head
  pub count : length e.vectors ≡ e.head.d
  pub vectors : All (VectorFits e.head.m) e.vectors

-- R6.10: no number is used twice
abbrev pub Distinct : List Entry → Type 0
Distinct [] = Unit {0}
Distinct (e ∷ es) = (any (is_numbered e.head.number) es ≡ false) × Distinct es

-- R6.13: all heads are of one form
pub record OneForm (es : List Entry) : Type 0 where
  pub form : Form
  pub heads : All (λ e. e.head.form ≡ form) es

-- R6.10: what is known before the end
pub record Entered (es : List Entry) : Type 0 where
  pub one : OneForm es
  pub few : length es ≤ most_entries
  pub fits : All EntryFits es
  pub distinct : Distinct es

-- R6.10
abbrev pub EntryIndependent : Entry → Type 0
EntryIndependent e = is_dependent e.head.m e.vectors ≡ false

-- R6.10
abbrev pub Names : List Entry → Option See → Type 0
Names es none = Unit {0}
Names es (some s) = any (is_numbered s.number) es ≡ true

-- R6.10
pub record WellFormed (es : List Entry) : Type 0 where
  pub entered : Entered es
  pub independent : All EntryIndependent es
  pub named : All (λ e. Names es e.see) es

-- ---- places: a head, its coordinates, a mark if it is a draft, a see word if there is one

-- R8.9
abbrev pub see_at : ℕ → Option See → Option See
see_at i none = none
see_at i (some s) = some (record { number = s.number; place = i })

-- R8.9
abbrev pub past_see : ℕ → Option See → ℕ
past_see i none = i
past_see i (some s) = suc i

-- R8.9: the index after a head that is at i
abbrev pub past_head : ℕ → Head → ℕ
past_head i h = head_length h.form + i

-- R8.9: the index after an entry's coordinates, its head being at i
abbrev pub past_vectors : ℕ → Head → List Vec → ℕ
past_vectors i h vs = past_head i h + length (coordinates vs)

-- R8.9
abbrev pub past_draft : ℕ → Bool → ℕ
past_draft i true = suc i
past_draft i false = i

-- R8.9: the index of an entry's see word, or after the entry, its head being at i
abbrev pub past_mark : ℕ → Entry → ℕ
past_mark i e = past_draft (past_vectors i e.head e.vectors) e.draft

-- R8.9
abbrev pub head_at : ℕ → Head → Head
head_at i h = record { form = h.form; number = h.number; d = h.d; m = h.m; place = i }

-- R8.9
abbrev pub entry_at : ℕ → Entry → Entry
entry_at i e = record { head = head_at i e.head; vectors = e.vectors; draft = e.draft; see = see_at (past_mark i e) e.see }

-- R8.9: the entries as they stand when the first head is at i
abbrev pub placed : ℕ → List Entry → List Entry
placed i [] = []
placed i (e ∷ es) = entry_at i e ∷ placed (past_see (past_mark i e) e.see) es
