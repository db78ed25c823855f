-- The fold (document 01, "The fold"; document 02, asks 1 and 5): one lattice, the standing entry, the closed list, where a see word leads and which
-- of them a standing entry carries, the folded catalogue.
use Rattle.std.specs.Prelude.{Bool, true, false, not, ◌&&◌, List, [], ◌∷◌, map, ℕ, eqb}
use Rattle.std.proofs.Math.Option.{Option, none, some}
use Rattle.integers.specs.Every.{every}
use Rattle.integers.specs.First.{first_given}
use Rattle.lattices.specs.Vector.{Vec}
use Rattle.lattices.specs.Greedy.{vectors, reduction}
use Rattle.successive_minima.specs.Member.{is_member}
use Rattle.catalogue_rules.specs.Catalogue.{See, Entry}
use Rattle.catalogue_rules.specs.Read.{is_numbered}
use Rattle.catalogue_rules.specs.Form.{placed}

-- ---- one lattice

-- R7.3: the reduced vectors of an entry
abbrev pub reduced_of : Entry → List Vec
reduced_of e = vectors (reduction e.vectors).rows

-- R1.7: every vector of f is in the lattice of e
abbrev pub holds : Entry → Entry → Bool
holds e f = every (is_member (reduced_of e)) f.vectors

-- R1.7: "Lattices of different m are never one lattice."
unfoldable pub same_lattice : Entry → Entry → Bool
same_lattice e f = eqb e.head.m f.head.m && (holds e f && holds f e)

-- ---- the standing rule

-- R7.1: the first entry with a property, and `other` where there is none
abbrev pub first_entry : (Entry → Bool) → Entry → List Entry → Entry
first_entry has other [] = other
first_entry has other (e ∷ es) = elim (has e) [ true ↦ e | false ↦ first_entry has other es ]

-- R7.6: an entry, the first of its lattice and its standing entry. Entries that follow do not change the first; one that is no draft may change
-- which one stands
pub record Stood : Type 0 where
  pub entry : Entry
  pub first : Entry
  pub standing : Entry

-- `same` is the test for one lattice; what follows from the rules asks only that it decides an equivalence
module _ (same : Entry → Entry → Bool) where
  -- R7.1: "the first in the file with the same m and the same lattice"
  unfoldable pub first_by : List Entry → Entry → Entry
  first_by es e = first_entry (λ f. same f e) e es

  -- R7.1: "A standing entry is now the first of its lattice that is no draft, or the first of all if every one is a draft."
  unfoldable pub standing_by : List Entry → Entry → Entry
  standing_by es e = first_entry (λ f. same f e && not f.draft) (first_by es e) es

  -- R7.6
  abbrev pub stood_by : List Entry → Entry → Stood
  stood_by es e = record { entry = e; first = first_by es e; standing = standing_by es e }

  -- R7.6: the closed list: every entry has its standing entry before any see word is resolved
  abbrev pub closed_by : List Entry → List Stood
  closed_by es = map (stood_by es) es

-- R7.1, R7.6: the same for the lattices of entries. From the closed list on no rule looks at a lattice
abbrev pub standing : List Entry → Entry → Entry
standing = standing_by same_lattice

abbrev pub stood_of : List Entry → Entry → Stood
stood_of = stood_by same_lattice

abbrev pub closed_list : List Entry → List Stood
closed_list = closed_by same_lattice

-- R7.1, R7.2: an entry stands when its standing entry is itself
abbrev pub stands : Stood → Bool
stands s = is_numbered s.standing.head.number s.entry

-- R7.1, R7.2: the standing entries in file order
abbrev pub standing_in : List Stood → List Stood
standing_in [] = []
standing_in (s ∷ ss) = elim (stands s) [ true ↦ s ∷ standing_in ss | false ↦ standing_in ss ]

-- R7.8: "Lookup gives the standing number": that of the entry with number n, if there is one
abbrev pub lookup : List Stood → ℕ → Option ℕ
lookup [] n = none
lookup (s ∷ ss) n = elim (is_numbered n s.entry) [ true ↦ some s.standing.head.number | false ↦ lookup ss n ]

-- ---- the see-word rule

-- R7.4, R11.4: a see word led to the standing number `there`, unless that is its own
abbrev pub unless_own : Bool → See → (there : ℕ) → Option See
unless_own true w there = none
unless_own false w there = some (record { number = there; place = w.place })

-- R7.4, R11.4
abbrev pub led : (own : ℕ) → See → (there : ℕ) → Option See
led own w there = unless_own (eqb there own) w there

-- R7.4, R11.4
abbrev pub followed : List Stood → (own : ℕ) → Option See → Option See
followed ss own none = none
followed ss own (some w) = elim (lookup ss w.number) [ none ↦ none | some there ↦ led own w there ]

-- R7.4, R11.4: where the see word of an entry leads: it "names an entry whose standing entry is another than the entry that carries the word; the
-- word then names that standing entry"; the word of an entry that does not stand counts as carried by its standing entry
abbrev pub leads : List Stood → Stood → Option See
leads ss s = followed ss s.standing.head.number s.entry.see

-- R7.4: the same for an entry that is folded into the standing entry with number `own`; none for any other
abbrev pub leads_from : List Stood → (own : ℕ) → Stood → Option See
leads_from ss own s = elim (eqb s.standing.head.number own) [ true ↦ leads ss s | false ↦ none ]

-- R7.4: the first that is given, and the other where it is not
abbrev pub or_else : Option See → Option See → Option See
or_else none other = other
or_else (some w) other = some w

-- R7.4: "A standing entry shall carry the first see word, in file order, among all entries folded into it that leads to another standing entry"; and
-- "the standing entry's own see word is considered before the others"
abbrev pub carried : List Stood → Stood → Option See
carried ss s = or_else (leads ss s) (first_given (leads_from ss s.entry.head.number) ss)

-- ---- the folded catalogue

-- R7.3, R7.4: each with "its number, its reduced vectors", and the see word that it carries; "a standing draft is written with its mark"
abbrev pub printed : List Stood → Stood → Entry
printed ss s = record { head = s.entry.head; vectors = reduced_of s.entry; draft = s.entry.draft; see = carried ss s }

-- R7.2
abbrev pub printed_in : List Stood → List Entry
printed_in ss = map (printed ss) (standing_in ss)

-- R7.2: "The folded catalogue holds the standing entries in file order", each word at its new place
unfoldable pub folded : List Entry → List Entry
folded es = placed 0 (printed_in (closed_list es))
